-- The items so far are those of the front that was read.
use Rattle.std.proofs.Common.{length}
use Rattle.ext_tokens.proofs.Lexing.{IsRead}
use Rattle.ext_tokens.proofs.strings.string.Given as goal

abbrev pub invariant-loop-item : goal.invariant-loop-item
invariant-loop-item l = IsRead l.inner l.items.items l.rest

abbrev pub decreases-loop-item : goal.decreases-loop-item
decreases-loop-item l = length l.rest
