-- The text begins with the tokens so far, all sound by themselves.
use Rattle.std.proofs.Common.{length}
use Rattle.ext_tokens.proofs.Progress.{IsSoFar}
use Rattle.ext_tokens.proofs.scan.scan_text.Given as goal

abbrev pub invariant-tokens : goal.invariant-tokens
invariant-tokens l = IsSoFar l.text l.tokens.items l.rest l.line l.brackets

abbrev pub decreases-tokens : goal.decreases-tokens
decreases-tokens l = length l.rest
