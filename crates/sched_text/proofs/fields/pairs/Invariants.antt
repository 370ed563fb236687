-- the bytes so far, and those that the rest spells
use Rattle.std.proofs.Common.{◌≡◌, length}
use Rattle.sched_text.specs.Fields.{pairs_of}
use Rattle.sched_text.proofs.Pairs.{behind}
use Rattle.sched_text.proofs.fields.pairs.Given as goal

abbrev pub invariant-loop-rest : goal.invariant-loop-rest
invariant-loop-rest l = behind l.bytes.items (pairs_of l.rest) ≡ pairs_of l.text

abbrev pub decreases-loop-rest : goal.decreases-loop-rest
decreases-loop-rest l = length l.rest
