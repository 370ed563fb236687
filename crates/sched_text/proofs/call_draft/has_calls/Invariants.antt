-- the calls still to come are there just if all are
use Rattle.std.proofs.Common.{◌≡◌, length}
use Rattle.sched_text.specs.CallDrafts.{has_calls}
use Rattle.sched_text.specs.Texts.{lines_of}
use Rattle.sched_text.proofs.call_draft.has_calls.Given as goal

abbrev pub invariant-loop-left : goal.invariant-loop-left
invariant-loop-left l = has_calls l.left (lines_of l.rest) ≡ has_calls l.count (lines_of l.text)

abbrev pub decreases-loop-left : goal.decreases-loop-left
decreases-loop-left l = length l.rest
