-- the bytes passed over, and then what the cut of the others gives
use Rattle.std.proofs.Common.{◌≡◌, take, drop}
use Rattle.sched_text.specs.Fields.{cut}
use Rattle.sched_text.proofs.Cuts.{with_front}
use Rattle.sched_text.proofs.fields.cut.Given as goal

abbrev pub invariant-loop-at : goal.invariant-loop-at
invariant-loop-at l = with_front (take l.at l.text) (cut l.mark (drop l.at l.text)) ≡ cut l.mark l.text
