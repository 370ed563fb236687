-- the digits still to come go on from the value, which is not above the most
use Rattle.std.proofs.Common.{◌≡◌, ◌≤◌, length}
use Rattle.sched_text.specs.Reading.{digits_within}
use Rattle.sched_text.proofs.fields.digits.Given as goal

abbrev pub invariant-loop-rest : goal.invariant-loop-rest
invariant-loop-rest l = record {
  same : digits_within l.most l.value l.rest ≡ digits_within l.most 0 l.text;
  within : l.value ≤ l.most;
}

abbrev pub decreases-loop-rest : goal.decreases-loop-rest
decreases-loop-rest l = length l.rest
