-- The places so far are empty.
use Rattle.std.proofs.Common.{◌-◌, length}
use Rattle.clients.specs.Placing.{EmptyBelow}
use Rattle.clients.proofs.pushed_calls.first_full.Given as goal

abbrev pub invariant-loop-place : goal.invariant-loop-place
invariant-loop-place l = EmptyBelow l.calls l.place

abbrev pub decreases-loop-place : goal.decreases-loop-place
decreases-loop-place l = length l.calls - l.place
