-- The caller's call among those that are left is its call among all.
use Rattle.std.proofs.Common.{◌≡◌, drop}
use Rattle.session.specs.Keeping.{call_in}
use Rattle.session.proofs.parked_calls.place_of.Given as goal

abbrev pub invariant-loop-place : goal.invariant-loop-place
invariant-loop-place l = call_in (drop l.place l.calls) l.caller ≡ call_in l.calls l.caller
