-- The session may be driven on.
use Rattle.drive.specs.Hearing.{MayBeDriven}
use Rattle.parking_tests.proofs.bench.goes_through.Given as goal

abbrev pub invariant-loop-line : goal.invariant-loop-line
invariant-loop-line g l = MayBeDriven l.bench.session l.bench.book
