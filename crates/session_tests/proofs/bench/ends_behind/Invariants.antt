-- The session may be driven on.
use Rattle.drive.specs.Hearing.{MayBeDriven}
use Rattle.session_tests.proofs.bench.ends_behind.Given as goal

abbrev pub invariant-loop-line : goal.invariant-loop-line
invariant-loop-line g l = MayBeDriven l.bench.session l.bench.book
