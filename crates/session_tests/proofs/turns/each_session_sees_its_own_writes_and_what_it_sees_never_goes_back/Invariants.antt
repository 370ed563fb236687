-- Both sessions may be driven on.
use Rattle.drive.specs.Hearing.{MayBeDriven}
use Rattle.session_tests.proofs.turns.each_session_sees_its_own_writes_and_what_it_sees_never_goes_back.Given as goal

abbrev pub invariant-loop-line : goal.invariant-loop-line
invariant-loop-line g l = record { ready : MayBeDriven l.bench.session l.bench.book; other : MayBeDriven l.other l.bench.book }
