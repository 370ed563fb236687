-- Between batches the session may be driven on, and its client rests.
use Rattle.std.proofs.Common.{◌≡◌}
use Rattle.client_core.specs.declared.stage.Stage.TheVariants.{Idle}
use Rattle.drive.specs.Hearing.{MayBeDriven}
use Rattle.parking_tests.specs.declared.books.TheConstants.{TENANT}
use Rattle.parking_tests.proofs.scripts.random_calls_end_as_they_mean.Given as goal

abbrev pub invariant-batches : goal.invariant-batches
invariant-batches g l = record {
  ready : MayBeDriven l.talk.bench.session l.talk.bench.book;
  idle : l.talk.client.stage ≡ Idle;
  own : l.talk.client.tenant ≡ TENANT;
}
