-- The session may be driven on, the request may be sent, and the client is the tenant's.
use Rattle.std.proofs.Common.{◌≡◌}
use Rattle.wire.specs.Requests.{FitsRequest}
use Rattle.drive.specs.Hearing.{MayBeDriven}
use Rattle.parking_tests.proofs.talking.Talk.goes_on.Given as goal

abbrev pub invariant-requests : goal.invariant-requests
invariant-requests l = record {
  ready : MayBeDriven l.self.bench.session l.self.bench.book;
  fits : FitsRequest l.request;
  own : l.self.client.tenant ≡ l.fn.self.client.tenant;
}
