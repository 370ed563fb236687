-- The client fetches the record that the program wants, and where it fetches none the run has ended.
use Rattle.std.proofs.Common.{subst}
use Rattle.clients.specs.Client.{at_client}
use Rattle.clients.specs.Pushed.{HasEnd, IsWanted, Pushed, meant}
use Rattle.clients.proofs.Carrying.{wanted-of}
use Rattle.clients.proofs.Sending.{ends-without-fetch, fetches-wanted}
use Rattle.clients.proofs.pushed_call.PushedCall.wanted.Goals as goal

pub returns-in-Fetch-clause-place : goal.returns-in-Fetch-clause-place
returns-in-Fetch-clause-place c =
    let client = c.self.inside.client in
    let own : Pushed = at_client c.self.inside.parked client in
    let wants = fetches-wanted client own c.self.inside.sent _ _ c.in-Fetch.table c.in-Fetch.key c.self.invariant.1 c.in-Fetch.is in
    subst (λ (p : Pushed). IsWanted p c.in-Fetch.table c.in-Fetch.key) c.self.view_is
    (wanted-of own c.in-Fetch.table c.in-Fetch.key c.self.invariant.0 wants)

pub returns-in_default-clause-place : goal.returns-in_default-clause-place
returns-in_default-clause-place c =
    let client = c.self.inside.client in
    let own : Pushed = at_client c.self.inside.parked client in
    subst (λ (p : Pushed). HasEnd (meant p)) c.self.view_is
    (ends-without-fetch client own c.self.inside.sent c.self.invariant.1 c.in_default.not-Fetch)
