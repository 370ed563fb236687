-- The client asked for the record that the program wants.
use Rattle.std.proofs.Common.{subst}
use Rattle.clients.specs.declared.plain.Asks.{Asks}
use Rattle.clients.specs.Plain.{IsAskedBy}
use Rattle.clients.specs.Pushed.{IsWanted, Pushed, WantsAt, meant}
use Rattle.clients.proofs.Carrying.{wanted-of}
use Rattle.clients.proofs.plain.PlainPushedCall.wanted.Goals as goal

pub returns-in-Fetch-clause-place : goal.returns-in-Fetch-clause-place
returns-in-Fetch-clause-place c =
    let own : Pushed = record { call = c.self.inside.parked.call; ext = c.self.inside.parked.ext; rights = c.self.inside.rights; reads = c.self.inside.parked.reads } in
    let wants : WantsAt (meant own) c.in-Fetch.table c.in-Fetch.key = subst (λ (asks : Asks). IsAskedBy (meant own) asks) c.in-Fetch.is c.self.invariant.1 in
    subst (λ (p : Pushed). IsWanted p c.in-Fetch.table c.in-Fetch.key) c.self.view_is (wanted-of own c.in-Fetch.table c.in-Fetch.key c.self.invariant.0 wants)
