-- What is sent has the shape of a run.
use Rattle.std.proofs.Common.{subst}
use Rattle.ext_mean.specs.Outcomes.{EndsWith}
use Rattle.clients.specs.declared.plain.Asks.{Asks}
use Rattle.clients.specs.Plain.{IsAskedBy}
use Rattle.clients.specs.Pushed.{Pushed, meant}
use Rattle.clients.proofs.Carrying.{shape-of}
use Rattle.clients.proofs.plain.PlainPushedCall.into_sent.Goals as goal

pub invariant_of-result : goal.invariant_of-result
invariant_of-result c =
    let own : Pushed = record { call = c.self.inside.parked.call; ext = c.self.inside.parked.ext; rights = c.self.inside.rights; reads = c.self.inside.parked.reads } in
    let ends : EndsWith (meant own) c.in-Finish.outcome c.in-Finish.writes = subst (λ (asks : Asks). IsAskedBy (meant own) asks) c.in-Finish.is c.self.invariant.1 in
    let shape = shape-of own c.in-Finish.outcome c.in-Finish.writes ends in
    record { distinct = shape.distinct; few = shape.few; shaped = shape.shaped }
