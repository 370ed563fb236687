-- The worker that is found has a call.
use Rattle.std.proofs.Common.{sym, ◌∙◌}
use Rattle.sim.proofs.Busy.{has-any, has-behind}
use Rattle.sim.proofs.queues.Queues.busy.Goals as goal

pub returns-in-Some-clause-found : goal.returns-in-Some-clause-found
returns-in-Some-clause-found c =
    has-behind c.args.self.now c.args.next c.in-Some.worker (sym c.busy_from.ensures.first ∙ c.in-Some.is)

pub returns-in-None-clause-found : goal.returns-in-None-clause-found
returns-in-None-clause-found c = has-any c.args.self.now c.busy_from-in-None.result c.busy_from-in-None.ensures.first
