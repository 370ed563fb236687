-- The book is empty, and no worker has a call.
use Rattle.std.proofs.Common.{◌∙◌, [], ap, length, refl}
use Rattle.sim.specs.Standing.{IsLive}
use Rattle.sim.proofs.Opening.{all-idle, indexes-idle}
use Rattle.sim.proofs.Queueing.{length-idle}
use Rattle.sim.proofs.sim.Sim.new.Goals as goal

pub returns-clause-stands : goal.returns-clause-stands
returns-clause-stands c = record {
  book = c.new-2.ensures.stands;
  grants = c.new-2.ensures.grants ∙ c.of-grants.ensures ∙ c.into_vec.ensures;
  policy = refl;
  limit = c.new-2.ensures.limit;
  audit = c.new-2.ensures.audit;
  queues = c.in_ok-queues.ensures;
  pushed = c.new-3.ensures;
  next = refl;
  indexed = indexes-idle c.new-4.result c.args.head.workers c.new-4.ensures;
  installed = λ tenant. tt;
  live = (tt, all-idle (IsLive c.args.head.rights []) c.args.head.workers);
}

pub returns-clause-workers : goal.returns-clause-workers
returns-clause-workers c = ap length c.in_ok-queues.ensures ∙ length-idle c.args.head.workers
