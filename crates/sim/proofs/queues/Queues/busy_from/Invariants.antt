-- What the workers left give is the answer.
use Rattle.std.proofs.Common.{◌≡◌, ◌-◌, length, drop}
use Rattle.sim.specs.Play.{first_busy}
use Rattle.sim.proofs.queues.Queues.busy_from.Given as goal

abbrev pub invariant-loop-worker : goal.invariant-loop-worker
invariant-loop-worker l = first_busy l.worker (drop l.worker l.self) ≡ first_busy l.fn.first (drop l.fn.first l.self)

abbrev pub decreases-loop-worker : goal.decreases-loop-worker
decreases-loop-worker l = length l.self - l.worker
