-- So many queues, each empty.
use Rattle.std.proofs.Common.{◌≡◌}
use Rattle.sim.specs.Play.{idle_workers}
use Rattle.sim.proofs.queues.Queues.new.Given as goal

abbrev pub invariant-loop-worker : goal.invariant-loop-worker
invariant-loop-worker l = l.queues.items ≡ idle_workers l._worker
