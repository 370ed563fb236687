-- One more queue, and at the end as many as workers.
use Rattle.std.proofs.Common.{◌≡◌, ◌≤◌, length, sym, ap, ◌∙◌, arith}
use Rattle.std.proofs.lemmas.Grind.{common_steps}
use Rattle.sim.proofs.Queueing.{length-idle, load-none, one-more-worker}
use Rattle.sim.proofs.queues.Queues.new.Goals as goal

pub loop-worker-preserved : goal.loop-worker-preserved
loop-worker-preserved c = grind (arith, common_steps, one-more-worker c.loop-worker._worker)

pub invariant_of-result : goal.invariant_of-result
invariant_of-result c =
    let many : length c.loop-worker.queues.items ≡ c.loop-worker._worker = ap length c.loop-worker.invariant ∙ length-idle c.loop-worker._worker in
    let load = load-none c.loop-worker._worker c.loop-worker.queues.items c.loop-worker.invariant in
    let few : length c.loop-worker.queues.items ≤ 64 = omega arith in
    (few, sym load)
