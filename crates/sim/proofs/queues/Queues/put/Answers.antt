-- Where the call was not queued, nothing changes.
use Rattle.std.proofs.Common.{◌≡◌, ◌<◌, ◌≤◌, List, [], length, set, sym, ap, subst, ◌∙◌, arith}
use Rattle.std.proofs.lemmas.List.{length-set, set-get_or}
use Rattle.task.specs.Turning.{Live}
use Rattle.sim.specs.Play.{load_of}
use Rattle.sim.proofs.Queueing.{queue-at}
use Rattle.sim.proofs.queues.Queues.put.Goals as goal

pub invariant_of-self : goal.invariant_of-self
invariant_of-self c =
    let queues = c.self.inside.queues.items in
    let old = c.index_mut-queue.result.now in
    let small : c.args.worker < length queues = subst (λ (before : List (List Live)). c.args.worker < length before) (sym c.self.view_is) c.requires in
    let same : set queues c.args.worker c.push.new.self ≡ queues =
    ap (set queues c.args.worker) (c.in_err-push.ensures.err ∙ sym (queue-at queues c.args.worker old small c.index_mut-queue.ensures.value))
    ∙ set-get_or queues c.args.worker [] in
    let few : length (set queues c.args.worker c.push.new.self) ≤ 64 = omega (arith, c.self.invariant.0, length-set queues c.args.worker c.push.new.self) in
    (few, c.self.invariant.1 ∙ ap load_of (sym same))
