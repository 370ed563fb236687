-- The record that was waited for is new, has room, and joins what was asked.
use Rattle.std.proofs.Common.{◌≡◌, ap, ◌∙◌}
use Rattle.task.specs.declared.phase.Phase.TheVariants.{Waiting}
use Rattle.task.specs.Turning.{Live}
use Rattle.task.proofs.Parts.{wanted-room, wanted-unread}
use Rattle.task.proofs.Turns.{records-keep}
use Rattle.task.proofs.plain.PlainTask.give.Goals as goal

pub add-requires-clause-new : goal.add-requires-clause-new
add-requires-clause-new c =
    let wanted : c.self.inside.phase ≡ Waiting c.args.item.table c.args.item.key = ap (λ (live : Live). live.phase) c.self.view_is ∙ c.requires.wanted in
    wanted-unread _ c.args.item.table c.args.item.key c.self.invariant.0 wanted

pub add-requires-clause-room : goal.add-requires-clause-room
add-requires-clause-room c =
    let wanted : c.self.inside.phase ≡ Waiting c.args.item.table c.args.item.key = ap (λ (live : Live). live.phase) c.self.view_is ∙ c.requires.wanted in
    wanted-room _ c.args.item.table c.args.item.key c.self.invariant.0 wanted

pub invariant_of-self-2 : goal.invariant_of-self-2
invariant_of-self-2 c =
    let wanted : c.self.inside.phase ≡ Waiting c.args.item.table c.args.item.key = ap (λ (live : Live). live.phase) c.self.view_is ∙ c.requires.wanted in
    (rw c.in_ok-add.ensures.ok (records-keep _ c.args.item c.self.invariant.0 wanted), c.self.invariant.1)
