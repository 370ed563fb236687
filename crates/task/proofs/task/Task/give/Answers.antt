-- The record that was waited for is new, has room, and joins what was asked; the machine is fed it.
use Rattle.std.proofs.Common.{◌≡◌, ℕ, List, Option, ap, ◌∙◌}
use Rattle.std.specs.Arc.{arc_value}
use Rattle.gen_vm.specs.Running.{fed_with}
use Rattle.task.specs.declared.phase.Phase.TheVariants.{Waiting}
use Rattle.task.specs.Following.{phase_of}
use Rattle.task.specs.Turning.{Live}
use Rattle.task.proofs.Parts.{wanted-room, wanted-unread}
use Rattle.task.proofs.Stepping.{given-follows, given-task}
use Rattle.task.proofs.task.Task.give.Goals as goal

pub add-requires-clause-new : goal.add-requires-clause-new
add-requires-clause-new c =
    let wanted : phase_of c.self.inside.killed c.self.inside.run.phase ≡ Waiting c.args.item.table c.args.item.key =
    ap (λ (live : Live). live.phase) c.self.view_is ∙ c.requires.wanted in
    wanted-unread _ c.args.item.table c.args.item.key c.self.invariant.0 wanted

pub add-requires-clause-room : goal.add-requires-clause-room
add-requires-clause-room c =
    let wanted : phase_of c.self.inside.killed c.self.inside.run.phase ≡ Waiting c.args.item.table c.args.item.key =
    ap (λ (live : Live). live.phase) c.self.view_is ∙ c.requires.wanted in
    wanted-room _ c.args.item.table c.args.item.key c.self.invariant.0 wanted

pub invariant_of-self-2 : goal.invariant_of-self-2
invariant_of-self-2 c =
    let inside = c.self.inside in
    let item = c.args.item in
    let wanted : phase_of inside.killed inside.run.phase ≡ Waiting item.table item.key =
    ap (λ (live : Live). live.phase) c.self.view_is ∙ c.requires.wanted in
    let fed : c.feed.new.self ≡ fed_with item.value inside.run.phase inside.run =
    c.feed.ensures.fed ∙ ap (λ (value : Option (List ℕ)). fed_with value inside.run.phase inside.run) c.in-Ok.ensures in
    rw c.in_ok-add.ensures.ok (
      given-task (arc_value inside.code) inside.call (arc_value inside.ext) inside.rights inside.reads inside.spent inside.killed inside.run c.feed.new.self
          item c.self.invariant.2 wanted fed c.self.invariant.0,
      c.self.invariant.1,
      given-follows (arc_value inside.code) inside.call (arc_value inside.ext) inside.rights inside.reads inside.spent inside.killed inside.run c.feed.new.self
          item c.self.invariant.2 wanted fed (c.feed.ensures.stands (arc_value inside.code)),
    )
