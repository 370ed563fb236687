-- The items are filled in, and answer the batch.
use Rattle.std.proofs.Common.{◌≡◌, List, refl, sym, subst, ◌∙◌}
use Rattle.task.specs.Parking.{ParkedCall}
use Rattle.wire.specs.declared.answers.Answer.{Answer}
use Rattle.session.specs.declared.session.Phase.{Phase}
use Rattle.session.specs.declared.session.Phase.TheVariants as phase
use Rattle.session.specs.Filling.{Fills}
use Rattle.session.specs.Standing.{Finishes, ItemsSoFar}
use Rattle.session.specs.Waiting.{TellsEnds, WaitsAt}
use Rattle.session.proofs.Batching.{batch-finishes, batch-over}
use Rattle.session.proofs.Waiting.{all-untold, ends-told}
use Rattle.session.proofs.session.Session.finish_batch.Goals as goal

pub returns-clause-finished : goal.returns-clause-finished
returns-clause-finished c = λ terms journal calls conf small fits awaits hold.
    let over = batch-over c.args.self.now c.tell_items.new.self c.fill-items.new.calls _ c.tell_items.ensures.kept c.replace.ensures.after in
    subst (λ (a : Answer). Finishes terms journal calls c.args.ends.items c.args.self.now c.tell_items.new.self a)
    (sym c.tell_items.ensures.told)
    (batch-finishes c.args.self.now c.tell_items.new.self terms journal calls c.in-Running.items.items c.fill-items.result.items c.args.ends.items small fits awaits
    (subst (λ (p : Phase). ItemsSoFar p c.in-Running.items.items) (sym (sym c.replace.ensures.value ∙ c.in-Running.is)) refl)
    hold c.requires.room
    (subst (λ (l : List ParkedCall). Fills c.args.self.now.parked c.in-Running.items.items c.args.ends.items l c.fill-items.result.items) over.0 c.fill-items.ensures)
    over.1 c.tell_items.ensures.shown)

pub returns-clause-told : goal.returns-clause-told
returns-clause-told c = λ each awaited.
    let now : c.args.self.now.phase ≡ phase.Running c.in-Running.items = sym c.replace.ensures.value ∙ c.in-Running.is in
    subst (λ (a : Answer). TellsEnds c.args.ends.items a) (sym c.tell_items.ensures.told)
    (ends-told c.args.self.now.parked c.fill-items.new.calls c.in-Running.items.items c.fill-items.result.items c.args.ends.items c.fill-items.ensures each
    (all-untold c.args.self.now.phase c.in-Running.items.items c.args.ends.items
    (λ place waits. subst (λ (p : Phase). WaitsAt p place) now waits) awaited))
