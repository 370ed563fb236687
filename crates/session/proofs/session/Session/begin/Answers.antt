-- Calls of the batch run, or all were refused; without memory the session ends.
use Rattle.std.specs.Prelude.{◌==◌, true, false}
use Rattle.std.proofs.Common.{◌≡◌, List, length, refl, sym, subst, ap, ◌∙◌}
use Rattle.wire.specs.declared.answers.Answer.{Answer}
use Rattle.wire.specs.declared.requests.Request.TheVariants as request
use Rattle.session.specs.declared.fault.Fault.TheVariants as fault
use Rattle.session.specs.declared.plan.Begun.{Begun}
use Rattle.session.specs.declared.plan.Plan.{Plan}
use Rattle.session.specs.declared.plan.Plan.TheVariants as plan
use Rattle.session.specs.Standing.{Planned}
use Rattle.session.specs.Steps as steps
use Rattle.session.proofs.Asking.{fault-planned}
use Rattle.session.proofs.Batching.{batch-runs, batch-sent}
use Rattle.session.proofs.session.Session.begin.Goals as goal

pub returns-then-is_empty : goal.returns-then-is_empty
returns-then-is_empty c = λ journal stands.
    subst (λ (a : Answer). Planned c.args.self.now c.tell_items.new.self c.args.book.now c.args.book.now journal (request.Batch c.args.calls) (plan.Send a)) (sym c.tell_items.ensures.told)
    (batch-sent c.args.self.now c.tell_items.new.self c.args.book.now journal c.args.tenant c.args.calls c.in-Ok.field-0.items.items c.in-Ok.field-0.begun.items
    c.requires.open (c.requires.fits journal stands) c.requires.admitted stands c.requires.calls
    (c.in-Ok.ensures journal stands (c.requires.fits journal stands)) c.tell_items.ensures.kept c.tell_items.ensures.shown)

pub returns-else-is_empty : goal.returns-else-is_empty
returns-else-is_empty c = λ journal stands.
    batch-runs c.args.self.now _ c.args.book.now journal c.args.tenant c.args.calls c.in-Ok.field-0.items c.in-Ok.field-0.begun
    (c.requires.fits journal stands) c.requires.admitted stands c.requires.calls
    (c.in-Ok.ensures journal stands (c.requires.fits journal stands))
    (λ none.
    let some : false ≡ (length c.as_slice.result.now == 0) = sym c.if-is_empty.false ∙ c.is_empty.ensures in
    let clash : false ≡ true = some ∙ ap (λ (list : List Begun). length list == 0) (c.as_slice.ensures.value ∙ none) in cc)
    refl

pub returns-in-Err : goal.returns-in-Err
returns-in-Err c = λ journal stands.
    subst (λ (p : Plan). Planned c.args.self.now c.stop.new.self c.args.book.now c.args.book.now journal (request.Batch c.args.calls) p) (sym c.stop.ensures.told)
    (fault-planned c.args.self.now c.stop.new.self c.args.book.now journal (request.Batch c.args.calls) fault.Memory stands
    (c.requires.fits journal stands) c.stop.ensures.ended (λ state was. steps.no_memory (request.Batch c.args.calls)))
