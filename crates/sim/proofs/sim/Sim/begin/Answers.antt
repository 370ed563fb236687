-- The caller has a live call, or the tenant no such extension, or the call joins the queue.
use Rattle.std.specs.Prelude.{option_map}
use Rattle.std.proofs.Common.{refl, sym, ap, subst, ◌∙◌}
use Rattle.std.specs.Arc.{arc_value}
use Rattle.ext_check.specs.Checking.{IsAccepted}
use Rattle.book.specs.Indexes.{text_of}
use Rattle.task.specs.Extensions.{ExtValue}
use Rattle.task.specs.Turning.{Live}
use Rattle.sim.specs.Queueing.{with_back}
use Rattle.sim.proofs.Eventing.{begun-tells, busy-tells, missing-tells, not-some}
use Rattle.sim.proofs.sim.Sim.begin.Goals as goal

pub returns-in-Some-clause-told : goal.returns-in-Some-clause-told
returns-in-Some-clause-told c =
    busy-tells c.args.self.now c.args.worker c.args.call c.in-Some.number c.line_of.result (sym c.number.ensures ∙ c.in-Some.is) c.line_of.ensures

pub returns-in_default-2-clause-told : goal.returns-in_default-2-clause-told
returns-in_default-2-clause-told c =
    missing-tells c.args.self.now c.args.worker c.args.call c.ext_count-count.result c.line_of-in_default-2.result
    (sym c.number.ensures ∙ not-some c.number.result c.in_default.not-Some)
    (λ journal stands. sym (c.in_ok-ext.ensures journal stands) ∙ ap (option_map text_of) (not-some c.in_ok-ext.field-0 c.in_default-2.not-Some))
    c.ext_count-count.ensures c.line_of-in_default-2.ensures

pub returns-clause-told : goal.returns-clause-told
returns-clause-told c =
    let ext = arc_value c.in-Some-2.ext in
    begun-tells c.args.self.now _ c.args.worker c.args.call ext c.in_ok-rights.rights c.line_of-line.result c.requires.worker
    (sym c.number.ensures ∙ not-some c.number.result c.in_default.not-Some)
    (λ journal stands. sym (c.in_ok-ext.ensures journal stands) ∙ ap (option_map text_of) c.in-Some-2.is)
    (subst (λ (e : ExtValue). IsAccepted e.text e.program) c.deref.ensures c.program-accepted.ensures.accepted)
    c.in_ok-rights.ensures c.in_ok-add.ensures.ok refl refl refl refl
    (c.in_ok-put-in-Ok.ensures ∙ ap (λ (live : Live). with_back c.args.self.now.queues c.args.worker live) c.in-Ok.ensures.ok)
    c.line_of-line.ensures
