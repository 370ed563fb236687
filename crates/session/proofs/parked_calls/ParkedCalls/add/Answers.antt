-- The read joins those of the call.
use Rattle.std.specs.Prelude.{slice_set}
use Rattle.std.proofs.Common.{◌≡◌, List, Some, refl, ap, sym, subst, ◌∙◌}
use Rattle.task.specs.Parking.{ParkedCall}
use Rattle.session.specs.Keeping.{Changes, StandsAt, call_in, joined}
use Rattle.session.proofs.Keeping.{rewritten}
use Rattle.session.proofs.parked_calls.ParkedCalls.add.Goals as goal

pub returns-clause-ok : goal.returns-clause-ok
returns-clause-ok c = λ parked found.
    let after : List ParkedCall = slice_set c.self.inside.calls.items c.in-Some.place c.add.new.self in
    let changed = rewritten c.self.inside.calls.items after c.args.caller c.in-Some.place c.index_mut.result.now c.add.new.self c.self.invariant
    (subst (λ (calls : List ParkedCall). StandsAt calls c.args.caller c.in-Some.place) c.as_slice.ensures.value c.in-Some.ensures.there)
    c.index_mut.ensures.value (ap (λ (p : ParkedCall). p.call) c.in-Ok.ensures.ok) refl in
    let both : Some c.index_mut.result.now ≡ Some parked =
    sym changed.0 ∙ ap (λ (calls : List ParkedCall). call_in calls c.args.caller) c.self.view_is ∙ found in
    let same : c.index_mut.result.now ≡ parked = cc in
    let now : c.add.new.self ≡ joined parked c.args.item = c.in-Ok.ensures.ok ∙ ap (λ (p : ParkedCall). joined p c.args.item) same in
    subst (λ (calls : List ParkedCall). Changes calls after c.args.caller (Some (joined parked c.args.item))) c.self.view_is
    (subst (λ (p : ParkedCall). Changes c.self.inside.calls.items after c.args.caller (Some p)) now changed.1)

pub invariant_of-self-2 : goal.invariant_of-self-2
invariant_of-self-2 c =
    (rewritten c.self.inside.calls.items _ c.args.caller c.in-Some.place c.index_mut.result.now c.add.new.self c.self.invariant
    (subst (λ (calls : List ParkedCall). StandsAt calls c.args.caller c.in-Some.place) c.as_slice.ensures.value c.in-Some.ensures.there)
    c.index_mut.ensures.value (ap (λ (p : ParkedCall). p.call) c.in-Ok.ensures.ok) refl).2

pub returns-clause-each : goal.returns-clause-each
returns-clause-each c =
    (rewritten c.self.inside.calls.items _ c.args.caller c.in-Some.place c.index_mut.result.now c.add.new.self c.self.invariant
    (subst (λ (calls : List ParkedCall). StandsAt calls c.args.caller c.in-Some.place) c.as_slice.ensures.value c.in-Some.ensures.there)
    c.index_mut.ensures.value (ap (λ (p : ParkedCall). p.call) c.in-Ok.ensures.ok) refl).2
