-- The call is taken from its place.
use Rattle.std.proofs.Common.{List, None, subst}
use Rattle.task.specs.Parking.{ParkedCall}
use Rattle.session.specs.Keeping.{Changes, StandsAt}
use Rattle.session.proofs.Keeping.{removed}
use Rattle.session.proofs.parked_calls.ParkedCalls.accept.Goals as goal

pub invariant_of-self : goal.invariant_of-self
invariant_of-self c =
    (removed c.self.inside.calls.items c.remove-parked.new.self.items c.args.caller c.in-Some.place c.self.invariant
    (subst (λ (calls : List ParkedCall). StandsAt calls c.args.caller c.in-Some.place) c.as_slice.ensures.value c.in-Some.ensures.there)
    c.remove-parked.ensures.items).1

pub returns-in-Ok-clause-gone : goal.returns-in-Ok-clause-gone
returns-in-Ok-clause-gone c =
    subst (λ (calls : List ParkedCall). Changes calls c.remove-parked.new.self.items c.args.caller None) c.self.view_is
    (removed c.self.inside.calls.items c.remove-parked.new.self.items c.args.caller c.in-Some.place c.self.invariant
    (subst (λ (calls : List ParkedCall). StandsAt calls c.args.caller c.in-Some.place) c.as_slice.ensures.value c.in-Some.ensures.there)
    c.remove-parked.ensures.items).0

pub returns-in-Ok-clause-each : goal.returns-in-Ok-clause-each
returns-in-Ok-clause-each c =
    (removed c.self.inside.calls.items c.remove-parked.new.self.items c.args.caller c.in-Some.place c.self.invariant
    (subst (λ (calls : List ParkedCall). StandsAt calls c.args.caller c.in-Some.place) c.as_slice.ensures.value c.in-Some.ensures.there)
    c.remove-parked.ensures.items).1
