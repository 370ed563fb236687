-- What is sent is taken, or refused.
use Rattle.std.proofs.Common.{List, refl, sym, subst, ap, ◌∙◌}
use Rattle.task.specs.Parking.{ParkedCall}
use Rattle.wire.specs.declared.answers.Answer.{Answer}
use Rattle.wire.specs.declared.answers.Answer.TheVariants as answer
use Rattle.wire.specs.declared.items.Item.{Item}
use Rattle.wire.specs.declared.requests.Request.TheVariants as request
use Rattle.session.specs.Standing.{Refused, tenant_of}
use Rattle.session.proofs.Asking.{refused-by-fault}
use Rattle.session.proofs.Taking.{take-asks, take-memory, take-not-parked, take-refused}
use Rattle.session.proofs.session.Session.take.Goals as goal

pub returns-in_default-clause-refused : goal.returns-in_default-clause-refused
returns-in_default-clause-refused c =
    subst (λ (a : Answer). Refused c.args.self.now c.end.new.self (request.Finish c.args.caller c.args.number c.args.finish.outcome c.args.finish.writes) a) (sym c.end.ensures.told)
    (refused-by-fault c.args.self.now c.end.new.self (request.Finish c.args.caller c.args.number c.args.finish.outcome c.args.finish.writes)
    (ap tenant_of c.in_default.is) refl c.end.ensures.ended)

pub returns-then-not-has-clause-refused : goal.returns-then-not-has-clause-refused
returns-then-not-has-clause-refused c =
    take-not-parked c.args.self.now c.in-Some.admitted.tenant c.args.caller c.args.number.0 c.args.finish.outcome c.args.finish.writes c.requires.open
    (ap tenant_of c.in-Some.is) (sym c.has.ensures ∙ c.if-not-has.true)

pub returns-then-self-clause-refused : goal.returns-then-self-clause-refused
returns-then-self-clause-refused c =
    take-memory c.args.self.now c.in-Some.admitted.tenant c.args.caller c.args.number.0 c.args.finish.outcome c.args.finish.writes c.requires.open
    (ap tenant_of c.in-Some.is) (sym c.has.ensures ∙ c.if-not-has.false)

pub returns-in-Ok-clause-asked : goal.returns-in-Ok-clause-asked
returns-in-Ok-clause-asked c =
    take-asks c.args.self.now (record c.args.self.now { parked = c.accept.new.self }) c.in-Some.admitted c.args.caller c.args.number c.args.finish c.in-Ok.sent c.requires.open
    c.in-Some.is c.if-self.false (sym c.has.ensures ∙ c.if-not-has.false) c.in-Ok.ensures.ok c.in-Ok.ensures.gone c.in-Ok.ensures.fewer c.accept.ensures.each refl

pub returns-in-Err-clause-refused : goal.returns-in-Err-clause-refused
returns-in-Err-clause-refused c =
    subst (λ (calls : List ParkedCall). Refused c.args.self.now (record c.args.self.now { parked = calls })
    (request.Finish c.args.caller c.args.number c.args.finish.outcome c.args.finish.writes) (answer.Finished c.refused_item.result)) (sym c.in-Err.ensures.err)
    (subst (λ (i : Item). Refused c.args.self.now c.args.self.now
    (request.Finish c.args.caller c.args.number c.args.finish.outcome c.args.finish.writes) (answer.Finished i)) (sym c.refused_item.ensures)
    (take-refused c.args.self.now c.in-Some.admitted c.args.caller c.args.number.0 c.args.finish.outcome c.args.finish.writes c.in-Err.why c.requires.open
    c.in-Some.is (sym c.has.ensures ∙ c.if-not-has.false) c.in-Err.ensures.refused))
