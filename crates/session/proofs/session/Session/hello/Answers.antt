-- A tenant with its key is admitted; else, or without memory, the session ends.
use Rattle.std.proofs.Common.{sym, subst, ◌∙◌}
use Rattle.wire.specs.declared.requests.Request.TheVariants as request
use Rattle.session.specs.declared.fault.Fault.TheVariants as fault
use Rattle.session.specs.declared.plan.Plan.{Plan}
use Rattle.session.specs.Standing.{Planned}
use Rattle.session.specs.Steps as steps
use Rattle.session.proofs.Asking.{fault-planned}
use Rattle.session.proofs.Telling.{hello-planned}
use Rattle.session.proofs.session.Session.hello.Goals as goal

pub returns-then-not-knows : goal.returns-then-not-knows
returns-then-not-knows c = λ journal stands.
    subst (λ (p : Plan). Planned c.args.self.now c.stop.new.self c.args.book.now c.args.book.now journal (request.Hello c.args.tenant c.args.key) p) (sym c.stop.ensures.told)
    (fault-planned c.args.self.now c.stop.new.self c.args.book.now journal (request.Hello c.args.tenant c.args.key) fault.WrongKey stands
    (c.requires.fits journal stands) c.stop.ensures.ended
    (λ state was. steps.wrong_key c.args.tenant c.args.key (was.tenant ∙ c.requires.first) (sym c.knows.ensures ∙ c.if-not-knows.true)))

pub returns-in_default : goal.returns-in_default
returns-in_default c = λ journal stands.
    subst (λ (p : Plan). Planned c.args.self.now c.stop-in_default.new.self c.args.book.now c.args.book.now journal (request.Hello c.args.tenant c.args.key) p) (sym c.stop-in_default.ensures.told)
    (fault-planned c.args.self.now c.stop-in_default.new.self c.args.book.now journal (request.Hello c.args.tenant c.args.key) fault.Memory stands
    (c.requires.fits journal stands) c.stop-in_default.ensures.ended (λ state was. steps.no_memory (request.Hello c.args.tenant c.args.key)))

pub returns-in_default-rights : goal.returns-in_default-rights
returns-in_default-rights c = λ journal stands.
    subst (λ (p : Plan). Planned c.args.self.now c.stop-in_default-rights.new.self c.args.book.now c.args.book.now journal (request.Hello c.args.tenant c.args.key) p) (sym c.stop-in_default-rights.ensures.told)
    (fault-planned c.args.self.now c.stop-in_default-rights.new.self c.args.book.now journal (request.Hello c.args.tenant c.args.key) fault.Memory stands
    (c.requires.fits journal stands) c.stop-in_default-rights.ensures.ended (λ state was. steps.no_memory (request.Hello c.args.tenant c.args.key)))

pub returns : goal.returns
returns c = λ journal stands.
    hello-planned c.args.self.now c.show.new.self c.args.book.now journal c.args.tenant c.args.key c.len-at.result c.in-Ok.own c.in-Ok-rights.rights
    c.requires.open (c.requires.fits journal stands) c.requires.first stands (sym c.knows.ensures ∙ c.if-not-knows.false)
    (c.in-Ok.ensures journal stands) (c.in-Ok-rights.ensures journal stands) (c.len-at.ensures journal stands) c.show.ensures
