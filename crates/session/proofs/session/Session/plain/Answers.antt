-- A later Hello is out of turn.
use Rattle.std.proofs.Common.{sym, subst, ap, ◌∙◌}
use Rattle.session.specs.declared.fault.Fault.TheVariants as fault
use Rattle.session.specs.declared.plan.Plan.{Plan}
use Rattle.session.specs.Standing.{Planned}
use Rattle.session.specs.Steps as steps
use Rattle.session.specs.Steps.{is_hello}
use Rattle.session.proofs.Asking.{fault-planned, later-hello}
use Rattle.session.proofs.session.Session.plain.Goals as goal

pub returns-in-Hello-clause-planned : goal.returns-in-Hello-clause-planned
returns-in-Hello-clause-planned c = λ journal stands.
    subst (λ (p : Plan). Planned c.args.self.now c.stop.new.self c.args.book.now c.args.book.now journal c.args.request p) (sym c.stop.ensures.told)
    (fault-planned c.args.self.now c.stop.new.self c.args.book.now journal c.args.request fault.OutOfTurn stands
    (c.requires.fits journal stands) c.stop.ensures.ended
    (λ state was. steps.out_of_turn c.args.request
    (later-hello c.args.self.now state c.args.request c.in-Some.tenant was (sym c.tenant.ensures ∙ c.in-Some.is) (ap is_hello c.in-Hello.is))))
