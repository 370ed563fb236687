-- Each request is looked at by its kind.
use Rattle.std.specs.Prelude.{IfErr, IfOk}
use Rattle.std.proofs.Common.{sym, subst}
use Rattle.wire.specs.declared.requests.Request.{Request}
use Rattle.session.specs.Standing.{Asks, Refused}
use Rattle.session.proofs.Asking.{asks-plain}
use Rattle.session.proofs.session.Session.prepare.Goals as goal

pub returns-in-Finish-clause-refused : goal.returns-in-Finish-clause-refused
returns-in-Finish-clause-refused c =
    subst (λ (m : Request). IfErr c.take.result (Refused c.args.self.now c.take.new.self m)) (sym c.in-Finish.is) c.take.ensures.refused

pub returns-in-Finish-clause-asked : goal.returns-in-Finish-clause-asked
returns-in-Finish-clause-asked c =
    subst (λ (m : Request). IfOk c.take.result (Asks c.args.self.now c.take.new.self m)) (sym c.in-Finish.is) c.take.ensures.asked

pub returns-in_default-clause-asked : goal.returns-in_default-clause-asked
returns-in_default-clause-asked c =
    asks-plain c.args.self.now c.args.request c.requires.open c.in_default.not-Install
    (λ caller number outcome writes is. c.in_default.not-Finish caller (record { 0 = number }) outcome writes is)
