-- Each ask is answered by its kind.
use Rattle.std.proofs.Common.{Bool, sym, subst}
use Rattle.wire.specs.Requests.{FitsRequest}
use Rattle.session.specs.declared.plan.Ask.{Ask}
use Rattle.session.specs.Sending.{SentFits}
use Rattle.session.specs.Standing.{AskFits, IsAsked, PlannedFrom, StandsAsking, request_of, tenant_of}
use Rattle.session.proofs.session.Session.answer.Goals as goal

pub returns-in-Install-clause-planned : goal.returns-in-Install-clause-planned
returns-in-Install-clause-planned c = λ journal stands.
    subst (λ (a : Ask). PlannedFrom (StandsAsking c.args.self.now a) c.args.self.now c.install.new.self c.args.book.now c.install.new.book journal (request_of a) c.install.result)
    (sym c.in-Install.is) (c.install.ensures.planned journal stands)

pub returns-in-Finish-clause-planned : goal.returns-in-Finish-clause-planned
returns-in-Finish-clause-planned c = λ journal stands.
    subst (λ (a : Ask). PlannedFrom (StandsAsking c.args.self.now a) c.args.self.now c.finish.new.self c.args.book.now c.finish.new.book journal (request_of a) c.finish.result)
    (sym c.in-Finish.is) (c.finish.ensures.planned journal stands)

pub returns-in-Plain-clause-planned : goal.returns-in-Plain-clause-planned
returns-in-Plain-clause-planned c = λ journal stands.
    subst (λ (a : Ask). PlannedFrom (StandsAsking c.args.self.now a) c.args.self.now c.plain.new.self c.args.book.now c.plain.new.book journal (request_of a) c.plain.result)
    (sym c.in-Plain.is) (c.plain.ensures.planned journal stands)

pub finish-requires-clause-sent_fits : goal.finish-requires-clause-sent_fits
finish-requires-clause-sent_fits c = λ journal stands.
    subst (λ (audit : Bool). SentFits (tenant_of c.args.self.now.admitted) audit c.in-Finish.sent journal c.args.book.now.grants) c.requires.audit
    (subst (λ (a : Ask). AskFits c.args.self.now a journal c.args.book.now.grants) c.in-Finish.is (c.requires.ask_fits journal stands))

pub finish-requires-clause-taken : goal.finish-requires-clause-taken
finish-requires-clause-taken c = subst (λ (a : Ask). IsAsked c.args.self.now a) c.in-Finish.is c.requires.asked

pub finish-requires-clause-within : goal.finish-requires-clause-within
finish-requires-clause-within c = subst (λ (a : Ask). FitsRequest (request_of a)) c.in-Finish.is c.requires.within
