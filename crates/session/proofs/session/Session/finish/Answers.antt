-- The run is committed as the book does.
use Rattle.std.proofs.Common.{◌≡◌, refl, sym, subst}
use Rattle.wire.specs.declared.answers.Answer.TheVariants as answer
use Rattle.wire.specs.declared.items.Item.{Item}
use Rattle.wire.specs.declared.requests.Request.TheVariants as request
use Rattle.session.specs.declared.plan.Plan.TheVariants as plan
use Rattle.session.specs.Seeing.{IsCounted}
use Rattle.session.specs.Standing.{PlannedFrom, StandsWithSent}
use Rattle.session.specs.States.{seen_in_item}
use Rattle.session.proofs.Finishing.{changes-fit, finish-planned, reply-fits}
use Rattle.session.proofs.session.Session.finish.Goals as goal

pub commit_sent-requires-clause-arguments : goal.commit_sent-requires-clause-arguments
commit_sent-requires-clause-arguments c = (c.requires.sent_fits c.journal-stands.result.now.entries c.journal-stands.ensures).args

pub commit_sent-requires-clause-reply : goal.commit_sent-requires-clause-reply
commit_sent-requires-clause-reply c = reply-fits c.args.sent.outcome c.requires.within.1.1.0

pub commit_sent-requires-clause-values : goal.commit_sent-requires-clause-values
commit_sent-requires-clause-values c = changes-fit c.args.sent.writes c.requires.within.1.1.1.1

pub commit_sent-requires-clause-ran : goal.commit_sent-requires-clause-ran
commit_sent-requires-clause-ran c = λ journal stands. (c.requires.sent_fits journal stands).ran

pub returns-clause-planned : goal.returns-clause-planned
returns-clause-planned c = λ journal stands.
    subst (λ (i : Item). PlannedFrom (StandsWithSent c.args.self.now c.args.sent) c.args.self.now (record c.args.self.now { seen = c.seen_in_item-self.result })
    c.args.book.now c.commit_sent.new.self journal
    (request.Finish c.args.sent.call.caller.number c.args.sent.call.number c.args.sent.outcome c.args.sent.writes) (plan.Send (answer.Finished i))) (sym c.commit_item-item.ensures)
    (finish-planned c.args.self.now (record c.args.self.now { seen = c.seen_in_item-self.result }) c.args.book.now c.commit_sent.new.self journal c.args.sent c.commit_sent.result
    c.requires.open (c.requires.fits journal stands) (c.requires.sent_fits journal stands) c.requires.taken c.requires.within.1.1.0 c.commit_sent.ensures.fixed stands
    (c.commit_sent.ensures.answer journal stands) (c.commit_sent.ensures.stands journal stands) refl
    (subst (λ (i : Item). IsCounted i → c.seen_in_item-self.result ≡ seen_in_item c.args.self.now.seen i) c.commit_item-item.ensures c.seen_in_item-self.ensures))
