-- The put is answered as the book does.
use Rattle.std.proofs.Common.{sym, subst}
use Rattle.wire.specs.declared.answers.Answer.TheVariants as answer
use Rattle.wire.specs.declared.answers.PutAnswer.{PutAnswer}
use Rattle.wire.specs.declared.requests.Request.TheVariants as request
use Rattle.session.specs.declared.plan.Plan.TheVariants as plan
use Rattle.session.specs.Standing.{Planned}
use Rattle.session.proofs.Putting.{put-planned}
use Rattle.session.proofs.session.Session.put.Goals as goal

pub returns-clause-planned : goal.returns-clause-planned
returns-clause-planned c = λ journal stands.
    subst (λ (told : PutAnswer). Planned c.args.self.now c.show_put.new.self c.args.book.now c.put_native-put.new.self journal
    (request.Put c.args.table c.args.key c.args.value) (plan.Send (answer.PutDone told))) (sym c.put_told.ensures)
    (put-planned c.args.self.now c.show_put.new.self c.args.book.now c.put_native-put.new.self journal c.args.tenant c.args.table c.args.key c.args.value
    c.put_native-put.result c.len.result c.requires.open (c.requires.fits journal stands) c.requires.admitted c.put_native-put.ensures.fixed
    (c.put_native-put.ensures.answer journal stands) (c.put_native-put.ensures.stands journal stands)
    (c.len.ensures _ (c.put_native-put.ensures.stands journal stands)) c.show_put.ensures)
