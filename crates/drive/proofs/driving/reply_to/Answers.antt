-- A body that spells no request ends the session.
use Rattle.std.proofs.Common.{Some, sym, subst}
use Rattle.wire.specs.declared.answers.Answer.{Answer}
use Rattle.drive.specs.declared.driving.Reply.TheVariants as reply
use Rattle.drive.specs.Hearing.{Replies}
use Rattle.drive.proofs.Asking.{none-spelled, unheard-replies}
use Rattle.drive.proofs.driving.reply_to.Goals as goal

pub returns-in-Err-Bad-clause-replied : goal.returns-in-Err-Bad-clause-replied
returns-in-Err-Bad-clause-replied c = λ journal stands.
    subst (λ (a : Answer). Replies c.args.session.now c.end.new.self c.args.book.now c.args.book.now journal c.args.body.now (reply.Last (Some a)))
    (sym c.end.ensures.told)
    (unheard-replies c.args.session.now c.end.new.self c.args.book.now journal c.args.body.now stands
    (none-spelled c.args.body.now c.in-Err-Bad.field-0 _ c.in-Err-Bad.field-0-is c.in-Err-Bad.ensures.only) c.end.ensures.stands)
