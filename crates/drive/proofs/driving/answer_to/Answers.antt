-- The session's plan is carried out.
use Rattle.std.proofs.Common.{◌∙◌}
use Rattle.session.specs.declared.plan.Plan.TheVariants as plan
use Rattle.drive.proofs.Asking.{batch-finished, finished-ready, finished-replies, fixed-then, planned-of, refused-replies, sent-replies, stopped-replies, within-reply}
use Rattle.drive.proofs.driving.answer_to.Goals as goal

pub returns-in-Err-clause-replied : goal.returns-in-Err-clause-replied
returns-in-Err-clause-replied c = λ journal stands body spelled.
    refused-replies c.args.session.now c.prepare.new.self c.args.book.now journal body c.args.request c.in-Err.answer c.reply_of.result
    c.reply_of.ensures c.requires.ready stands spelled c.in-Err.ensures.refused

pub returns-in-Send-clause-replied : goal.returns-in-Send-clause-replied
returns-in-Send-clause-replied c = λ journal stands body spelled.
    sent-replies c.args.session.now c.answer.new.self c.args.book.now c.answer.new.book journal body c.args.request c.in-Send.answer spelled
    (planned-of c.args.session.now c.prepare.new.self c.answer.new.self c.args.book.now c.answer.new.book journal c.args.request c.in-Ok.ask c.answer.result (plan.Send c.in-Send.answer)
    c.in-Ok.ensures.asked c.in-Send.is (c.answer.ensures.planned journal stands))

pub returns-in-Stop-clause-replied : goal.returns-in-Stop-clause-replied
returns-in-Stop-clause-replied c = λ journal stands body spelled.
    stopped-replies c.args.session.now c.answer.new.self c.args.book.now c.answer.new.book journal body c.args.request c.in-Stop.answer spelled
    (planned-of c.args.session.now c.prepare.new.self c.answer.new.self c.args.book.now c.answer.new.book journal c.args.request c.in-Ok.ask c.answer.result (plan.Stop c.in-Stop.answer)
    c.in-Ok.ensures.asked c.in-Stop.is (c.answer.ensures.planned journal stands))

pub returns-in_ok-answer-in-Run-clause-replied : goal.returns-in_ok-answer-in-Run-clause-replied
returns-in_ok-answer-in-Run-clause-replied c = λ journal stands body spelled.
    finished-replies c.args.session.now c.run_batch.new.session c.args.book.now c.run_batch.new.book journal body c.args.request c.in_ok-answer-in-Run.answer c.reply_of-in-Run.result
    c.reply_of-in-Run.ensures spelled
    (batch-finished c.args.quantum c.args.session.now c.answer.new.self c.run_batch.new.session c.args.book.now c.answer.new.book c.run_batch.new.book journal c.args.request c.in-Run.begun c.in_ok-answer-in-Run.answer
    c.answer.ensures.fixed c.run_batch.ensures.fixed
    (planned-of c.args.session.now c.prepare.new.self c.answer.new.self c.args.book.now c.answer.new.book journal c.args.request c.in-Ok.ask c.answer.result (plan.Run c.in-Run.begun)
    c.in-Ok.ensures.asked c.in-Run.is (c.answer.ensures.planned journal stands))
    c.in_ok-answer-in-Run.ensures.answered)

pub returns-in_ok-answer-in-Run-clause-ready : goal.returns-in_ok-answer-in-Run-clause-ready
returns-in_ok-answer-in-Run-clause-ready c =
    let journal = c.requires.stands.0 in
    let planned = c.answer.ensures.planned journal c.requires.stands.1 in
    finished-ready c.args.session.now c.run_batch.new.session c.args.book.now c.run_batch.new.book journal c.args.request c.in_ok-answer-in-Run.answer c.reply_of-in-Run.result
    c.reply_of-in-Run.ensures c.requires.ready (c.run_batch.ensures.conf ∙ planned.conf ∙ c.in-Ok.ensures.asked.conf)
    (fixed-then c.args.book.now c.answer.new.book c.run_batch.new.book c.answer.ensures.fixed c.run_batch.ensures.fixed)
    (batch-finished c.args.quantum c.args.session.now c.answer.new.self c.run_batch.new.session c.args.book.now c.answer.new.book c.run_batch.new.book journal c.args.request c.in-Run.begun c.in_ok-answer-in-Run.answer
    c.answer.ensures.fixed c.run_batch.ensures.fixed
    (planned-of c.args.session.now c.prepare.new.self c.answer.new.self c.args.book.now c.answer.new.book journal c.args.request c.in-Ok.ask c.answer.result (plan.Run c.in-Run.begun)
    c.in-Ok.ensures.asked c.in-Run.is planned)
    c.in_ok-answer-in-Run.ensures.answered)

pub returns-in_ok-answer-in-Run-clause-within : goal.returns-in_ok-answer-in-Run-clause-within
returns-in_ok-answer-in-Run-clause-within c =
    let journal = c.requires.stands.0 in
    let finished = batch-finished c.args.quantum c.args.session.now c.answer.new.self c.run_batch.new.session c.args.book.now c.answer.new.book c.run_batch.new.book journal c.args.request c.in-Run.begun c.in_ok-answer-in-Run.answer
    c.answer.ensures.fixed c.run_batch.ensures.fixed
    (planned-of c.args.session.now c.prepare.new.self c.answer.new.self c.args.book.now c.answer.new.book journal c.args.request c.in-Ok.ask c.answer.result (plan.Run c.in-Run.begun)
    c.in-Ok.ensures.asked c.in-Run.is (c.answer.ensures.planned journal c.requires.stands.1))
    c.in_ok-answer-in-Run.ensures.answered in
    within-reply c.in_ok-answer-in-Run.answer c.reply_of-in-Run.result c.reply_of-in-Run.ensures finished.within
