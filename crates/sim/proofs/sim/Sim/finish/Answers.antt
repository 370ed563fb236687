-- The end that the client sends is judged.
use Rattle.std.specs.Prelude.{if◌then◌else◌}
use Rattle.std.proofs.Common.{◌≡◌, List, Some, None, false, refl, sym, ap, subst, ◌∙◌}
use Rattle.sp_base.specs.declared.calls.Call.{Call}
use Rattle.journal.specs.declared.entry.Entry.{Entry}
use Rattle.journal.specs.declared.entry.Home.TheVariants.{Client}
use Rattle.journal.specs.Folds.{same_caller}
use Rattle.book.specs.Standing.{RanOn, StandsFor}
use Rattle.book.specs.Verdict.{entry_at, verdict}
use Rattle.clients.specs.First.{first_of}
use Rattle.clients.specs.Numbering.{number_of}
use Rattle.clients.specs.Pushed.{Pushed, is_callers}
use Rattle.report.specs.declared.line.Line.TheVariants as line
use Rattle.sim.specs.declared.sim.Sim.{Sim}
use Rattle.sim.specs.Standing.{HasFinished}
use Rattle.sim.proofs.AtClients.{sent-on, sent-reply, sent-values}
use Rattle.sim.proofs.Ending.{end-book, end-said, judged}
use Rattle.sim.proofs.sim.Sim.finish.Goals as goal

pub commit_sent-requires-clause-reply : goal.commit_sent-requires-clause-reply
commit_sent-requires-clause-reply c = sent-reply c.in-Some.call c.into_sent-sent.result c.into_sent-sent.ensures

pub commit_sent-requires-clause-values : goal.commit_sent-requires-clause-values
commit_sent-requires-clause-values c = sent-values c.in-Some.call c.into_sent-sent.result c.into_sent-sent.ensures

pub commit_sent-requires-clause-ran : goal.commit_sent-requires-clause-ran
commit_sent-requires-clause-ran c = λ journal stands.
    let both : Some c.in-Some.call ≡ Some c.requires.call = sym c.in-Some.is ∙ c.remove.ensures.call ∙ c.requires.found in
    let same : c.in-Some.call ≡ c.requires.call = cc in
    sent-on c.args.self.now.book.grants c.args.self.now.book.audit journal c.in-Some.call c.into_sent-sent.result
    (subst (λ (p : Pushed). RanOn c.args.self.now.book.grants journal p.call p.ext.program p.rights p.reads) (sym same) (c.requires.ran journal stands)) c.into_sent-sent.ensures

pub returns : goal.returns
returns c = λ call found.
    let both : Some c.in-Some.call ≡ Some call = sym c.in-Some.is ∙ c.remove.ensures.call ∙ found in
    let same : c.in-Some.call ≡ call = cc in
    let sent = c.into_sent-sent.result in
    let pushed = c.in-Some.call in
    let end = c.into_sent-sent.ensures in
    let is : (journal : List Entry) → StandsFor c.args.self.now.book journal
    → c.commit_sent.result ≡ verdict c.args.self.now.book.limit journal pushed.call (entry_at Client pushed.call sent.outcome sent.writes pushed.reads) sent.outcome pushed.reads =
    λ journal stands. judged Client c.args.self.now.book.limit journal sent.call pushed.call sent.reads pushed.reads sent.outcome sent.writes c.commit_sent.result
    end.call end.reads c.in_ok-said.ensures.memory (c.commit_sent.ensures.answer journal stands) in
    let new : Sim = record c.args.self.now { book = c.commit_sent.new.self; pushed = c.remove.new.self; callers = c.remove-2.new.self } in
    subst (λ (p : Pushed). HasFinished c.args.self.now new c.args.caller p (line.Of sent.call.caller sent.call.number c.in_ok-said.said false)) same (record {
      outcome = sent.outcome;
      writes = sent.writes;
      meant = end.meant;
      is = record {
        told = λ journal stands. end-said sent.call pushed.call c.commit_sent.result _ c.in_ok-said.said end.call (is journal stands) c.in_ok-said.ensures.said;
        book = λ journal stands. end-book Client c.commit_sent.new.self journal sent.call pushed.call sent.reads pushed.reads sent.outcome sent.writes c.commit_sent.result _
            end.call end.reads (is journal stands) (c.commit_sent.ensures.stands journal stands);
        fixed = c.commit_sent.ensures.fixed;
        policy = refl;
        queues = refl;
        pushed = c.remove.ensures.left;
        next = refl;
        callers = λ other. c.remove-2.ensures other
            ∙ ap (λ (k : Call). if same_caller k.caller other then None else number_of c.args.self.now.callers other) end.call;
      };
    })
