-- The call is judged by what it has read.
use Rattle.std.specs.Prelude.{if◌then◌else◌, None}
use Rattle.std.proofs.Common.{◌≡◌, List, ◌∙◌, ap, refl}
use Rattle.sp_base.specs.declared.calls.Call.{Call}
use Rattle.journal.specs.declared.entry.Entry.{Entry}
use Rattle.journal.specs.Folds.{same_caller}
use Rattle.book.specs.Standing.{StandsFor}
use Rattle.book.specs.Verdict.{entry_of, verdict}
use Rattle.journal.specs.declared.entry.Home.TheVariants.{Server}
use Rattle.clients.specs.Numbering.{number_of}
use Rattle.sim.proofs.Ending.{end-book, end-said, judged}
use Rattle.sim.proofs.sim.Sim.end.Goals as goal

pub returns : goal.returns
returns c =
    let done = c.finish-done.result in
    let live = c.args.task in
    let is : (journal : List Entry) → StandsFor c.args.self.now.book journal
    → c.commit.result ≡ verdict c.args.self.now.book.limit journal live.call (entry_of live.call done.outcome done.writes live.reads) done.outcome live.reads =
    λ journal stands. judged Server c.args.self.now.book.limit journal done.call live.call done.reads live.reads done.outcome done.writes c.commit.result
    c.finish-done.ensures.call c.finish-done.ensures.reads c.in_ok-said.ensures.memory (c.commit.ensures.answer journal stands) in
    record {
      outcome = done.outcome;
      writes = done.writes;
      ended = c.finish-done.ensures.ended;
      is = record {
        told = λ journal stands. end-said done.call live.call c.commit.result _ c.in_ok-said.said c.finish-done.ensures.call (is journal stands) c.in_ok-said.ensures.said;
        book = λ journal stands. end-book Server c.commit.new.self journal done.call live.call done.reads live.reads done.outcome done.writes c.commit.result _
            c.finish-done.ensures.call c.finish-done.ensures.reads (is journal stands) (c.commit.ensures.stands journal stands);
        fixed = c.commit.ensures.fixed;
        policy = refl;
        queues = refl;
        pushed = refl;
        next = refl;
        callers = λ caller. c.remove.ensures caller
            ∙ ap (λ (call : Call). if same_caller call.caller caller then None else number_of c.args.self.now.callers caller) c.finish-done.ensures.call;
      };
    }
