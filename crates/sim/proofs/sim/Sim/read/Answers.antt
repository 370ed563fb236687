-- The record that was wanted may be read, and joins the reads.
use Rattle.std.proofs.Common.{◌≡◌, ℕ, Bool, List, sym, ap, subst, ◌∙◌}
use Rattle.std.specs.Prelude.{IsTrue}
use Rattle.sp_base.specs.declared.numbers.TableId.{TableId}
use Rattle.sp_base.specs.declared.reads.ReadItem.{ReadItem}
use Rattle.sp_base.specs.declared.rights.Level.{Level}
use Rattle.sp_base.specs.RightsList.{can_read}
use Rattle.journal.specs.Granted.{granted}
use Rattle.book.specs.Verdict.{item_at}
use Rattle.task.specs.declared.phase.Phase.TheVariants.{Waiting}
use Rattle.task.specs.Tasks.{IsTask}
use Rattle.sim.proofs.Reading.{found-item, not-denied, waits-readable}
use Rattle.report.specs.declared.line.Line.{Line}
use Rattle.report.specs.declared.line.Said.TheVariants as said
use Rattle.sp_base.specs.declared.calls.Call.{Call}
use Rattle.task.specs.Turning.{Live, given as given_of}
use Rattle.sim.specs.declared.sim.Sim.{Sim}
use Rattle.sim.specs.Play.{goes_away, of_call}
use Rattle.sim.specs.Standing.{GoesOn, IsPlaced, MayBePushed}
use Rattle.sim.proofs.Turning.{kept-may}
use Rattle.sim.proofs.sim.Sim.read.Goals as goal

pub unreachable-requires : goal.unreachable-requires
unreachable-requires c =
    let journal = c.requires.stands.0 in
    let stands = c.requires.stands.1 in
    let live = c.args.task in
    let is : IsTask live = subst IsTask c.task.view_is c.task.invariant.0 in
    let readable : IsTrue (can_read live.rights c.args.table.0) = waits-readable live c.args.table c.args.key is c.requires.waits in
    let own = (c.requires.ran journal stands).own in
    let may : IsTrue (can_read (granted c.args.self.now.book.grants journal live.call.caller.tenant) c.args.table.0) =
    subst (λ (rights : List (TableId × Level)). IsTrue (can_read rights c.args.table.0)) own readable in
    not-denied c.args.self.now.book.grants journal live.call.caller.tenant c.args.table c.args.key c.read.result may
    (rw c.call.ensures at (c.read.ensures.answer journal stands)) c.in-Denied.is

pub give-requires-clause-wanted : goal.give-requires-clause-wanted
give-requires-clause-wanted c =
    let journal = c.requires.stands.0 in
    let item : c.in-Found.item ≡ item_at journal c.args.table c.args.key =
    found-item c.args.self.now.book.grants journal _ c.args.table c.args.key c.in-Found.item c.read.result
    (c.read.ensures.answer journal c.requires.stands.1) c.in-Found.is in
    c.requires.waits ∙ ap (λ (read : ReadItem). Waiting read.table read.key) (sym item)

pub place-requires-clause-may : goal.place-requires-clause-may
place-requires-clause-may c =
    let given : c.give.new.self ≡ given_of c.args.task c.in-Found.item = c.in-Ok.ensures.ok in
    subst (λ (live : Live). MayBePushed c.args.self.now live) (sym given) (kept-may c.args.self.now c.args.task c.in-Found.item c.requires.may)

-- the call with its record is placed, and told of
reads-on : (old new : Sim) (load worker : ℕ) (live task : Live) (table : TableId) (key : List ℕ) (found item : ReadItem) (pushed : Bool) (line : Line)
    → task ≡ given_of live found → found ≡ item → pushed ≡ goes_away old.policy load task
    → line ≡ of_call task.call (said.Read table key found.version pushed) → IsPlaced old new worker task pushed
    → GoesOn old new load worker (given_of live item) (said.Read table key item.version) line
reads-on old new load worker live task table key found item pushed line is same told_away told placed =
    let next : Live = given_of live item in
    let one : task ≡ next = is ∙ ap (given_of live) same in
    let away : pushed ≡ goes_away old.policy load next = told_away ∙ ap (goes_away old.policy load) one in
    record {
      told = told ∙ ap (λ (l : Live). of_call l.call (said.Read table key found.version pushed)) one
          ∙ ap (λ (read : ReadItem). of_call next.call (said.Read table key read.version pushed)) same
          ∙ ap (λ (b : Bool). of_call next.call (said.Read table key item.version b)) away;
      left = subst (λ (b : Bool). IsPlaced old new worker next b) away (subst (λ (l : Live). IsPlaced old new worker l pushed) one placed);
    }

pub returns : goal.returns
returns c = λ journal stands.
    let item : c.in-Found.item ≡ item_at journal c.args.table c.args.key =
    found-item c.args.self.now.book.grants journal _ c.args.table c.args.key c.in-Found.item c.read.result
    (c.read.ensures.answer journal stands) c.in-Found.is in
    reads-on c.args.self.now c.place.new.self c.args.load c.args.worker c.args.task c.give.new.self c.args.table c.args.key c.in-Found.item
    (item_at journal c.args.table c.args.key) c.goes_away-pushed.result c.line_of-line.result c.in-Ok.ensures.ok item c.goes_away-pushed.ensures
    (c.line_of-line.ensures ∙ ap (λ (k : Call). of_call k (said.Read c.args.table c.args.key c.in-Found.item.version c.goes_away-pushed.result)) c.call-2.ensures)
    c.in_ok-place.ensures
