-- Every conflict of a play tells of a read whose version had moved.
use Rattle.std.specs.Prelude.{map}
use Rattle.std.proofs.Common.{◌≡◌, ℕ, ◌+◌, List, [], ◌∷◌, ◌++◌, Option, Some, None, refl, sym, subst}
use Rattle.sp_base.specs.declared.calls.Call.{Call}
use Rattle.sp_base.specs.declared.numbers.Caller.{Caller}
use Rattle.sp_base.specs.declared.outcomes.Outcome.{Outcome}
use Rattle.sp_base.specs.declared.reads.ReadItem.{ReadItem}
use Rattle.sp_base.specs.declared.numbers.TenantId.{TenantId}
use Rattle.book.specs.declared.answers.Commit.{Commit}
use Rattle.book.specs.declared.answers.Commit.TheVariants as commit
use Rattle.book.specs.declared.answers.Install.{Install}
use Rattle.book.specs.declared.answers.Install.TheVariants as install
use Rattle.book.specs.declared.answers.Put.{Put}
use Rattle.book.specs.declared.answers.Put.TheVariants as put
use Rattle.journal.specs.declared.entry.Entry.{Entry}
use Rattle.journal.specs.declared.entry.Entry.TheVariants as entry
use Rattle.journal.specs.declared.entry.Home.TheVariants.{Server, Client}
use Rattle.book.specs.Verdict.{entry_at, install_answer, put_answer, verdict}
use Rattle.book.proofs.Verdicts.{conflicts-name-moved-reads}
use Rattle.report.specs.declared.line.Line.{Line}
use Rattle.sched_text.specs.declared.event.Event.{Event}
use Rattle.sched_text.specs.declared.event.Event.TheVariants as event
use Rattle.task.specs.declared.phase.Phase.{Phase}
use Rattle.task.specs.declared.phase.Phase.TheVariants as phase
use Rattle.task.specs.Extensions.{ExtValue}
use Rattle.task.specs.Turning.{Live, turn_of}
use Rattle.sim.specs.Laws.{ConflictsHaveMoved, TellsMoved, PlaysTellMovedReads}
use Rattle.sim.specs.Play.{Answer, Judgement, Accepted, Refused, Nothing, Follows, no_event, one_event, Drains, no_more, one_more, away_found, begin_told, call_of, caller_of, carried, commit_said, cut_found, drain_event, event_of, ext_event, in_drain, install_said, load_of, looking_on, of_call, put_said, steal_first, turn_first, turned, went}
use Rattle.sim.specs.State.{SimState, all_calls, queue_of, live_call, pushed_call, with_queue}

put-moved : (given : Put) → TellsMoved (put_said given)
put-moved (put.Done n) = tt
put-moved put.Denied = tt
put-moved (put.Full at) = tt
put-moved put.Memory = tt

install-moved : (given : Install) → TellsMoved (install_said given)
install-moved (install.Installed n number) = tt
install-moved (install.Full at) = tt
install-moved install.Memory = tt

ext-moved : (state : SimState) (tenant : TenantId) (text : List ℕ) (judgement : Judgement) → TellsMoved (ext_event state tenant text judgement).0
ext-moved state tenant text (Accepted program) = install-moved (install_answer state.limit state.journal tenant (entry.Install tenant text))
ext-moved state tenant text (Refused at code) = tt
ext-moved state tenant text Nothing = tt

begin-moved : (state : SimState) (worker : ℕ) (call : Call) (live : Option Live) (ext : Option ExtValue)
    → TellsMoved (begin_told state worker call live ext).0
begin-moved state worker call (Some live) ext = tt
begin-moved state worker call None None = tt
begin-moved state worker call None (Some ext) = tt

-- what is said of a verdict, by its kind
commit-moved : (limit : ℕ) (journal : List Entry) (call : Call) (entry : Entry) (outcome : Outcome) (reads : List ReadItem) (given : Commit)
    → verdict limit journal call entry outcome reads ≡ given → TellsMoved (of_call call (commit_said given))
commit-moved limit journal call entry outcome reads (commit.Committed n shown) is = tt
commit-moved limit journal call entry outcome reads (commit.Stale last at) is = tt
commit-moved limit journal call entry outcome reads (commit.Conflict table key read read_at now now_at) is =
    (conflicts-name-moved-reads limit journal call entry outcome reads table key read read_at now now_at is).differ
commit-moved limit journal call entry outcome reads (commit.Full at) is = tt
commit-moved limit journal call entry outcome reads commit.Memory is = tt

turned-moved : (state : SimState) (load worker : ℕ) (live : Live) (stands : Phase) → TellsMoved (turned state load worker live stands).0
turned-moved state load worker live phase.Ready = tt
turned-moved state load worker live (phase.Waiting table key) = tt
turned-moved state load worker live (phase.Ended outcome writes) =
    commit-moved state.limit state.journal live.call (entry_at Server live.call outcome writes live.reads) outcome live.reads _ refl

first-moved : (state : SimState) (worker quantum : ℕ) (queue : List Live) → TellsMoved (turn_first state worker quantum queue).0
first-moved state worker quantum [] = tt
first-moved state worker quantum (live ∷ queue) =
    turned-moved (with_queue state worker queue) (load_of state.queues) worker (turn_of live quantum) (turn_of live quantum).phase

went-moved : (state : SimState) (caller : Caller) (live : Live) (stands : Phase) → TellsMoved (went state caller live stands).0
went-moved state caller live phase.Ready = tt
went-moved state caller live (phase.Waiting table key) = tt
went-moved state caller live (phase.Ended outcome writes) =
    commit-moved state.limit state.journal live.call (entry_at Client live.call outcome writes live.reads) outcome live.reads _ refl

away-moved : (state : SimState) (caller : Caller) (found : Option Live) → TellsMoved (away_found state caller found).0
away-moved state caller None = tt
away-moved state caller (Some live) = went-moved state caller (carried live) (carried live).phase

cut-moved : (state : SimState) (caller : Caller) (found : Option Live) → TellsMoved (cut_found state caller found).0
cut-moved state caller None = tt
cut-moved state caller (Some live) = tt

steal-moved : (state : SimState) (worker other : ℕ) (queue : List Live) → TellsMoved (steal_first state worker other queue).0
steal-moved state worker other [] = tt
steal-moved state worker other (live ∷ queue) = tt

-- the line of an event tells of a moved read, if it tells a conflict
pub event-moved : (state : SimState) (event : Event) (judgement : Judgement) → TellsMoved (event_of state event judgement).0
event-moved state (event.Put tenant table key value) judgement =
    put-moved (put_answer state.grants state.limit state.journal tenant table (entry.Put tenant table key value))
event-moved state (event.Ext tenant text) judgement = ext-moved state tenant text judgement
event-moved state (event.Begin worker tenant asked) judgement =
    begin-moved state worker (call_of tenant asked) (live_call (all_calls state) _) _
event-moved state (event.Turn worker quantum) judgement = first-moved state worker quantum (queue_of state.queues worker)
event-moved state (event.Steal worker other) judgement = steal-moved state worker other (queue_of state.queues other)
event-moved state (event.Away tenant caller) judgement =
    away-moved state (caller_of tenant caller) (pushed_call state (caller_of tenant caller))
event-moved state (event.Cut tenant caller) judgement =
    cut-moved state (caller_of tenant caller) (pushed_call state (caller_of tenant caller))

both-moved : (front back : List Answer) → ConflictsHaveMoved front → ConflictsHaveMoved back → ConflictsHaveMoved (front ++ back)
both-moved [] back first second = second
both-moved (answer ∷ front) back first second = (first.0, both-moved front back first.1 second)

follows-moved : (state : SimState) (events : List (ℕ × Event)) (answers : List Answer) (after : SimState)
    → Follows state events answers after → ConflictsHaveMoved answers
follows-moved state events answers after (no_event s) = tt
follows-moved state events answers after (one_event s at event judgement rest more end judged follows) =
    (event-moved state event judgement, follows-moved (event_of state event judgement).1 rest more after follows)

drains-moved : (state : SimState) (lines : List Line) (after : SimState) → Drains state lines after → ConflictsHaveMoved (map in_drain lines)
drains-moved state lines after (no_more s none) = tt
drains-moved state lines after (one_more s event rest end some drains) =
    (event-moved (looking_on state event) event Nothing, drains-moved (drain_event state event).1 rest after drains)

-- the conflicts of a play
pub plays-moved : PlaysTellMovedReads
plays-moved script answers journal plays =
    subst ConflictsHaveMoved (sym plays.answers_are)
    (both-moved plays.body (map in_drain plays.drained) (follows-moved _ _ _ _ plays.follows) (drains-moved _ _ _ plays.drains))
