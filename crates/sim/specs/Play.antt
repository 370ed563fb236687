-- What a script does: its events in order, each by one rule, and then turns until no call is live.
use Rattle.std.specs.Prelude.{◌≡◌, ℕ, zero, suc, ◌+◌, Bool, true, false, List, [], ◌∷◌, ◌++◌, length, map, Option, Some, None, slice_get, drop, sum_by}
use Rattle.sp_base.specs.declared.calls.Asked.{Asked}
use Rattle.sp_base.specs.declared.calls.Call.{Call}
use Rattle.sp_base.specs.declared.calls.Policy.{Policy}
use Rattle.sp_base.specs.declared.numbers.Caller.{Caller}
use Rattle.sp_base.specs.declared.numbers.TableId.{TableId}
use Rattle.sp_base.specs.declared.numbers.TenantId.{TenantId}
use Rattle.sp_base.specs.declared.outcomes.Outcome.{Outcome}
use Rattle.sp_base.specs.declared.reads.ReadItem.{ReadItem}
use Rattle.sp_base.specs.declared.writes.Write.{Write}
use Rattle.sp_base.specs.Placing.{is_pushed}
use Rattle.ext_mean.specs.declared.refusal.Refusal.{Refusal}
use Rattle.ext_mean.specs.declared.tree.Program.{Program}
use Rattle.ext_check.specs.Checking.{IsAccepted, IsRefused}
use Rattle.book.specs.declared.answers.Commit.{Commit}
use Rattle.book.specs.declared.answers.Commit.TheVariants as commit
use Rattle.book.specs.declared.answers.Install.{Install}
use Rattle.book.specs.declared.answers.Install.TheVariants as install
use Rattle.book.specs.declared.answers.Put.{Put}
use Rattle.book.specs.declared.answers.Put.TheVariants as put
use Rattle.journal.specs.declared.entry.Entry.{Entry}
use Rattle.journal.specs.declared.entry.Entry.TheVariants as entry
use Rattle.journal.specs.declared.entry.Home.{Home}
use Rattle.journal.specs.declared.entry.Home.TheVariants.{Server, Client}
use Rattle.journal.specs.Granted.{granted}
use Rattle.book.specs.Verdict.{after_commit, after_install, after_put, entry_at, install_answer, item_at, put_answer, verdict}
use Rattle.report.specs.declared.line.Line.{Line}
use Rattle.report.specs.declared.line.Line.TheVariants as line
use Rattle.report.specs.declared.line.Prefix.{Prefix}
use Rattle.report.specs.declared.line.Prefix.TheVariants.{At, Drain}
use Rattle.report.specs.declared.line.Said.{Said}
use Rattle.report.specs.declared.line.Said.TheVariants as said
use Rattle.sched_text.specs.declared.event.Event.{Event}
use Rattle.sched_text.specs.declared.event.Event.TheVariants as event
use Rattle.sched_text.specs.declared.script.Head.{Head}
use Rattle.sched_text.specs.declared.script.Script.{Script}
use Rattle.rw_set.specs.Weight.{weight_of}
use Rattle.clients.specs.First.{with_first, without_first}
use Rattle.task.specs.declared.phase.Phase.{Phase}
use Rattle.task.specs.declared.phase.Phase.TheVariants as phase
use Rattle.task.specs.Extensions.{ExtValue}
use Rattle.task.specs.Turning.{Live, begun, given, turn_of}
use Rattle.sim.specs.State.{SimState, all_calls, exts_of, is_call_of, live_call, pushed_call, queue_of, queued, with_journal, with_pushed, with_queue}

-- ---- Putting and installing

-- the line of an event, and the state that it leaves
abbrev pub Told : Type 0
Told = Line × SimState

-- how a put is told; it is never want of memory
abbrev pub put_said : Put → Line
put_said (put.Done n) = line.Put n
put_said put.Denied = line.Denied
put_said (put.Full at) = line.Full
put_said put.Memory = line.Memory

abbrev pub put_told : SimState → Entry → Put → Told
put_told state entry given = (put_said given, with_journal state (after_put given state.journal entry))

abbrev pub put_event : SimState → TenantId → TableId → List ℕ → List ℕ → Told
put_event state tenant table key value =
    put_told state (entry.Put tenant table key value)
    (put_answer state.grants state.limit state.journal tenant table (entry.Put tenant table key value))

-- What is judged of an extension's text: it is accepted as this program, or first refused on this line
-- with this code. Of any other event nothing is judged.
pub data Judgement : Type 0 where
  Accepted : Program → Judgement
  Refused : ℕ → Refusal → Judgement
  Nothing : Judgement

-- how an installation is told; it is never want of memory
abbrev pub install_said : Install → Line
install_said (install.Installed n number) = line.Installed n number
install_said (install.Full at) = line.Full
install_said install.Memory = line.Memory

-- an installed extension is the last of its tenant's
abbrev pub after_installed : Install → List (TenantId × ExtValue) → TenantId → ExtValue → List (TenantId × ExtValue)
after_installed (install.Installed n number) installed tenant ext = installed ++ (tenant, ext) ∷ []
after_installed _ installed tenant ext = installed

abbrev pub install_told : SimState → TenantId → ExtValue → Install → Told
install_told state tenant ext given = (
  install_said given,
  record state {
    journal = after_install given state.journal (entry.Install tenant ext.text);
    installed = after_installed given state.installed tenant ext;
  },
)

-- a refused text is told before the journal is looked at
abbrev pub ext_event : SimState → TenantId → List ℕ → Judgement → Told
ext_event state tenant text (Accepted program) =
    install_told state tenant (record { text = text; program = program })
    (install_answer state.limit state.journal tenant (entry.Install tenant text))
ext_event state tenant text (Refused at code) = (line.Rejected at code, state)
ext_event state tenant text Nothing = (line.Idle, state)

-- ---- Calls

-- what is said of a call
abbrev pub of_call : Call → Said → Line
of_call call said = line.Of call.caller call.number said false

-- a call that is asked for by a tenant
abbrev pub call_of : TenantId → Asked → Call
call_of tenant asked = record {
  caller = record { tenant = tenant; number = asked.caller };
  number = asked.number;
  ext = asked.ext;
  budget = asked.budget;
  push_ok = asked.push_ok;
  args = asked.args;
}

-- Where the caller has a live call, queued or pushed, that call's number is told. Where the tenant has no such extension,
-- the count of those that it has is told. Else the call goes to the back of the worker's queue, with no
-- reads and nothing spent.
abbrev pub begin_told : SimState → ℕ → Call → Option Live → Option ExtValue → Told
begin_told state worker call (Some live) ext = (of_call call (said.Busy live.call.number), state)
begin_told state worker call None None =
    (of_call call (said.NoExtension (length (exts_of state.installed call.caller.tenant))), state)
begin_told state worker call None (Some ext) =
    (of_call call said.Queued, queued state worker (begun call ext (granted state.grants state.journal call.caller.tenant)))

abbrev pub begin_event : SimState → ℕ → Call → Told
begin_event state worker call =
    begin_told state worker call (live_call (all_calls state) call.caller)
    (slice_get (exts_of state.installed call.caller.tenant) call.ext.0)

-- how a commit is told; a verdict is never want of memory
abbrev pub commit_said : Commit → Said
commit_said (commit.Committed n outcome) = said.Committed n outcome
commit_said (commit.Stale last at) = said.Stale last
commit_said (commit.Conflict table key read read_at now now_at) = said.Conflict table key read now
commit_said (commit.Full at) = said.Full
commit_said commit.Memory = said.Memory

abbrev pub commit_told : SimState → Call → Entry → Commit → Told
commit_told state call entry given =
    (of_call call (commit_said given), with_journal state (after_commit given state.journal entry))

-- a call ends, in the server or at its client, by the verdict on its entry
abbrev pub end_told : SimState → Home → Live → Outcome → List Write → Told
end_told state home live outcome writes =
    let entry : Entry = entry_at home live.call outcome writes live.reads in
    commit_told state live.call entry (verdict state.limit state.journal live.call entry outcome live.reads)

-- how many calls the queues hold
abbrev pub load_of : List (List Live) → ℕ
load_of queues = sum_by length queues

-- whether a call that goes on is pushed to its client, at this load
abbrev pub goes_away : Policy → ℕ → Live → Bool
goes_away policy load live =
    is_pushed policy load live.spent (weight_of live.reads) live.call.push_ok

-- a call that goes on joins the pushed calls at their end, or the back of its worker's queue
abbrev pub placed : SimState → ℕ → Live → Bool → SimState
placed state worker live true = with_pushed state (state.pushed ++ live ∷ [])
placed state worker live false = queued state worker live

-- what is said of it tells whether it was pushed
abbrev pub goes_on : SimState → ℕ → Live → (Bool → Said) → Bool → Told
goes_on state worker live told pushed =
    (of_call live.call (told pushed), placed state worker live pushed)

-- What becomes of a call behind its turn, when the state no longer has it; the load counts it still. A
-- call that may turn again goes on, and so does one that waits for a record: the record joins its reads
-- with the version that it has in the journal. A call that has ended is no longer live.
abbrev pub turned : SimState → ℕ → ℕ → Live → Phase → Told
turned state load worker live phase.Ready =
    goes_on state worker live (said.On live.spent) (goes_away state.policy load live)
turned state load worker live (phase.Waiting table key) =
    let item : ReadItem = item_at state.journal table key in
    goes_on state worker (given live item) (said.Read table key item.version) (goes_away state.policy load (given live item))
turned state load worker live (phase.Ended outcome writes) = end_told state Server live outcome writes

-- the first call of a worker has a turn
abbrev pub turn_first : SimState → ℕ → ℕ → List Live → Told
turn_first state worker quantum [] = (line.Idle, state)
turn_first state worker quantum (live ∷ queue) =
    turned (with_queue state worker queue) (load_of state.queues) worker (turn_of live quantum) (turn_of live quantum).phase

abbrev pub turn_event : SimState → ℕ → ℕ → Told
turn_event state worker quantum = turn_first state worker quantum (queue_of state.queues worker)

-- the first call of one worker goes to the back of another's queue
abbrev pub steal_first : SimState → ℕ → ℕ → List Live → Told
steal_first state worker «from» [] = (line.Idle, state)
steal_first state worker «from» (live ∷ queue) =
    (of_call live.call said.Moved, queued (with_queue state «from» queue) worker live)

abbrev pub steal_event : SimState → ℕ → ℕ → Told
steal_event state worker «from» = steal_first state worker «from» (queue_of state.queues «from»)

-- ---- Pushed calls

-- a call at its client: it begins again from its arguments, with its whole budget, on what it has read
abbrev pub carried : Live → Live
carried live = turn_of live live.call.budget

-- What becomes of a pushed call at its client. One that waits for a record keeps its place among the
-- pushed calls: the record joins its reads, with the version that it has in the journal. One that has
-- ended is no longer live. With its whole budget none may turn again.
abbrev pub went : SimState → Caller → Live → Phase → Told
went state caller live phase.Ready = (of_call live.call (said.On live.spent false), state)
went state caller live (phase.Waiting table key) =
    let item : ReadItem = item_at state.journal table key in (
      of_call live.call (said.Read table key item.version false),
      with_pushed state (with_first (is_call_of caller) (given live item) state.pushed),
    )
went state caller live (phase.Ended outcome writes) =
    end_told (with_pushed state (without_first (is_call_of caller) state.pushed)) Client live outcome writes

-- the caller's pushed call goes on at its client
abbrev pub away_found : SimState → Caller → Option Live → Told
away_found state caller None = (line.Idle, state)
away_found state caller (Some live) = went state caller (carried live) (carried live).phase

abbrev pub away_event : SimState → Caller → Told
away_event state caller = away_found state caller (pushed_call state caller)

-- the caller's pushed call is forgotten
abbrev pub cut_found : SimState → Caller → Option Live → Told
cut_found state caller None = (line.Idle, state)
cut_found state caller (Some live) =
    (of_call live.call said.Cut, with_pushed state (without_first (is_call_of caller) state.pushed))

abbrev pub cut_event : SimState → Caller → Told
cut_event state caller = cut_found state caller (pushed_call state caller)

-- a caller of a tenant
abbrev pub caller_of : TenantId → ℕ → Caller
caller_of tenant number = record { tenant = tenant; number = number }

-- ---- Events

-- what an event does
abbrev pub event_of : SimState → Event → Judgement → Told
event_of state (event.Put tenant table key value) judgement = put_event state tenant table key value
event_of state (event.Ext tenant text) judgement = ext_event state tenant text judgement
event_of state (event.Begin worker tenant asked) judgement = begin_event state worker (call_of tenant asked)
event_of state (event.Turn worker quantum) judgement = turn_event state worker quantum
event_of state (event.Steal worker «from») judgement = steal_event state worker «from»
event_of state (event.Away tenant caller) judgement = away_event state (caller_of tenant caller)
event_of state (event.Cut tenant caller) judgement = cut_event state (caller_of tenant caller)

-- what is judged of an event
abbrev pub IsJudged : Event → Judgement → Type 0
IsJudged (event.Ext tenant text) (Accepted program) = IsAccepted text program
IsJudged (event.Ext tenant text) (Refused at code) = IsRefused text at code
IsJudged (event.Ext tenant text) Nothing = ⊥
IsJudged (event.Put tenant table key value) judgement = judgement ≡ Nothing
IsJudged (event.Begin worker tenant asked) judgement = judgement ≡ Nothing
IsJudged (event.Turn worker quantum) judgement = judgement ≡ Nothing
IsJudged (event.Steal worker «from») judgement = judgement ≡ Nothing
IsJudged (event.Away tenant caller) judgement = judgement ≡ Nothing
IsJudged (event.Cut tenant caller) judgement = judgement ≡ Nothing

-- ---- Scripts

-- an answer: what its line begins with, and what the line says
abbrev pub Answer : Type 0
Answer = Prefix × Line

-- the events from one state to another, each with its answer under the number of its line
pub data Follows : SimState → List (ℕ × Event) → List Answer → SimState → Type 0 where
  no_event : (state : SimState) → Follows state [] [] state
  one_event : (state : SimState) (at : ℕ) (event : Event) (judgement : Judgement) (events : List (ℕ × Event)) (answers : List Answer) (after : SimState)
      → IsJudged event judgement → Follows (event_of state event judgement).1 events answers after
      → Follows state ((at, event) ∷ events) ((At at, (event_of state event judgement).0) ∷ answers) after

-- the units of one turn of the drain
abbrev pub drain_quantum : ℕ
drain_quantum = 10000

-- the first of these workers that has a live call, the first of them having this number
abbrev pub first_busy : ℕ → List (List Live) → Option ℕ
first_busy worker [] = None
first_busy worker ([] ∷ queues) = first_busy (worker + 1) queues
first_busy worker ((live ∷ queue) ∷ queues) = Some worker

-- one worker, or else another one
abbrev pub or_else : Option ℕ → Option ℕ → Option ℕ
or_else (Some worker) other = Some worker
or_else None other = other

-- The worker that has the next turn of the drain: the workers take turns in order, from the next one on
-- and then from worker 0 on, and those that have no call are passed over.
abbrev pub next_worker : SimState → Option ℕ
next_worker state =
    or_else (first_busy state.next (drop state.next state.queues)) (first_busy 0 state.queues)

-- What the drain does next: where a worker has a live call, the next worker's turn. Where none has one, the
-- call that was pushed first goes on at its client.
abbrev pub next_of : Option ℕ → List Live → Option Event
next_of (Some worker) pushed = Some (event.Turn worker drain_quantum)
next_of None (live ∷ pushed) = Some (event.Away live.call.caller.tenant live.call.caller.number)
next_of None [] = None

abbrev pub next_event : SimState → Option Event
next_event state = next_of (next_worker state) state.pushed

-- behind a worker's turn the drain looks at the worker behind it
abbrev pub looking_on : SimState → Event → SimState
looking_on state (event.Turn worker quantum) = record state { next = worker + 1 }
looking_on state _ = state

abbrev pub drain_event : SimState → Event → Told
drain_event state event = event_of (looking_on state event) event Nothing

-- the drain: one event after another, as long as a call is live
pub data Drains : SimState → List Line → SimState → Type 0 where
  no_more : (state : SimState) → next_event state ≡ None → Drains state [] state
  one_more : (state : SimState) (event : Event) (lines : List Line) (after : SimState) → next_event state ≡ Some event
      → Drains (drain_event state event).1 lines after → Drains state ((drain_event state event).0 ∷ lines) after

-- so many workers, none of which has a live call
abbrev pub idle_workers : ℕ → List (List Live)
idle_workers zero = []
idle_workers (suc workers) = [] ∷ idle_workers workers

-- a script begins with an empty journal, and with no extension and no live call
abbrev pub opened : Head → SimState
opened head = record {
  grants = head.rights;
  policy = head.policy;
  limit = head.limit;
  journal = [];
  installed = [];
  queues = idle_workers head.workers;
  pushed = [];
  next = 0;
}

abbrev pub in_drain : Line → Answer
in_drain told = (Drain, told)

-- the script plays to these answers and this journal
pub record Plays (script : Script) (answers : List Answer) (journal : List Entry) : Type 0 where
  pub body : List Answer
  pub drained : List Line
  pub between : SimState
  pub after : SimState
  pub follows : Follows (opened script.head) script.events body between
  pub drains : Drains between drained after
  pub answers_are : answers ≡ body ++ map in_drain drained
  pub journal_is : journal ≡ after.journal
