-- When a simulation stands at a state of the play, and what its calls tell.
use Rattle.std.specs.Prelude.{◌≡◌, ◌≤◌, ◌<◌, ℕ, ◌+◌, Bool, true, false, List, [], ◌∷◌, ◌++◌, IsTrue, Option, Some, None, length, map, if◌then◌else◌}
use Rattle.std.specs.List.{AllZip, sum_by}
use Rattle.sp_base.specs.declared.calls.Call.{Call}
use Rattle.sp_base.specs.declared.numbers.Caller.{Caller}
use Rattle.sp_base.specs.declared.numbers.CallNo.{CallNo}
use Rattle.sp_base.specs.declared.numbers.TableId.{TableId}
use Rattle.sp_base.specs.declared.numbers.TenantId.{TenantId}
use Rattle.sp_base.specs.declared.outcomes.Outcome.{Outcome}
use Rattle.sp_base.specs.declared.reads.ReadItem.{ReadItem}
use Rattle.sp_base.specs.declared.writes.Write.{Write}
use Rattle.sp_base.specs.RightsList.{can_read}
use Rattle.sp_base.specs.Limits.{IsValue}
use Rattle.journal.specs.declared.entry.Entry.{Entry}
use Rattle.journal.specs.declared.entry.Home.{Home}
use Rattle.journal.specs.declared.entry.Home.TheVariants.{Server, Client}
use Rattle.journal.specs.Folds.{same_caller, texts_of}
use Rattle.journal.specs.Granted.{granted}
use Rattle.ext_mean.specs.declared.refusal.Refusal.{Refusal}
use Rattle.ext_mean.specs.Outcomes.{EndsWith}
use Rattle.records.specs.GrantsList.{GrantsList}
use Rattle.book.specs.declared.answers.Commit.{Commit}
use Rattle.book.specs.Standing.{KeepsFixed, RanOn, StandsFor}
use Rattle.book.specs.Verdict.{after_commit, entry_at, item_at, verdict}
use Rattle.clients.specs.declared.callers.Callers.{Callers}
use Rattle.clients.specs.First.{first_of, with_first, without_first}
use Rattle.clients.specs.Numbering.{number_of}
use Rattle.clients.specs.Pushed.{HasEnd, Pushed, WantsAt, is_callers, joined, meant, pushed_of}
use Rattle.report.specs.declared.line.Line.{Line}
use Rattle.report.specs.declared.line.Line.TheVariants as line
use Rattle.report.specs.declared.line.Said.{Said}
use Rattle.report.specs.declared.line.Said.TheVariants as said
use Rattle.sched_text.specs.declared.event.Event.{Event}
use Rattle.sched_text.specs.declared.event.Event.TheVariants as event
use Rattle.task.specs.declared.phase.Phase.TheVariants.{Ready, Ended}
use Rattle.task.specs.declared.ext_fault.ExtFault.{ExtFault}
use Rattle.task.specs.declared.ext_fault.ExtFault.TheVariants as fault
use Rattle.task.specs.Extensions.{ExtValue, IsExtension}
use Rattle.task.specs.Laws.{MayBegin}
use Rattle.task.specs.Turning.{Live, given}
use Rattle.sim.specs.declared.sim.Sim.{Sim}
use Rattle.sim.specs.Counting.{AllLive, Indexes, left_away, left_of, total}
use Rattle.sim.specs.Play.{IsJudged, Judgement, Told, call_of, commit_said, drain_event, event_of, goes_away, next_event, of_call}
use Rattle.sim.specs.Queueing.{with_back}
use Rattle.sim.specs.State.{SimState, all_calls, exts_of}

-- each tenant's extensions are, in order, those of its texts
abbrev pub AreInstalled : List Entry → List (TenantId × ExtValue) → Type 0
AreInstalled journal installed =
    (tenant : TenantId) → AllZip IsExtension (texts_of journal tenant) (exts_of installed tenant)

-- a live call may have a turn, and what it has read belongs to the journal
pub record IsLive (grants : GrantsList) (journal : List Entry) (live : Live) : Type 0 where
  pub ready : live.phase ≡ Ready
  pub ran : RanOn grants journal live.call live.ext.program live.rights live.reads

-- the simulation stands at this state; of its pushed calls it has what their clients have
pub record StandsAt (sim : Sim) (state : SimState) : Type 0 where
  pub book : StandsFor sim.book state.journal
  pub grants : sim.book.grants ≡ state.grants
  pub policy : sim.policy ≡ state.policy
  pub limit : sim.book.limit ≡ state.limit
  pub audit : sim.book.audit ≡ true
  pub queues : sim.queues ≡ state.queues
  pub pushed : sim.pushed ≡ map pushed_of state.pushed
  pub next : sim.next ≡ state.next
  pub indexed : Indexes sim.callers (all_calls state)
  pub installed : AreInstalled state.journal state.installed
  pub live : AllLive (IsLive state.grants state.journal) (all_calls state)

-- the simulation stands at some state, as it does until it answers Memory
pub record Stands (sim : Sim) : Type 0 where
  pub state : SimState
  pub at : StandsAt sim state

-- how many workers there are
abbrev pub workers_of : Sim → ℕ
workers_of sim = length sim.queues

-- the event's workers are among these, and its numbers and bytes are within their limits
abbrev pub FitsEvent : ℕ → Event → Type 0
FitsEvent workers (event.Put tenant table key value) = IsValue value
FitsEvent workers (event.Ext tenant text) = Unit {0}
FitsEvent workers (event.Begin worker tenant asked) =
    (worker < workers) × MayBegin (call_of tenant asked)
FitsEvent workers (event.Turn worker quantum) = (worker < workers) × (1 ≤ quantum) × (quantum ≤ 10000)
FitsEvent workers (event.Steal worker «from») = (worker < workers) × («from» < workers)
FitsEvent workers (event.Away tenant caller) = Unit {0}
FitsEvent workers (event.Cut tenant caller) = Unit {0}

-- from each state at which the simulation stood, this rule tells the line, and gives the state at which
-- it then stands
pub record Tells (old new : Sim) (rule : SimState → Told) (line : Line) : Type 0 where
  pub told : (state : SimState) → StandsAt old state → line ≡ (rule state).0
  pub left : (state : SimState) → StandsAt old state → StandsAt new (rule state).1

-- an event was played by its rule
pub record Played (old new : Sim) (event : Event) (line : Line) : Type 0 where
  pub judgement : Judgement
  pub judged : IsJudged event judgement
  pub tells : Tells old new (λ state. event_of state event judgement) line

-- the next event of the drain was played
pub record DrainStep (old new : Sim) (line : Line) : Type 0 where
  pub event : Event
  pub next : (state : SimState) → StandsAt old state → next_event state ≡ Some event
  pub tells : Tells old new (λ state. drain_event state event) line

-- no call is live, and nothing changes
pub record NoneLeft (old new : Sim) : Type 0 where
  pub none : (state : SimState) → StandsAt old state → next_event state ≡ None
  pub same : new ≡ old

abbrev pub DrainPlayed : Sim → Sim → Option Line → Type 0
DrainPlayed old new None = NoneLeft old new
DrainPlayed old new (Some line) = DrainStep old new line

-- what all live calls have left
abbrev pub units_left : Sim → ℕ
units_left sim = total left_of sim.queues + sum_by left_away sim.pushed

-- the caller has a pushed call
abbrev pub HasPushed : Sim → Caller → Type 0
HasPushed sim caller = (call : Pushed) × (first_of (is_callers caller) sim.pushed ≡ Some call)

-- ---- Parts of a turn, on the queues without the call that has it

-- a call that is in no queue may be pushed: it runs with its tenant's rights, and its caller has no call
-- that was pushed
pub record MayBePushed (sim : Sim) (live : Live) : Type 0 where
  pub journal : List Entry
  pub stands : StandsFor sim.book journal
  pub own : live.rights ≡ granted sim.book.grants journal live.call.caller.tenant
  pub free : first_of (is_callers live.call.caller) sim.pushed ≡ None

-- the call joins the pushed calls, or the back of its worker's queue
abbrev pub IsPlaced : Sim → Sim → ℕ → Live → Bool → Type 0
IsPlaced old new worker live true = new ≡ record old { pushed = old.pushed ++ pushed_of live ∷ [] }
IsPlaced old new worker live false = new ≡ record old { queues = with_back old.queues worker live }

-- the call goes on, and is pushed or not; what is said of it tells so
pub record GoesOn (old new : Sim) (load worker : ℕ) (live : Live) (said : Bool → Said) (line : Line) : Type 0 where
  pub told : line ≡ of_call live.call (said (goes_away old.policy load live))
  pub left : IsPlaced old new worker live (goes_away old.policy load live)

-- the record joins its reads, and it goes on
abbrev pub ReadsOn : Sim → Sim → ℕ → ℕ → Live → TableId → List ℕ → Line → Type 0
ReadsOn old new load worker live table key line = (journal : List Entry) → StandsFor old.book journal
    → GoesOn old new load worker (given live (item_at journal table key)) (said.Read table key (item_at journal table key).version) line

-- what a call that has ended is answered
abbrev pub commit_of : Sim → List Entry → Home → Call → List ReadItem → Outcome → List Write → Commit
commit_of sim journal home call reads outcome writes =
    verdict sim.book.limit journal call (entry_at home call outcome writes reads) outcome reads

-- A call that has ended, in the server or at its client, is judged, and its caller has no live call.
pub record IsEnded (old new : Sim) (home : Home) (call : Call) (reads : List ReadItem) (outcome : Outcome) (writes : List Write) (line : Line) : Type 0 where
  pub told : (journal : List Entry) → StandsFor old.book journal
      → line ≡ of_call call (commit_said (commit_of old journal home call reads outcome writes))
  pub book : (journal : List Entry) → StandsFor old.book journal
      → StandsFor new.book (after_commit (commit_of old journal home call reads outcome writes) journal (entry_at home call outcome writes reads))
  pub fixed : KeepsFixed old.book new.book
  pub policy : new.policy ≡ old.policy
  pub queues : new.queues ≡ old.queues
  pub pushed : new.pushed ≡ old.pushed
  pub next : new.next ≡ old.next
  pub callers : (caller : Caller) → number_of new.callers caller ≡
      (if same_caller call.caller caller then None else number_of old.callers caller)

-- the call that had a turn has ended with it
pub record Ends (old new : Sim) (live : Live) (line : Line) : Type 0 where
  pub outcome : Outcome
  pub writes : List Write
  pub ended : live.phase ≡ Ended outcome writes
  pub is : IsEnded old new Server live.call live.reads outcome writes line

-- ---- Parts of what happens at a client

-- the client of the caller's pushed call wants a record, which its tenant may read
pub record Fetches (sim : Sim) (caller : Caller) (table : TableId) (key : List ℕ) : Type 0 where
  pub call : Pushed
  pub found : first_of (is_callers caller) sim.pushed ≡ Some call
  pub wants : WantsAt (meant call) table key
  pub journal : List Entry
  pub stands : StandsFor sim.book journal
  pub readable : IsTrue (can_read (granted sim.book.grants journal caller.tenant) table.0)

-- the record joined the call's reads, and the call kept its place
pub record HasFetched (old new : Sim) (caller : Caller) (number : CallNo) (call : Pushed) (table : TableId) (key : List ℕ) (answer : Line) : Type 0 where
  pub told : (journal : List Entry) → StandsFor old.book journal
      → answer ≡ line.Of caller number (said.Read table key (item_at journal table key).version false) false
  pub left : (journal : List Entry) → StandsFor old.book journal
      → new ≡ record old { pushed = with_first (is_callers caller) (joined call (item_at journal table key)) old.pushed }

-- the caller's pushed call has ended at its client, and its run belongs to the journal
pub record Finishes (sim : Sim) (caller : Caller) : Type 0 where
  pub call : Pushed
  pub found : first_of (is_callers caller) sim.pushed ≡ Some call
  pub ended : HasEnd (meant call)
  pub ran : (journal : List Entry) → StandsFor sim.book journal
      → RanOn sim.book.grants journal call.call call.ext.program call.rights call.reads
  pub audit : sim.book.audit ≡ true

-- the call was judged as its client sent it, and is no longer pushed
pub record HasFinished (old new : Sim) (caller : Caller) (call : Pushed) (line : Line) : Type 0 where
  pub outcome : Outcome
  pub writes : List Write
  pub meant : EndsWith (meant call) outcome writes
  pub is : IsEnded (record old { pushed = without_first (is_callers caller) old.pushed }) new Client call.call call.reads outcome writes line

-- the caller's pushed call is forgotten, and its caller has no live call
pub record IsForgotten (old new : Sim) (caller : Caller) (call : Pushed) (line : Line) : Type 0 where
  pub told : line ≡ of_call call.call said.Cut
  pub book : new.book ≡ old.book
  pub policy : new.policy ≡ old.policy
  pub queues : new.queues ≡ old.queues
  pub pushed : new.pushed ≡ without_first (is_callers caller) old.pushed
  pub next : new.next ≡ old.next
  pub callers : (other : Caller) → number_of new.callers other ≡
      (if same_caller call.call.caller other then None else number_of old.callers other)

-- a refused text is told with its line and its code
pub record FaultTold (given : ExtFault) (told : Line) : Type 0 where
  pub at : ℕ
  pub code : Refusal
  pub is : given ≡ fault.Rejected at code
  pub line_is : told ≡ line.Rejected at code
