-- What a play keeps from one event to the next.
use Rattle.std.specs.Prelude.{ℕ, ◌==◌, Bool, List, [], ◌∷◌, ◌++◌, Option, Some, None, slice_index_or, slice_set, if◌then◌else◌}
use Rattle.sp_base.specs.declared.calls.Policy.{Policy}
use Rattle.sp_base.specs.declared.numbers.Caller.{Caller}
use Rattle.sp_base.specs.declared.numbers.TenantId.{TenantId}
use Rattle.journal.specs.declared.entry.Entry.{Entry}
use Rattle.journal.specs.Folds.{same_caller}
use Rattle.clients.specs.First.{first_of}
use Rattle.records.specs.GrantsList.{GrantsList}
use Rattle.task.specs.Extensions.{ExtValue}
use Rattle.task.specs.Turning.{Live}

-- The grants, when calls are pushed to their clients, the most entries that the journal may have, and
-- the journal; the installed extensions with their tenants, in order; the live calls of each worker, the
-- first to turn in front; the calls that were pushed, in that order; and the worker that the drain looks
-- at next.
pub record SimState : Type 0 where
  pub grants : GrantsList
  pub policy : Policy
  pub limit : ℕ
  pub journal : List Entry
  pub installed : List (TenantId × ExtValue)
  pub queues : List (List Live)
  pub pushed : List Live
  pub next : ℕ

-- the extensions that a tenant installed, in order
abbrev pub exts_of : List (TenantId × ExtValue) → TenantId → List ExtValue
exts_of [] tenant = []
exts_of (one ∷ rest) tenant =
    if one.0.0 == tenant.0 then one.1 ∷ exts_of rest tenant else exts_of rest tenant

-- the live calls of a worker
abbrev pub queue_of : List (List Live) → ℕ → List Live
queue_of queues worker = slice_index_or queues worker []

-- the first of these live calls that is the caller's, or else another one
abbrev pub or_first_of : List Live → Caller → Option Live → Option Live
or_first_of [] caller other = other
or_first_of (live ∷ queue) caller other =
    if same_caller live.call.caller caller then Some live else or_first_of queue caller other

-- the caller's call in one of these lists
abbrev pub live_call : List (List Live) → Caller → Option Live
live_call [] caller = None
live_call (queue ∷ queues) caller = or_first_of queue caller (live_call queues caller)

-- all live calls: those that were pushed, and those of each worker
abbrev pub all_calls : SimState → List (List Live)
all_calls state = state.pushed ∷ state.queues

-- whether a call is the caller's
abbrev pub is_call_of : Caller → Live → Bool
is_call_of caller live = same_caller live.call.caller caller

-- the caller's pushed call
abbrev pub pushed_call : SimState → Caller → Option Live
pushed_call state caller = first_of (is_call_of caller) state.pushed

-- the state with this journal
abbrev pub with_journal : SimState → List Entry → SimState
with_journal state journal = record state { journal = journal }

-- the state with these live calls for a worker
abbrev pub with_queue : SimState → ℕ → List Live → SimState
with_queue state worker queue = record state { queues = slice_set state.queues worker queue }

-- the state with a call at the back of a worker's queue
abbrev pub queued : SimState → ℕ → Live → SimState
queued state worker live = with_queue state worker (queue_of state.queues worker ++ live ∷ [])

-- the state with these pushed calls
abbrev pub with_pushed : SimState → List Live → SimState
with_pushed state pushed = record state { pushed = pushed }
