-- What the live calls come to, counted together: those of each worker, and those that were pushed.
use Rattle.std.specs.Prelude.{◌≡◌, ℕ, ◌+◌, ◌-◌, ◌*◌, List, length, Option, Some, None, if◌then◌else◌}
use Rattle.std.specs.List.{AllByRecursion, sum_by}
use Rattle.sp_base.specs.declared.numbers.Caller.{Caller}
use Rattle.journal.specs.Folds.{same_caller}
use Rattle.clients.specs.declared.callers.Callers.{Callers}
use Rattle.clients.specs.Numbering.{number_of}
use Rattle.clients.specs.Pushed.{Pushed}
use Rattle.task.specs.Turning.{Live}

-- a number of each live call, summed over all lists
abbrev pub total : (Live → ℕ) → List (List Live) → ℕ
total weight queues = sum_by (sum_by weight) queues

-- a fact about each live call
abbrev pub AllLive : (Live → Type 0) → List (List Live) → Type 0
AllLive Holds queues = AllByRecursion (AllByRecursion Holds) queues

-- one for a call of the caller
abbrev pub is_of : Caller → Live → ℕ
is_of caller live = if same_caller live.call.caller caller then 1 else 0

-- the number of a call of the caller
abbrev pub number_in : Caller → Live → ℕ
number_in caller live = if same_caller live.call.caller caller then live.call.number.0 else 0

-- what the index says of a caller, who has so many live calls, and numbers of them that come to this sum
abbrev pub PointsTo : Option ℕ → ℕ → ℕ → Type 0
PointsTo None calls numbers = calls ≡ 0
PointsTo (Some number) calls numbers = (calls ≡ 1) × (numbers ≡ number)

-- each caller has one live call at most, and the index has its number
abbrev pub Indexes : Callers → List (List Live) → Type 0
Indexes callers queues =
    (caller : Caller) → PointsTo (number_of callers caller) (total (is_of caller) queues) (total (number_in caller) queues)

-- The units that a queued call has left, and one more: it ends at the latest in the turn in which it has
-- spent its budget. Beside them is all that it has where it is pushed.
abbrev pub left_of : Live → ℕ
left_of live = (live.call.budget + 1 - live.spent) + (live.call.budget + 1)

-- What a pushed call has left: each record that its client is given takes 16 units of its budget.
abbrev pub left_away : Pushed → ℕ
left_away pushed = pushed.call.budget + 1 - 16 * length pushed.reads
