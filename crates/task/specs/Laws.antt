-- Laws of tasks: what turns and records keep, and how many turns a call may have.
use Rattle.std.specs.Prelude.{◌≡◌, ◌≤◌, ◌<◌, ℕ, ◌+◌, ◌/◌, ◌*◌, List, length}
use Rattle.sp_base.specs.Limits.{IsArguments}
use Rattle.sp_base.specs.declared.calls.Call.{Call}
use Rattle.sp_base.specs.declared.numbers.TableId.{TableId}
use Rattle.sp_base.specs.declared.reads.ReadItem.{ReadItem}
use Rattle.sp_base.specs.declared.rights.Level.{Level}
use Rattle.task.specs.declared.phase.Phase.TheVariants.{Ready, Waiting}
use Rattle.task.specs.Extensions.{ExtValue}
use Rattle.task.specs.Tasks.{GoesOn, IsTask}
use Rattle.task.specs.Turning.{Live, begun, given, turn_of}

-- a call that may begin: its budget is from 1 to 100,000 units, and its arguments are within theirs
pub record MayBegin (call : Call) : Type 0 where
  pub some_budget : 1 ≤ call.budget
  pub budget : call.budget ≤ 100000
  pub arguments : IsArguments call.args

-- a call that begins is a task
abbrev pub CallsBeginAsTasks : Type 0
CallsBeginAsTasks =
    (call : Call) (ext : ExtValue) (rights : List (TableId × Level)) → MayBegin call → IsTask (begun call ext rights)

-- a task is one after each turn
abbrev pub TurnsKeepTasks : Type 0
TurnsKeepTasks =
    (live : Live) (quantum : ℕ) → IsTask live → live.phase ≡ Ready → IsTask (turn_of live quantum)

-- and when it is given the record that it waits for
abbrev pub RecordsKeepTasks : Type 0
RecordsKeepTasks =
    (live : Live) (item : ReadItem) → IsTask live → live.phase ≡ Waiting item.table item.key → IsTask (given live item)

-- a turn behind which the call goes on strictly raises the units spent
abbrev pub TurnsRaiseTheUnitsSpent : Type 0
TurnsRaiseTheUnitsSpent =
    (live : Live) (quantum : ℕ) → IsTask live → live.phase ≡ Ready → 0 < quantum
    → GoesOn (turn_of live quantum).phase → live.spent < (turn_of live quantum).spent

-- a task has spent 16 units for each read, and never more than its budget
abbrev pub ReadsArePaid : Type 0
ReadsArePaid =
    (live : Live) → IsTask live → (16 * length live.reads ≤ live.spent) × (live.spent ≤ live.call.budget)

-- so many turns of one quantum, each record that was wanted between them given
pub data AfterTurns (quantum : ℕ) (start : Live) : ℕ → Live → Type 0 where
  no_turns : AfterTurns quantum start 0 start
  one_more : (count : ℕ) (live : Live) → AfterTurns quantum start count live → live.phase ≡ Ready
      → AfterTurns quantum start (count + 1) (turn_of live quantum)
  a_record : (count : ℕ) (live : Live) (item : ReadItem) → AfterTurns quantum start count live
      → live.phase ≡ Waiting item.table item.key → AfterTurns quantum start count (given live item)

-- a call that goes on has had few turns: one for each quantum of its budget, and one for each read
-- that the budget can pay
abbrev pub UnfinishedCallsHadFewTurns : Type 0
UnfinishedCallsHadFewTurns =
    (call : Call) (ext : ExtValue) (rights : List (TableId × Level)) (quantum count : ℕ) (live : Live)
    → MayBegin call → 0 < quantum → AfterTurns quantum (begun call ext rights) count live → GoesOn live.phase
    → count < call.budget / quantum + call.budget / 16 + 2
