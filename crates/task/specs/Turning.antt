-- One turn of a live call, by the meaning alone: without queues, and without what it costs to run.
use Rattle.std.specs.Prelude.{ℕ, ◌+◌, List, [], ◌∷◌, ◌++◌, min, nat_lt, if◌then◌else◌}
use Rattle.sp_base.specs.declared.calls.Call.{Call}
use Rattle.sp_base.specs.declared.numbers.TableId.{TableId}
use Rattle.sp_base.specs.declared.outcomes.Outcome.{Outcome}
use Rattle.sp_base.specs.declared.outcomes.Outcome.TheVariants as outcome
use Rattle.sp_base.specs.declared.reads.ReadItem.{ReadItem}
use Rattle.sp_base.specs.declared.rights.Level.{Level}
use Rattle.sp_base.specs.declared.writes.Write.{Write}
use Rattle.ext_mean.specs.declared.run.Run.{Run}
use Rattle.ext_mean.specs.declared.run.Run.TheVariants as run
use Rattle.ext_mean.specs.Meaning.{mean}
use Rattle.ext_mean.specs.Views.{part}
use Rattle.task.specs.declared.phase.Phase.{Phase}
use Rattle.task.specs.declared.phase.Phase.TheVariants.{Ready, Waiting, Ended}
use Rattle.task.specs.Extensions.{ExtValue}

-- A live call: its extension, the rights with which it runs, what it has read, in order, the units
-- that it has spent, and whether it may turn, waits for a record or has ended.
pub record Live : Type 0 where
  pub call : Call
  pub ext : ExtValue
  pub rights : List (TableId × Level)
  pub reads : List ReadItem
  pub spent : ℕ
  pub phase : Phase

-- a call as it begins: it has read nothing, and spent nothing
abbrev pub begun : Call → ExtValue → List (TableId × Level) → Live
begun call ext rights =
    record { call = call; ext = ext; rights = rights; reads = []; spent = 0; phase = Ready }

-- what its program means with so many units, on some reads
abbrev pub meaning_on : Live → ℕ → List ReadItem → Run
meaning_on live units reads = mean live.ext.program live.call.args units (part reads live.rights)

-- what its program means with so many units, on what it has read
abbrev pub meaning_with : Live → ℕ → Run
meaning_with live units = meaning_on live units live.reads

-- the units of a turn: a quantum more than were spent, and never more than the budget
abbrev pub units_of_turn : Live → ℕ → ℕ
units_of_turn live quantum = min live.call.budget (live.spent + quantum)

-- the call with so many units spent
abbrev pub spending : Live → ℕ → Live
spending live units = record live { spent = units }

-- the call that waits for a record, with so many units spent
abbrev pub waiting : Live → TableId → List ℕ → ℕ → Live
waiting live table key used = record live { spent = used; phase = Waiting table key }

-- the call that has ended
abbrev pub ending : Live → Outcome → List Write → Live
ending live outcome writes = record live { phase = Ended outcome writes }

-- A wanted record is waited for, with the units used there as spent. A run that is spent below its
-- budget goes on behind its quantum. Any other run ends the call.
abbrev pub after_run : Live → ℕ → Run → Live
after_run live quantum (run.Wants table key used) = waiting live table key used
after_run live quantum run.Spent =
    if nat_lt (live.spent + quantum) live.call.budget
    then spending live (live.spent + quantum)
    else ending live outcome.Killed []
after_run live quantum (run.Trapped trap used) = ending live (outcome.Trapped trap) []
after_run live quantum (run.Done reply writes used) = ending live (outcome.Done reply) writes

-- one turn: the meaning with the units of the turn decides
abbrev pub turn_of : Live → ℕ → Live
turn_of live quantum = after_run live quantum (meaning_with live (units_of_turn live quantum))

-- the record that was waited for joins the reads
abbrev pub given : Live → ReadItem → Live
given live item = record live { reads = live.reads ++ item ∷ []; phase = Ready }
