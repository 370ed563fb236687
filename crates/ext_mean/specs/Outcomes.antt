-- What a run answers, and what it changes.
use Rattle.std.specs.Prelude.{◌≡◌, ◌≤◌, ℕ, List, [], length, Option, Some, None}
use Rattle.sp_base.specs.Limits.{IsValue}
use Rattle.sp_base.specs.Places.{Place}
use Rattle.sp_base.specs.declared.writes.Change.{Change}
use Rattle.sp_base.specs.declared.writes.Change.TheVariants.{Put, Del}
use Rattle.sp_base.specs.declared.outcomes.Outcome.{Outcome}
use Rattle.sp_base.specs.declared.outcomes.Outcome.TheVariants as outcome
use Rattle.sp_base.specs.declared.writes.Write.{Write}
use Rattle.ext_mean.specs.declared.run.Run.{Run}
use Rattle.ext_mean.specs.declared.run.Run.TheVariants.{Done, Trapped, Spent, Wants}

-- the outcome of a run; one that wants a record has none yet
abbrev pub outcome_of : Run → Option Outcome
outcome_of (Done reply writes used) = Some (outcome.Done reply)
outcome_of (Trapped trap used) = Some (outcome.Trapped trap)
outcome_of Spent = Some outcome.Killed
outcome_of (Wants table key used) = None

-- its changes: only a run that came to its end has any
abbrev pub changes_of : Run → List Write
changes_of (Done reply writes used) = writes
changes_of (Trapped trap used) = []
changes_of Spent = []
changes_of (Wants table key used) = []

-- a run ended with this outcome and these changes
pub record EndsWith (run : Run) (outcome : Outcome) (changes : List Write) : Type 0 where
  pub answers : outcome_of run ≡ Some outcome
  pub leaves : changes_of run ≡ changes

-- the place that a run wants
abbrev pub wanted_by : Run → Option Place
wanted_by (Done reply writes used) = None
wanted_by (Trapped trap used) = None
wanted_by Spent = None
wanted_by (Wants table key used) = Some (record { table = table.0; key = key })

-- the units that a run used; a spent one used its whole budget
abbrev pub units_of : ℕ → Run → ℕ
units_of budget (Done reply writes used) = used
units_of budget (Trapped trap used) = used
units_of budget Spent = budget
units_of budget (Wants table key used) = used

-- a reply's bytes are within their limit, in an outcome that has a reply
abbrev pub ReplyFits : Outcome → Type 0
ReplyFits (outcome.Done reply) = length reply.bytes ≤ 4096
ReplyFits (outcome.Trapped trap) = Unit {0}
ReplyFits outcome.Killed = Unit {0}

-- what a change puts is within the limit of values
abbrev pub PutFits : Change → Type 0
PutFits (Put value) = IsValue value
PutFits Del = Unit {0}

abbrev pub ChangeFits : Write → Type 0
ChangeFits write = PutFits write.change
