-- What every task keeps.
use Rattle.std.specs.Prelude.{◌≡◌, ◌≤◌, ◌*◌, List, [], ◌∷◌, ◌++◌, length}
use Rattle.sp_base.specs.Limits.{IsArguments}
use Rattle.sp_base.specs.declared.reads.ReadItem.{ReadItem}
use Rattle.ext_mean.specs.declared.run.Run.TheVariants.{Spent, Wants}
use Rattle.ext_mean.specs.Asked.{AreAsked, IsWanted}
use Rattle.ext_mean.specs.Outcomes.{EndsWith}
use Rattle.task.specs.declared.phase.Phase.{Phase}
use Rattle.task.specs.declared.phase.Phase.TheVariants.{Ready, Waiting, Ended}
use Rattle.task.specs.declared.turned.Turned.{Turned}
use Rattle.task.specs.declared.turned.Turned.TheVariants as turned
use Rattle.task.specs.Turning.{Live, meaning_on, meaning_with}

-- what a turn's answer tells of where the call then stands
abbrev pub told_of : Phase → Turned
told_of Ready = turned.Ran
told_of (Waiting table key) = turned.Wants table key
told_of (Ended outcome writes) = turned.Ended

-- the call has ended
abbrev pub HasEnded : Phase → Type 0
HasEnded Ready = ⊥
HasEnded (Waiting table key) = ⊥
HasEnded (Ended outcome writes) = Unit {0}

-- the call goes on: it may turn, or waits for a record
abbrev pub GoesOn : Phase → Type 0
GoesOn Ready = Unit {0}
GoesOn (Waiting table key) = Unit {0}
GoesOn (Ended outcome writes) = ⊥

-- Where a call that may turn stands: at its begin, at the want of its last read, or where the units
-- that it has spent ran out.
pub data StandsReady (live : Live) : Type 0 where
  at_begin : live.reads ≡ [] → live.spent ≡ 0 → StandsReady live
  at_read : (earlier : List ReadItem) (read : ReadItem) → live.reads ≡ earlier ++ read ∷ []
      → meaning_on live live.spent earlier ≡ Wants read.table read.key live.spent → StandsReady live
  at_quantum : meaning_with live live.spent ≡ Spent → StandsReady live

-- where a call stands: one that waits wants this record with the units spent, and one that has ended
-- did so by the meaning with its whole budget
abbrev pub Stands : Live → Phase → Type 0
Stands live Ready = StandsReady live
Stands live (Waiting table key) = meaning_with live live.spent ≡ Wants table key live.spent
Stands live (Ended outcome writes) = EndsWith (meaning_with live live.call.budget) outcome writes

-- What every task keeps. Its reads are, in order, those that the meaning with the budget wants; the
-- meaning with the units spent wants the last of them; and each has cost 16 units.
pub record IsTask (live : Live) : Type 0 where
  pub some_budget : 1 ≤ live.call.budget
  pub budget : live.call.budget ≤ 100000
  pub arguments : IsArguments live.call.args
  pub asked : AreAsked live.ext.program live.call.args live.call.budget live.rights live.reads
  pub last : (earlier : List ReadItem) (read : ReadItem) → live.reads ≡ earlier ++ read ∷ []
      → IsWanted (meaning_on live live.spent earlier) read
  pub paid : 16 * length live.reads ≤ live.spent
  pub within : live.spent ≤ live.call.budget
  pub stands : Stands live live.phase
