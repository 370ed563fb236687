-- Laws of rights and limits: what a run may want, change and answer, whatever its program.
use Rattle.std.specs.Prelude.{◌≡◌, ◌≤◌, ℕ, IsTrue, List, length, map, Some}
use Rattle.std.specs.List.{AllByRecursion, IsDistinct}
use Rattle.sp_base.specs.declared.outcomes.Outcome.{Outcome}
use Rattle.sp_base.specs.Limits.{IsKey}
use Rattle.sp_base.specs.Places.{Place, same_place}
use Rattle.sp_base.specs.RightsList.{can_read, can_write}
use Rattle.ext_mean.specs.declared.run.Run.{Run}
use Rattle.ext_mean.specs.declared.tree.Program.{Program}
use Rattle.ext_mean.specs.Views.{View}
use Rattle.ext_mean.specs.Outcomes.{outcome_of, changes_of, wanted_by, ReplyFits, ChangeFits}
use Rattle.ext_mean.specs.Meaning.{mean}
use Rattle.ext_mean.specs.MeaningValues.{place_changed}

-- a run wants only places whose tables its rights let it read, with keys of 1 to 64 bytes
abbrev pub OnlyReadableIsWanted : Type 0
OnlyReadableIsWanted =
    (program : Program) (args : List ℕ) (budget : ℕ) (view : View) (place : Place)
    → wanted_by (mean program args budget view) ≡ Some place
    → IsTrue (can_read view.rights place.table) × IsKey place.key

-- a run changes only tables that its rights let it write
abbrev pub OnlyWritableIsChanged : Type 0
OnlyWritableIsChanged =
    (program : Program) (args : List ℕ) (budget : ℕ) (view : View)
    → AllByRecursion (λ write. IsTrue (can_write view.rights write.table.0))
    (changes_of (mean program args budget view))

-- a run answers and changes no more than the limits allow: at most 64 places, by keys of 1 to 64
-- bytes
pub record IsWithinLimits (run : Run) : Type 0 where
  pub reply : (outcome : Outcome) → outcome_of run ≡ Some outcome → ReplyFits outcome
  pub few : length (changes_of run) ≤ 64
  pub keys : AllByRecursion (λ write. IsKey write.key) (changes_of run)
  pub values : AllByRecursion ChangeFits (changes_of run)

abbrev pub RunsAreWithinLimits : Type 0
RunsAreWithinLimits =
    (program : Program) (args : List ℕ) (budget : ℕ) (view : View)
    → IsWithinLimits (mean program args budget view)

-- a run changes each place at most once
abbrev pub PlacesAreChangedOnce : Type 0
PlacesAreChangedOnce =
    (program : Program) (args : List ℕ) (budget : ℕ) (view : View)
    → IsDistinct same_place (map place_changed (changes_of (mean program args budget view)))
