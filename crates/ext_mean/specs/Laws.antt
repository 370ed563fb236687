-- Laws of the meaning, on which every layer above rests.
use Rattle.std.specs.Prelude.{◌≡◌, ◌≢◌, ◌≤◌, ◌+◌, ◌*◌, ℕ, List, None, IsTrue}
use Rattle.sp_base.specs.declared.numbers.TableId.{TableId}
use Rattle.sp_base.specs.Limits.{IsKey}
use Rattle.sp_base.specs.Places.{Place}
use Rattle.sp_base.specs.RightsList.{can_read}
use Rattle.ext_mean.specs.declared.tree.Program.{Program}
use Rattle.ext_mean.specs.declared.run.Run.{Run}
use Rattle.ext_mean.specs.declared.run.Run.TheVariants.{Done, Trapped, Spent, Wants}
use Rattle.ext_mean.specs.Views.{View, Extends}
use Rattle.ext_mean.specs.Outcomes.{outcome_of, units_of}
use Rattle.ext_mean.specs.Meaning.{mean}

-- where the meaning with some units is not spent, it is the same with every greater number
abbrev pub GreaterBudgetsMeanTheSame : Type 0
GreaterBudgetsMeanTheSame =
    (program : Program) (args : List ℕ) (budget greater : ℕ) (view : View)
    → budget ≤ greater → mean program args budget view ≢ Spent
    → mean program args greater view ≡ mean program args budget view

-- a run that is not spent is the same with any number of units that holds those it used
abbrev pub UsedUnitsSuffice : Type 0
UsedUnitsSuffice =
    (program : Program) (args : List ℕ) (budget units : ℕ) (view : View)
    → mean program args budget view ≢ Spent → units_of budget (mean program args budget view) ≤ units
    → mean program args units view ≡ mean program args budget view

-- where the meaning on a view wants nothing, it is the same on every view that knows as much
abbrev pub KnownRecordsDecide : Type 0
KnownRecordsDecide =
    (program : Program) (args : List ℕ) (budget : ℕ) (small large : View)
    → Extends small large → outcome_of (mean program args budget small) ≢ None
    → mean program args budget large ≡ mean program args budget small

-- the place with a table's number and a key
abbrev pub place_in : TableId → List ℕ → Place
place_in table key = record { table = table.0; key = key }

-- where a view does not know what the meaning wants on a smaller one, the meaning is the same on it
abbrev pub WantsPersist : Type 0
WantsPersist =
    (program : Program) (args : List ℕ) (budget : ℕ) (small large : View)
    (table : TableId) (key : List ℕ) (used : ℕ)
    → Extends small large → mean program args budget small ≡ Wants table key used
    → large.known (place_in table key) ≡ None
    → mean program args budget large ≡ mean program args budget small

-- the units that a run used are in its budget
abbrev pub IsWithin : ℕ → Run → Type 0
IsWithin budget (Done reply writes used) = used ≤ budget
IsWithin budget (Trapped trap used) = used ≤ budget
IsWithin budget Spent = Unit {0}
IsWithin budget (Wants table key used) = used ≤ budget

-- no run uses more than its budget
abbrev pub RunsStayWithinBudgets : Type 0
RunsStayWithinBudgets =
    (program : Program) (args : List ℕ) (budget : ℕ) (view : View)
    → IsWithin budget (mean program args budget view)

-- A want is due: its 16 units are among those used, the view does not know the place, the rights let
-- its table be read, and its key is one.
pub record IsDue (view : View) (table : TableId) (key : List ℕ) (used : ℕ) : Type 0 where
  pub paid : 16 ≤ used
  pub unknown : view.known (place_in table key) ≡ None
  pub readable : IsTrue (can_read view.rights table.0)
  pub sized : IsKey key

-- every want is due
abbrev pub WantsAreDue : Type 0
WantsAreDue =
    (program : Program) (args : List ℕ) (budget : ℕ) (view : View)
    (table : TableId) (key : List ℕ) (used : ℕ)
    → mean program args budget view ≡ Wants table key used
    → IsDue view table key used

-- So many wants of a run were answered, one after another, until it came to this view: each view of
-- the chain knows all that the one before it knows, and the record that the run wanted there.
pub data Answered (program : Program) (args : List ℕ) (budget : ℕ) : View → ℕ → Type 0 where
  NoneYet : (view : View) → Answered program args budget view 0
  OneMore : (small large : View) (count : ℕ) (table : TableId) (key : List ℕ) (used : ℕ)
      → Answered program args budget small count
      → mean program args budget small ≡ Wants table key used
      → Extends small large → large.known (place_in table key) ≢ None
      → Answered program args budget large (count + 1)

-- where the meaning wants a record, it has used 16 units for it and for each known one that it asked
abbrev pub WantsCost : Type 0
WantsCost =
    (program : Program) (args : List ℕ) (budget : ℕ) (view : View) (count : ℕ)
    (table : TableId) (key : List ℕ) (used : ℕ)
    → Answered program args budget view count
    → mean program args budget view ≡ Wants table key used
    → 16 * (count + 1) ≤ used
