-- Lists of reads that a run asked, one after another.
use Rattle.std.specs.Prelude.{◌≡◌, ◌≢◌, ◌≤◌, ◌+◌, ◌*◌, ℕ, List, [], ◌∷◌, ◌++◌, length, Some, None, slice_get, take, All, if◌then◌else◌}
use Rattle.std.specs.List.{IsDistinct}
use Rattle.sp_base.specs.Places.{Place, same_place}
use Rattle.sp_base.specs.declared.numbers.TableId.{TableId}
use Rattle.sp_base.specs.declared.reads.ReadItem.{ReadItem}
use Rattle.sp_base.specs.declared.rights.Level.{Level}
use Rattle.ext_mean.specs.declared.tree.Program.{Program}
use Rattle.ext_mean.specs.declared.run.Run.{Run}
use Rattle.ext_mean.specs.declared.run.Run.TheVariants.{Wants}
use Rattle.ext_mean.specs.Outcomes.{wanted_by}
use Rattle.ext_mean.specs.Views.{View, part, place_of}
use Rattle.ext_mean.specs.Meaning.{mean}

-- the run wants the record of this read
abbrev pub IsWanted : Run → ReadItem → Type 0
IsWanted run read = wanted_by run ≡ Some (place_of read)

-- the reads are, in order, those that the program asks for: it wants each on those before it
pub record AreAsked (program : Program) (args : List ℕ) (budget : ℕ)
    (rights : List (TableId × Level)) (reads : List ReadItem) : Type 0 where
  pub each : (k : ℕ) (read : ReadItem) → slice_get reads k ≡ Some read
      → IsWanted (mean program args budget (part (take k reads) rights)) read

-- on all of these reads the program wants nothing more
abbrev pub IsComplete :
    Program → List ℕ → ℕ → List (TableId × Level) → List ReadItem → Type 0
IsComplete program args budget rights reads =
    wanted_by (mean program args budget (part reads rights)) ≡ None

-- a read that the meaning wants on the reads asked joins them
abbrev pub WantedReadJoins : Type 0
WantedReadJoins =
    (program : Program) (args : List ℕ) (budget : ℕ) (rights : List (TableId × Level))
    (reads : List ReadItem) (read : ReadItem)
    → AreAsked program args budget rights reads
    → IsWanted (mean program args budget (part reads rights)) read
    → AreAsked program args budget rights (reads ++ read ∷ [])

-- where the meaning wants a record on the reads asked, it has used 16 units for it and for each read
abbrev pub ReadsCost : Type 0
ReadsCost =
    (program : Program) (args : List ℕ) (budget : ℕ) (rights : List (TableId × Level))
    (reads : List ReadItem) (table : TableId) (key : List ℕ) (used : ℕ)
    → AreAsked program args budget rights reads
    → mean program args budget (part reads rights) ≡ Wants table key used
    → 16 * (length reads + 1) ≤ used

-- the view that knows all but the record at a place
abbrev pub without : View → Place → View
without view place =
    record view { known = λ other. if same_place other place then None else view.known other }

-- the run asks the record that its view knows at a place: without it, it would want it
pub record AsksRecord (program : Program) (args : List ℕ) (budget : ℕ) (view : View) (place : Place) : Type 0 where
  pub known : view.known place ≢ None
  pub used : ℕ
  pub wanted :
      mean program args budget (without view place) ≡ Wants (record { 0 = place.table }) place.key used

-- where the meaning wants a record, it has used 16 units for it and for each known record that it asked
abbrev pub KnownRecordsCost : Type 0
KnownRecordsCost =
    (program : Program) (args : List ℕ) (budget : ℕ) (view : View) (places : List Place)
    (table : TableId) (key : List ℕ) (used : ℕ)
    → IsDistinct same_place places → All (AsksRecord program args budget view) places
    → mean program args budget view ≡ Wants table key used
    → 16 * (length places + 1) ≤ used
