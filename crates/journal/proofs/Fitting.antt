-- What stands in the tables is within the limit of values.
use Rattle.std.specs.Prelude.{if◌then◌else◌}
use Rattle.std.specs.List.{AllByRecursion}
use Rattle.std.proofs.Common.{◌≡◌, ◌≤◌, ℕ, zero, suc, ◌+◌, Bool, true, false, List, [], ◌∷◌, Some, slice_get, refl, arith}
use Rattle.sp_base.specs.declared.writes.Change.{Change}
use Rattle.sp_base.specs.declared.writes.Change.TheVariants as change
use Rattle.sp_base.specs.declared.writes.Write.{Write}
use Rattle.sp_base.specs.Places.{Place, same_place}
use Rattle.sp_base.specs.Spelling.{FitsOpt}
use Rattle.ext_mean.specs.Outcomes.{ChangeFits, PutFits}
use Rattle.records.specs.Records.{Record, absent, place_at}
use Rattle.journal.specs.declared.entry.Entry.{Entry}
use Rattle.journal.specs.declared.entry.Entry.TheVariants.{Invoke, Put, Install}
use Rattle.journal.specs.Folds.{after_changes, after_entries, after_entry, changed_by, put_by, record_of}
use Rattle.journal.specs.Legal.{EachFrom}
use Rattle.journal.specs.Sizes.{EntryFits}

either-fits : (same : Bool) (new old : Record) → FitsOpt new.value → FitsOpt old.value → FitsOpt (if same then new else old).value
either-fits true new old fits kept = fits
either-fits false new old fits kept = kept

changed-fits : (n : ℕ) (made : Change) → PutFits made → FitsOpt (changed_by n made).value
changed-fits n (change.Put value) fits = fits
changed-fits n change.Del fits = tt

changes-fit : (n : ℕ) (writes : List Write) (place : Place) (before : Record) → AllByRecursion ChangeFits writes
    → FitsOpt before.value → FitsOpt (after_changes n writes place before).value
changes-fit n [] place before fits kept = kept
changes-fit n (write ∷ writes) place before fits kept =
    changes-fit n writes place _ fits.1
    (either-fits (same_place (place_at write.table write.key) place) (changed_by n write.change) before
    (changed-fits n write.change fits.0) kept)

entry-fits : (n : ℕ) (entry : Entry) (place : Place) (before : Record) → EntryFits entry → FitsOpt before.value
    → FitsOpt (after_entry n entry place before).value
entry-fits n (Invoke call outcome writes reads home) place before fits kept = changes-fit n writes place before fits.values kept
entry-fits n (Put tenant table key value) place before fits kept =
    either-fits (same_place (place_at table key) place) (put_by n value) before fits kept
entry-fits n (Install tenant text) place before fits kept = kept

entries-fit : (entries : List Entry) (n : ℕ) (place : Place) (before : Record)
    → ((i : ℕ) (entry : Entry) → slice_get entries i ≡ Some entry → EntryFits entry) → FitsOpt before.value
    → FitsOpt (after_entries n entries place before).value
entries-fit [] n place before fits kept = kept
entries-fit (entry ∷ entries) n place before fits kept =
    entries-fit entries (n + 1) place (after_entry n entry place before) (λ i later found. fits (suc i) later found)
    (entry-fits n entry place before (fits zero entry refl) kept)

-- where each entry is within the limits, so is what the journal leaves at a place
pub record-fits : (journal : List Entry) (place : Place) → EachFrom (λ before entry. EntryFits entry) 0 journal
    → FitsOpt (record_of journal place).value
record-fits journal place fits =
    entries-fit journal 0 place absent (λ i entry found. fits i entry (omega arith) found) tt
