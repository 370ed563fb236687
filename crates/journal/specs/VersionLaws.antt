-- The law on versions: the value of a version stays as the journal grows, and the version that now
-- stands has the value that now stands.
use Rattle.std.specs.Prelude.{◌≡◌, ◌≤◌, ℕ, List, ◌++◌, length}
use Rattle.sp_base.specs.Places.{Place}
use Rattle.journal.specs.declared.entry.Entry.{Entry}
use Rattle.journal.specs.Folds.{tables_of, value_at, version_of}

-- of every journal, every longer one and every place
pub record VersionsKeepTheirValues : Type 0 where
  pub stays : (journal later : List Entry) (place : Place) (version : ℕ) → version ≤ length journal
      → value_at (journal ++ later) place version ≡ value_at journal place version
  pub stands : (journal : List Entry) (place : Place)
      → value_at journal place (version_of journal place) ≡ tables_of journal place
  pub by_now : (journal : List Entry) (place : Place) → version_of journal place ≤ length journal
