-- What a verdict and a legal journal say to those who hear a Conflict or a Killed.
use Rattle.std.specs.Prelude.{◌≡◌, ◌≢◌, ◌<◌, ℕ, true, List, Some, slice_get}
use Rattle.sp_base.specs.declared.calls.Call.{Call}
use Rattle.sp_base.specs.declared.numbers.TableId.{TableId}
use Rattle.sp_base.specs.declared.outcomes.Outcome.{Outcome}
use Rattle.sp_base.specs.declared.outcomes.Outcome.TheVariants.{Killed}
use Rattle.sp_base.specs.declared.reads.ReadItem.{ReadItem}
use Rattle.ext_mean.specs.declared.run.Run.TheVariants.{Spent}
use Rattle.ext_mean.specs.declared.tree.Program.{Program}
use Rattle.ext_mean.specs.Meaning.{mean}
use Rattle.ext_mean.specs.Views.{place_of, whole}
use Rattle.book.specs.declared.answers.Commit.TheVariants.{Conflict}
use Rattle.journal.specs.declared.entry.Entry.{Entry}
use Rattle.journal.specs.declared.entry.Entry.TheVariants.{Invoke, Put, Install}
use Rattle.records.specs.GrantsList.{GrantsList}
use Rattle.journal.specs.Folds.{tables_of, version_of}
use Rattle.journal.specs.Granted.{granted}
use Rattle.journal.specs.Legal.{EachFrom, Legal, Names}
use Rattle.journal.specs.Reads.{IsCurrent}
use Rattle.book.specs.Standing.{IsSound}
use Rattle.book.specs.Verdict.{verdict}

-- the read at this index is the first whose version is not the one that now stands
pub record IsFirstMoved (journal : List Entry) (reads : List ReadItem) (at : ℕ) (item : ReadItem) : Type 0 where
  pub among : slice_get reads at ≡ Some item
  pub moved : item.version ≢ version_of journal (place_of item)
  pub first : (k : ℕ) (earlier : ReadItem) → k < at → slice_get reads k ≡ Some earlier → IsCurrent journal earlier

-- a read of the run has moved, and the conflict tells its place, its version and the one that now stands
pub record NamesMovedRead (journal : List Entry) (reads : List ReadItem) (table : TableId) (key : List ℕ) (read now : ℕ) : Type 0 where
  pub at : ℕ
  pub item : ReadItem
  pub is : IsFirstMoved journal reads at item
  pub table_is : table ≡ item.table
  pub key_is : key ≡ item.key
  pub read_is : read ≡ item.version
  pub now_is : now ≡ version_of journal (place_of item)
  pub differ : read ≢ now

-- every Conflict names a read whose version had moved
abbrev pub ConflictsNameMovedReads : Type 0
ConflictsNameMovedReads =
    (limit : ℕ) (journal : List Entry) (call : Call) (entry : Entry) (outcome : Outcome) (reads : List ReadItem)
    (table : TableId) (key : List ℕ) (read read_at now now_at : ℕ)
    → verdict limit journal call entry outcome reads ≡ Conflict table key read read_at now now_at
    → NamesMovedRead journal reads table key read now

-- a call's program, alone on the tables then standing, spends its whole budget
pub record SpendsAlone (grants : GrantsList) (before : List Entry) (call : Call) : Type 0 where
  pub program : Program
  pub names : Names before call program
  pub spent : mean program call.args call.budget (whole (tables_of before) (granted grants before call.caller.tenant)) ≡ Spent

abbrev pub KilledAt : GrantsList → List Entry → Entry → Type 0
KilledAt grants before (Invoke call outcome writes reads home) = outcome ≡ Killed → SpendsAlone grants before call
KilledAt grants before (Put tenant table key value) = Unit {0}
KilledAt grants before (Install tenant text) = Unit {0}

-- every Killed of a journal is a spent budget
abbrev pub KilledAreSpent : GrantsList → List Entry → Type 0
KilledAreSpent grants journal = EachFrom (KilledAt grants) 0 journal

abbrev pub LegalKilledAreSpent : Type 0
LegalKilledAreSpent = (grants : GrantsList) (journal : List Entry) → Legal grants journal → KilledAreSpent grants journal

-- under audit a sound journal is legal, whoever carried its calls to their end
abbrev pub AuditedIsLegal : Type 0
AuditedIsLegal =
    (grants : GrantsList) (limit : ℕ) (journal : List Entry) → IsSound grants limit true journal → Legal grants journal
