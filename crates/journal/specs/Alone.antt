-- What those who rely on the store may take from it: tenants are kept apart, and the journal is as if
-- each call had run alone, one after another.
use Rattle.std.specs.Prelude.{◌≡◌, ◌≢◌, ℕ, IsTrue, List, [], ◌∷◌, ◌++◌, Option, Some, None, if◌then◌else◌}
use Rattle.std.specs.List.{AllByRecursion}
use Rattle.sp_base.specs.declared.calls.Call.{Call}
use Rattle.sp_base.specs.declared.outcomes.Outcome.{Outcome}
use Rattle.sp_base.specs.declared.reads.ReadItem.{ReadItem}
use Rattle.sp_base.specs.declared.writes.Change.{Change}
use Rattle.sp_base.specs.declared.writes.Change.TheVariants as change
use Rattle.sp_base.specs.declared.writes.Write.{Write}
use Rattle.sp_base.specs.Places.{Place, Tables, same_place}
use Rattle.sp_base.specs.RightsList.{can_read, can_write}
use Rattle.ext_mean.specs.declared.tree.Program.{Program}
use Rattle.ext_mean.specs.Asked.{AreAsked, IsComplete}
use Rattle.ext_mean.specs.Meaning.{mean}
use Rattle.ext_mean.specs.Outcomes.{EndsWith, changes_of, outcome_of}
use Rattle.ext_mean.specs.Views.{place_of, whole}
use Rattle.records.specs.GrantsList.{GrantsList, RightsList}
use Rattle.records.specs.Records.{place_at}
use Rattle.journal.specs.declared.entry.Entry.{Entry}
use Rattle.journal.specs.declared.entry.Entry.TheVariants.{Invoke, Put, Install}
use Rattle.journal.specs.Folds.{tables_of}
use Rattle.journal.specs.Granted.{granted}
use Rattle.journal.specs.Legal.{Legal, Names}

-- two states of the tables have the same at every place that these rights let be read
pub record AgreeFor (rights : RightsList) (tables other : Tables) : Type 0 where
  pub alike : (place : Place) → IsTrue (can_read rights place.table) → other place ≡ tables place

-- the reads of a call on these tables: all that its program asks for, in order, with what stands there
pub record AreReadsOn (program : Program) (args : List ℕ) (budget : ℕ) (rights : RightsList) (tables : Tables) (reads : List ReadItem) : Type 0 where
  pub asked : AreAsked program args budget rights reads
  pub complete : IsComplete program args budget rights reads
  pub told : AllByRecursion (λ read. read.value ≡ tables (place_of read)) reads

-- Tenants are kept apart. On two states of the tables that agree on what a tenant may read, each of its
-- calls ends with the same reply and the same writes, and makes the same reads; and its writes lie in
-- tables that it may write.
pub record KeptApart : Type 0 where
  pub ends : (program : Program) (args : List ℕ) (budget : ℕ) (rights : RightsList) (tables : Tables)
      → outcome_of (mean program args budget (whole tables rights)) ≢ None
  pub same : (program : Program) (args : List ℕ) (budget : ℕ) (rights : RightsList) (tables other : Tables)
      → AgreeFor rights tables other
      → mean program args budget (whole other rights) ≡ mean program args budget (whole tables rights)
  pub reads : (program : Program) (args : List ℕ) (budget : ℕ) (rights : RightsList) (tables other : Tables)
      (reads : List ReadItem) → AgreeFor rights tables other
      → AreReadsOn program args budget rights tables reads → AreReadsOn program args budget rights other reads
  pub writes : (program : Program) (args : List ℕ) (budget : ℕ) (rights : RightsList) (tables : Tables)
      → AllByRecursion (λ write. IsTrue (can_write rights write.table.0))
      (changes_of (mean program args budget (whole tables rights)))

-- what a change leaves at its place
abbrev pub left_by : Change → Option (List ℕ)
left_by (change.Put value) = Some value
left_by change.Del = None

-- the tables after these writes, in their order
abbrev pub written : List Write → Tables → Tables
written [] tables = tables
written (write ∷ writes) tables =
    written writes
    (λ place. if same_place (place_at write.table write.key) place then left_by write.change else tables place)

-- the tables after an entry
abbrev pub after_turn : Entry → Tables → Tables
after_turn (Invoke call outcome writes reads home) tables = written writes tables
after_turn (Put tenant table key value) tables =
    written (record { table = table; key = key; change = change.Put value } ∷ []) tables
after_turn (Install tenant text) tables = tables

-- a call's source, alone on these tables, gives the reply and the writes that its entry has
pub record RepliesAlone (grants : GrantsList) (before : List Entry) (tables : Tables) (call : Call) (outcome : Outcome) (writes : List Write) : Type 0 where
  pub program : Program
  pub names : Names before call program
  pub ends : EndsWith
      (mean program call.args call.budget (whole tables (granted grants before call.caller.tenant))) outcome writes

abbrev pub TurnsAlone : GrantsList → List Entry → Tables → Entry → Type 0
TurnsAlone grants before tables (Invoke call outcome writes reads home) =
    RepliesAlone grants before tables call outcome writes
TurnsAlone grants before tables (Put tenant table key value) = Unit {0}
TurnsAlone grants before tables (Install tenant text) = Unit {0}

-- the later entries run one after another, each on the tables that the ones before it left
pub data RunInTurn (grants : GrantsList) : List Entry → Tables → List Entry → Tables → Type 0 where
  none_later : (before : List Entry) (tables : Tables) → RunInTurn grants before tables [] tables
  one_more : (before : List Entry) (tables : Tables) (entry : Entry) (later : List Entry) (last : Tables)
      → TurnsAlone grants before tables entry
      → RunInTurn grants (before ++ entry ∷ []) (after_turn entry tables) later last
      → RunInTurn grants before tables (entry ∷ later) last

-- A legal journal is as if each call had run alone, one after another, on empty tables at first: each
-- reply is the one that the journal has, and the tables at the end are the journal's.
abbrev pub AsIfAlone : Type 0
AsIfAlone =
    (grants : GrantsList) (journal : List Entry) → Legal grants journal
    → RunInTurn grants [] (λ place. None) journal (tables_of journal)
