-- Tenants are kept apart, and a legal journal is as if each call had run alone.
use Rattle.std.specs.Prelude.{◌≢◌, IsTrue, if◌then◌else◌}
use Rattle.std.specs.List.{AllByRecursion}
use Rattle.std.proofs.Common.{◌≡◌, ◌≤◌, ℕ, zero, suc, ◌+◌, Bool, true, false, List, [], ◌∷◌, ◌++◌, length, take, Option, Some, None, slice_get, refl, sym, ◌∙◌, ap, subst, arith, append_assoc, append-nil}
use Rattle.std.proofs.Math.Seq.{take-append_seam}
use Rattle.sp_base.specs.declared.numbers.TableId.{TableId}
use Rattle.sp_base.specs.declared.reads.ReadItem.{ReadItem}
use Rattle.sp_base.specs.declared.writes.Change.{Change}
use Rattle.sp_base.specs.declared.writes.Change.TheVariants as change
use Rattle.sp_base.specs.declared.writes.Write.{Write}
use Rattle.sp_base.specs.Places.{Place, Tables, same_place}
use Rattle.sp_base.specs.RightsList.{can_read}
use Rattle.ext_mean.specs.declared.tree.Program.{Program}
use Rattle.ext_mean.specs.declared.run.Run.{Run}
use Rattle.ext_mean.specs.declared.run.Run.TheVariants.{Done, Trapped, Spent, Wants}
use Rattle.ext_mean.specs.Meaning.{mean}
use Rattle.ext_mean.specs.Outcomes.{outcome_of}
use Rattle.ext_mean.specs.Views.{Extends, part, place_of, whole}
use Rattle.ext_mean.proofs.ConfinementProved.{only-readable, only-writable}
use Rattle.ext_mean.proofs.LawsProved.{known-records}
use Rattle.ext_mean.proofs.WantsProved.{are-due}
use Rattle.records.specs.GrantsList.{GrantsList, RightsList}
use Rattle.records.specs.Records.{Record, place_at}
use Rattle.journal.specs.declared.entry.Entry.{Entry}
use Rattle.journal.specs.declared.entry.Entry.TheVariants.{Invoke, Put, Install}
use Rattle.journal.specs.Alone.{AgreeFor, AreReadsOn, AsIfAlone, KeptApart, RunInTurn, TurnsAlone, after_turn, left_by, none_later, one_more, written}
use Rattle.journal.specs.Folds.{after_changes, after_entry, changed_by, record_of, tables_of}
use Rattle.journal.specs.Legal.{Legal, LegalAt}
use Rattle.journal.proofs.Behind.{record_of-behind}
use Rattle.journal.proofs.Versions.{slice_get-append_seam}

-- ---- Kept apart

-- a run that wants a record has a view that does not know it
ended-run : (program : Program) (args : List ℕ) (budget : ℕ) (rights : RightsList) (tables : Tables) (run : Run)
    → mean program args budget (whole tables rights) ≡ run → outcome_of run ≢ None
ended-run program args budget rights tables (Done reply writes used) is none = (cc)
ended-run program args budget rights tables (Trapped trap used) is none = (cc)
ended-run program args budget rights tables Spent is none = (cc)
ended-run program args budget rights tables (Wants table key used) is none =
    let due = are-due program args budget (whole tables rights) table key used is in
    let unknown = due.unknown in
    (cc)

ends-whole : (program : Program) (args : List ℕ) (budget : ℕ) (rights : RightsList) (tables : Tables)
    → outcome_of (mean program args budget (whole tables rights)) ≢ None
ends-whole program args budget rights tables = ended-run program args budget rights tables _ refl

agree-extends : (rights : RightsList) (tables other : Tables) → AgreeFor rights tables other
    → Extends (whole tables rights) (whole other rights)
agree-extends rights tables other agree = record {
  rights = refl;
  known = λ place readable known. ap (λ (value : Option (List ℕ)). Some value) (agree.alike place readable);
}

-- what is told of one state is told of the other, where the reads are of tables that may be read
told-other : (rights : RightsList) (tables other : Tables) (reads : List ReadItem) → AgreeFor rights tables other
    → ((k : ℕ) (read : ReadItem) → slice_get reads k ≡ Some read → IsTrue (can_read rights read.table.0))
    → AllByRecursion (λ read. read.value ≡ tables (place_of read)) reads
    → AllByRecursion (λ read. read.value ≡ other (place_of read)) reads
told-other rights tables other [] agree readable told = tt
told-other rights tables other (read ∷ reads) agree readable told = (
  told.0 ∙ sym (agree.alike (place_of read) (readable 0 read refl)),
  told-other rights tables other reads agree (λ k later found. readable (suc k) later found) told.1,
)

pub kept-apart : KeptApart
kept-apart = record {
  ends = ends-whole;
  same = λ program args budget rights tables other agree.
      known-records program args budget (whole tables rights) (whole other rights)
      (agree-extends rights tables other agree) (ends-whole program args budget rights tables);
  reads = λ program args budget rights tables other reads agree on. record {
    asked = on.asked;
    complete = on.complete;
    told = told-other rights tables other reads agree
        (λ k read found. (only-readable program args budget (part (take k reads) rights) (place_of read) (on.asked.each k read found)).0)
        on.told;
  };
  writes = λ program args budget rights tables. only-writable program args budget (whole tables rights);
}

-- ---- As if alone

change-at : (n : ℕ) (made : Change) → left_by made ≡ (changed_by n made).value
change-at n (change.Put value) = refl
change-at n change.Del = refl

either-value : (same : Bool) (made kept : Option (List ℕ)) (new old : Record) → made ≡ new.value → kept ≡ old.value
    → (if same then made else kept) ≡ (if same then new else old).value
either-value true made kept new old m k = m
either-value false made kept new old m k = k

written-at : (writes : List Write) (n : ℕ) (tables : Tables) (place : Place) (before : Record) → tables place ≡ before.value
    → written writes tables place ≡ (after_changes n writes place before).value
written-at [] n tables place before same = same
written-at (write ∷ writes) n tables place before same =
    written-at writes n _ place _
    (either-value (same_place (place_at write.table write.key) place) (left_by write.change) (tables place)
    (changed_by n write.change) before (change-at n write.change) same)

turn-at : (n : ℕ) (entry : Entry) (tables : Tables) (place : Place) (before : Record) → tables place ≡ before.value
    → after_turn entry tables place ≡ (after_entry n entry place before).value
turn-at n (Invoke call outcome writes reads home) tables place before same = written-at writes n tables place before same
turn-at n (Put tenant table key value) tables place before same =
    written-at (record { table = table; key = key; change = change.Put value } ∷ []) n tables place before same
turn-at n (Install tenant text) tables place before same = same

turn-tables : (before : List Entry) (entry : Entry) → after_turn entry (tables_of before) ≡ tables_of (before ++ entry ∷ [])
turn-tables before entry =
    λ i place.
    (turn-at (length before) entry (tables_of before) place (record_of before place) refl
    ∙ ap (λ (found : Record). found.value) (sym (record_of-behind before entry place))) i

turns-alone : (grants : GrantsList) (before : List Entry) (entry : Entry) → LegalAt grants before entry
    → TurnsAlone grants before (tables_of before) entry
turns-alone grants before (Invoke call outcome writes reads home) legal =
    record { program = legal.program; names = legal.names; ends = legal.meant }
turns-alone grants before (Put tenant table key value) legal = tt
turns-alone grants before (Install tenant text) legal = tt

in-turn : (grants : GrantsList) (later before : List Entry) → Legal grants (before ++ later)
    → RunInTurn grants before (tables_of before) later (tables_of (before ++ later))
in-turn grants [] before legal =
    subst (λ (all : List Entry). RunInTurn grants before (tables_of before) [] (tables_of all)) (sym (append-nil before))
    (none_later before (tables_of before))
in-turn grants (entry ∷ later) before legal =
    let own : LegalAt grants before entry =
    subst (λ (front : List Entry). LegalAt grants front entry) (take-append_seam before (entry ∷ later))
    (legal (length before) entry (omega arith) (slice_get-append_seam before entry later)) in
    let same : (before ++ entry ∷ []) ++ later ≡ before ++ entry ∷ later = append_assoc before (entry ∷ []) later in
    let rest : RunInTurn grants (before ++ entry ∷ []) (tables_of (before ++ entry ∷ [])) later (tables_of (before ++ entry ∷ later)) =
    subst (λ (all : List Entry). RunInTurn grants (before ++ entry ∷ []) (tables_of (before ++ entry ∷ [])) later (tables_of all)) same
    (in-turn grants later (before ++ entry ∷ []) (subst (λ (all : List Entry). Legal grants all) (sym same) legal)) in
    one_more before (tables_of before) entry later (tables_of (before ++ entry ∷ later)) (turns-alone grants before entry own)
    (subst (λ (tables : Tables). RunInTurn grants (before ++ entry ∷ []) tables later (tables_of (before ++ entry ∷ later)))
    (sym (turn-tables before entry)) rest)

pub as-if-alone : AsIfAlone
as-if-alone grants journal legal = in-turn grants journal [] legal
