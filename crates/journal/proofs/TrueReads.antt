-- Reads that tell what now stands: what a run means on them it means on all of the tables.
use Rattle.std.specs.Prelude.{◌≢◌, map, if◌then◌else◌}
use Rattle.std.specs.List.{AllByRecursion}
use Rattle.std.proofs.Common.{◌≡◌, ◌≤◌, ℕ, Bool, true, false, List, [], ◌∷◌, length, take, take-append-drop, drop, Option, Some, None, refl, sym, ◌∙◌, ap, subst, arith}
use Rattle.sp_base.specs.declared.outcomes.Outcome.{Outcome}
use Rattle.sp_base.specs.declared.reads.ReadItem.{ReadItem}
use Rattle.sp_base.specs.declared.writes.Write.{Write}
use Rattle.sp_base.specs.Places.{Place, same_place}
use Rattle.ext_mean.specs.declared.tree.Program.{Program}
use Rattle.ext_mean.specs.declared.run.Run.{Run}
use Rattle.ext_mean.specs.Views.{Extends, part, whole, place_of, value_read}
use Rattle.ext_mean.specs.Outcomes.{EndsWith, outcome_of}
use Rattle.ext_mean.specs.Meaning.{mean}
use Rattle.ext_mean.proofs.LawsProved.{known-records}
use Rattle.records.specs.GrantsList.{RightsList}
use Rattle.records.proofs.Places.{same_place-true}
use Rattle.journal.specs.declared.entry.Entry.{Entry}
use Rattle.journal.specs.Folds.{tables_of, value_at, record_of}
use Rattle.journal.specs.Reads.{IsCurrent, IsHeld, valued}
use Rattle.journal.proofs.Versions.{IsValued, valued-record, value_at-prefix}

-- a read has the value that now stands at its place
abbrev pub TellsTables : List Entry → ReadItem → Type 0
TellsTables journal read = tables_of journal (place_of read) ≡ read.value

-- a read that is held, and whose version still stands, has the value that its version has
held-value_at : (journal : List Entry) (read : ReadItem) → IsHeld journal read
    → value_at journal (place_of read) read.version ≡ read.value
held-value_at journal read held =
    let front : List Entry = take read.read_at journal in
    let place : Place = place_of read in
    let kept : IsValued front place (record_of front place) = valued-record front place in
    let within : read.version ≤ length front = rw held.version kept.by_now in
    ap (λ (all : List Entry). value_at all place read.version) (sym (take-append-drop read.read_at journal))
    ∙ value_at-prefix front (drop read.read_at journal) place read.version within
    ∙ ap (λ (n : ℕ). value_at front place n) held.version
    ∙ kept.value ∙ sym held.value

pub held-current : (journal : List Entry) (read : ReadItem) → IsHeld journal read → IsCurrent journal read
    → tables_of journal (place_of read) ≡ read.value
held-current journal read held current =
    sym (valued-record journal (place_of read)).value
    ∙ ap (λ (n : ℕ). value_at journal (place_of read) n) (sym current)
    ∙ held-value_at journal read held

pub tell-held : (journal : List Entry) (reads : List ReadItem)
    → AllByRecursion (IsHeld journal) reads → AllByRecursion (IsCurrent journal) reads
    → AllByRecursion (TellsTables journal) reads
tell-held journal [] held current = tt
tell-held journal (read ∷ reads) held current =
    (held-current journal read held.0 current.0, tell-held journal reads held.1 current.1)

-- the value of the version that now stands is the one that now stands
pub tell-valued : (journal : List Entry) (reads : List ReadItem) → AllByRecursion (IsCurrent journal) reads
    → AllByRecursion (TellsTables journal) (map (valued journal) reads)
tell-valued journal [] current = tt
tell-valued journal (read ∷ reads) current = (
  sym (valued-record journal (place_of read)).value ∙ ap (λ (n : ℕ). value_at journal (place_of read) n) (sym current.0),
  tell-valued journal reads current.1,
)

-- what the first read or the others know is what now stands, where that holds of the others
known-first : (journal : List Entry) (read : ReadItem) (others : Option (Option (List ℕ))) (place : Place)
    → TellsTables journal read
    → (others ≢ None → Some (tables_of journal place) ≡ others)
    → (same : Bool) → same_place (place_of read) place ≡ same
    → (if same then Some read.value else others) ≢ None
    → Some (tables_of journal place) ≡ (if same then Some read.value else others)
known-first journal read others place told rest true same known =
    ap (λ (p : Place). Some (tables_of journal p)) (sym (same_place-true (place_of read) place same))
    ∙ ap (λ (v : Option (List ℕ)). Some v) told
known-first journal read others place told rest false same known = rest known

-- what the reads know is what now stands
known-stands : (journal : List Entry) (reads : List ReadItem) (place : Place)
    → AllByRecursion (TellsTables journal) reads
    → value_read reads place ≢ None → Some (tables_of journal place) ≡ value_read reads place
known-stands journal [] place told known = absurd (known refl)
known-stands journal (read ∷ reads) place told known =
    known-first journal read (value_read reads place) place told.0
    (known-stands journal reads place told.1) (same_place (place_of read) place) refl known

-- the tables that now stand know all that the reads know
pub reads-extend : (journal : List Entry) (reads : List ReadItem) (rights : RightsList)
    → AllByRecursion (TellsTables journal) reads
    → Extends (part reads rights) (whole (tables_of journal) rights)
reads-extend journal reads rights told = record {
  rights = refl;
  known = λ place readable known. known-stands journal reads place told known;
}

-- a run that ended on such reads ends alike on the tables that now stand
pub meant-whole : (program : Program) (args : List ℕ) (budget : ℕ) (journal : List Entry)
    (reads : List ReadItem) (rights : RightsList) (outcome : Outcome) (writes : List Write)
    → AllByRecursion (TellsTables journal) reads
    → EndsWith (mean program args budget (part reads rights)) outcome writes
    → EndsWith (mean program args budget (whole (tables_of journal) rights)) outcome writes
meant-whole program args budget journal reads rights outcome writes told ends =
    let ended : outcome_of (mean program args budget (part reads rights)) ≢ None = λ none. (cc) in
    let same = known-records program args budget (part reads rights) (whole (tables_of journal) rights)
    (reads-extend journal reads rights told) ended in
    subst (λ (run : Run). EndsWith run outcome writes) (sym same) ends
