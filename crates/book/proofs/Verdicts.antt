-- The laws of verdicts and of killed runs.
use Rattle.std.specs.Prelude.{◌≢◌, ◌==◌, if◌then◌else◌}
use Rattle.std.proofs.Common.{◌≡◌, ◌<◌, ℕ, zero, suc, Bool, true, false, List, [], ◌∷◌, length, Option, Some, None, slice_get, refl, sym, ◌∙◌, subst, arith}
use Rattle.std.proofs.lemmas.Bool.Decides.{nat_tests}
use Rattle.sp_base.specs.declared.numbers.TableId.{TableId}
use Rattle.sp_base.specs.declared.outcomes.Outcome.{Outcome}
use Rattle.sp_base.specs.declared.outcomes.Outcome.TheVariants.{Killed}
use Rattle.sp_base.specs.declared.reads.ReadItem.{ReadItem}
use Rattle.ext_mean.specs.declared.run.Run.{Run}
use Rattle.ext_mean.specs.declared.run.Run.TheVariants as run
use Rattle.ext_mean.specs.Outcomes.{outcome_of}
use Rattle.ext_mean.specs.Views.{place_of}
use Rattle.book.specs.declared.answers.Commit.{Commit}
use Rattle.book.specs.declared.answers.Commit.TheVariants.{Committed, Conflict, Full, Stale}
use Rattle.journal.specs.declared.entry.Entry.{Entry}
use Rattle.journal.specs.declared.entry.Entry.TheVariants.{Invoke, Put, Install}
use Rattle.records.specs.GrantsList.{GrantsList}
use Rattle.journal.specs.Folds.{version_of}
use Rattle.journal.specs.Legal.{LegalAt}
use Rattle.journal.specs.Reads.{IsCurrent}
use Rattle.book.specs.Laws.{ConflictsNameMovedReads, IsFirstMoved, KilledAt, LegalKilledAreSpent, NamesMovedRead}
use Rattle.book.specs.Verdict.{is_full, moved, verdict_on}
use Rattle.book.proofs.Unmoved.{same_number}

other_number : {a b : ℕ} → (a == b) ≡ false → a ≢ b
other_number {a} {b} other = grind (arith, nat_tests)

-- a current read in front of reads that are current up to a place
current-more : (journal : List Entry) (read : ReadItem) (reads : List ReadItem) (at : ℕ) → IsCurrent journal read
    → ((k : ℕ) (earlier : ReadItem) → k < at → slice_get reads k ≡ Some earlier → IsCurrent journal earlier)
    → (k : ℕ) (earlier : ReadItem) → k < suc at → slice_get (read ∷ reads) k ≡ Some earlier → IsCurrent journal earlier
current-more journal read reads at current rest zero earlier below found =
    let same : read ≡ earlier = (cc) in
    subst (λ (r : ReadItem). IsCurrent journal r) same current
current-more journal read reads at current rest (suc k) earlier below found = rest k earlier (omega (arith, below)) found

-- the first read is current and a later one is the first that moved, or it is that one itself
moved-more : (journal : List Entry) (read : ReadItem) (reads : List ReadItem) (item : ReadItem)
    → (moved journal reads ≡ Some item → (at : ℕ) × IsFirstMoved journal reads at item)
    → (same : Bool) → (read.version == version_of journal (place_of read)) ≡ same
    → (if same then moved journal reads else Some read) ≡ Some item
    → (at : ℕ) × IsFirstMoved journal (read ∷ reads) at item
moved-more journal read reads item rest true is found =
    let later = rest found in (
      suc later.0,
      record {
        among = later.1.among;
        moved = later.1.moved;
        first = current-more journal read reads later.0 (same_number is) later.1.first;
      },
    )
moved-more journal read reads item rest false is found =
    let same : read ≡ item = (cc) in (
      zero,
      record {
        among = found;
        moved = subst (λ (r : ReadItem). r.version ≢ version_of journal (place_of r)) same (other_number is);
        first = λ k earlier below at. absurd (omega (arith, below));
      },
    )

first-moved : (journal : List Entry) (reads : List ReadItem) (item : ReadItem) → moved journal reads ≡ Some item
    → (at : ℕ) × IsFirstMoved journal reads at item
first-moved journal [] item found = (cc)
first-moved journal (read ∷ reads) item found =
    moved-more journal read reads item (first-moved journal reads item)
    (read.version == version_of journal (place_of read)) refl found

-- a verdict that is a Conflict was given for a moved read
no-conflict : {A : Type 0} (full : Bool) (n : ℕ) (outcome : Outcome) (table : TableId) (key : List ℕ) (read read_at now now_at : ℕ)
    → (if full then Full n else Committed n outcome) ≡ Conflict table key read read_at now now_at → A
no-conflict true n outcome table key read read_at now now_at said = (cc)
no-conflict false n outcome table key read read_at now now_at said = (cc)

on-named : (limit : ℕ) (journal : List Entry) (entry : Entry) (outcome : Outcome) (reads : List ReadItem) (found : Option ReadItem)
    (table : TableId) (key : List ℕ) (read read_at now now_at : ℕ) → moved journal reads ≡ found
    → verdict_on limit journal entry outcome found ≡ Conflict table key read read_at now now_at
    → NamesMovedRead journal reads table key read now
on-named limit journal entry outcome reads None table key read read_at now now_at is said =
    no-conflict (is_full limit journal entry) (length journal) outcome table key read read_at now now_at said
on-named limit journal entry outcome reads (Some item) table key read read_at now now_at is said =
    let named = first-moved journal reads item is in
    let version : read ≡ item.version = (cc) in
    let stands : now ≡ version_of journal (place_of item) = (cc) in
    record {
      at = named.0;
      item = item;
      is = named.1;
      table_is = (cc);
      key_is = (cc);
      read_is = version;
      now_is = stands;
      differ = λ same. named.1.moved (sym version ∙ same ∙ stands);
    }

not-stale : (stale : Bool) (last n : ℕ) (fresh : Commit) (table : TableId) (key : List ℕ) (read read_at now now_at : ℕ)
    → (if stale then Stale last n else fresh) ≡ Conflict table key read read_at now now_at
    → fresh ≡ Conflict table key read read_at now now_at
not-stale true last n fresh table key read read_at now now_at said = (cc)
not-stale false last n fresh table key read read_at now now_at said = said

pub conflicts-name-moved-reads : ConflictsNameMovedReads
conflicts-name-moved-reads limit journal call entry outcome reads table key read read_at now now_at said =
    on-named limit journal entry outcome reads (moved journal reads) table key read read_at now now_at refl
    (not-stale _ _ _ _ table key read read_at now now_at said)

-- a run whose outcome is Killed is spent
killed-spent : (ran : Run) (outcome : Outcome) → outcome_of ran ≡ Some outcome → outcome ≡ Killed → ran ≡ run.Spent
killed-spent (run.Done reply writes used) outcome answers killed = (cc)
killed-spent (run.Trapped trap used) outcome answers killed = (cc)
killed-spent run.Spent outcome answers killed = refl
killed-spent (run.Wants table key used) outcome answers killed = (cc)

killed-at : (grants : GrantsList) (before : List Entry) (entry : Entry) → LegalAt grants before entry → KilledAt grants before entry
killed-at grants before (Invoke call outcome writes reads home) legal =
    λ killed. record {
      program = legal.program;
      names = legal.names;
      spent = killed-spent _ outcome legal.meant.answers killed;
    }
killed-at grants before (Put tenant table key value) legal = tt
killed-at grants before (Install tenant text) legal = tt

pub legal-killed-are-spent : LegalKilledAreSpent
legal-killed-are-spent grants journal legal i entry from found = killed-at grants _ entry (legal i entry from found)
