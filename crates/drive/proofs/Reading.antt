-- A wanted record may be read, and is what the journal held.
use Rattle.std.specs.Prelude.{IsTrue, if◌then◌else◌}
use Rattle.std.proofs.Common.{◌≡◌, ◌⊎◌, ℕ, Bool, true, false, List, length, take, inl, inr, ap, sym, ◌∙◌, subst, arith}
use Rattle.std.proofs.lemmas.List.{take_all}
use Rattle.sp_base.specs.declared.numbers.TableId.{TableId}
use Rattle.sp_base.specs.declared.numbers.TenantId.{TenantId}
use Rattle.sp_base.specs.declared.reads.ReadItem.{ReadItem}
use Rattle.sp_base.specs.RightsList.{can_read}
use Rattle.ext_mean.specs.declared.run.Run.TheVariants.{Wants}
use Rattle.ext_mean.proofs.WantsProved.{are-due}
use Rattle.ext_mean.specs.Views.{part}
use Rattle.records.specs.GrantsList.{GrantsList}
use Rattle.records.specs.Records.{place_at}
use Rattle.journal.specs.declared.entry.Entry.{Entry}
use Rattle.journal.specs.Folds.{tables_of, version_of}
use Rattle.journal.specs.Granted.{granted}
use Rattle.journal.specs.Reads.{IsHeld}
use Rattle.book.specs.declared.answers.Read.{Read}
use Rattle.book.specs.declared.answers.Read.TheVariants as read
use Rattle.book.specs.Verdict.{item_at, read_answer}
use Rattle.task.specs.declared.phase.Phase.{Phase}
use Rattle.task.specs.declared.phase.Phase.TheVariants.{Waiting}
use Rattle.task.specs.Tasks.{IsTask, Stands}
use Rattle.task.specs.Turning.{Live, meaning_with}

-- a task that waits may read the table
pub waits-readable : (live : Live) (table : TableId) (key : List ℕ) → IsTask live → live.phase ≡ Waiting table key
    → IsTrue (can_read live.rights table.0)
waits-readable live table key is waits =
    let wants : meaning_with live live.spent ≡ Wants table key live.spent = subst (λ (p : Phase). Stands live p) waits is.stands in
    (are-due live.ext.program live.call.args live.spent (part live.reads live.rights) table key live.spent wants).readable

not-denied-by : (can : Bool) (item : ReadItem) → IsTrue can → read.Denied ≡ (if can then read.Found item else read.Denied) → ⊥
not-denied-by true item readable told = (cc)
not-denied-by false item readable told = (cc)

pub not-denied : (grants : GrantsList) (journal : List Entry) (tenant : TenantId) (table : TableId) (key : List ℕ) (answer : Read)
    → IsTrue (can_read (granted grants journal tenant) table.0)
    → (answer ≡ read.Memory) ⊎ (answer ≡ read_answer grants journal tenant table key) → answer ≡ read.Denied → ⊥
not-denied grants journal tenant table key answer readable (inl memory) denied =
    let clash : read.Denied ≡ read.Memory = sym denied ∙ memory in cc
not-denied grants journal tenant table key answer readable (inr told) denied =
    not-denied-by (can_read (granted grants journal tenant) table.0) (item_at journal table key) readable (sym denied ∙ told)

found-by : (can : Bool) (item found : ReadItem) → read.Found item ≡ (if can then read.Found found else read.Denied) → item ≡ found
found-by true item found told = (cc)
found-by false item found told = absurd (cc)

-- what a read finds is what the journal leaves there
pub found-item : (grants : GrantsList) (journal : List Entry) (tenant : TenantId) (table : TableId) (key : List ℕ) (item : ReadItem) (answer : Read)
    → (answer ≡ read.Memory) ⊎ (answer ≡ read_answer grants journal tenant table key) → answer ≡ read.Found item → item ≡ item_at journal table key
found-item grants journal tenant table key item answer (inl memory) found =
    absurd (let clash : read.Found item ≡ read.Memory = sym found ∙ memory in cc)
found-item grants journal tenant table key item answer (inr told) found =
    found-by (can_read (granted grants journal tenant) table.0) item (item_at journal table key) (sym found ∙ told)

pub held-now : (journal : List Entry) (table : TableId) (key : List ℕ) → IsHeld journal (item_at journal table key)
held-now journal table key =
    let whole : journal ≡ take (length journal) journal = sym (take_all (length journal) journal (omega arith)) in
    record {
      by_then = omega arith;
      version = ap (λ (before : List Entry). version_of before (place_at table key)) whole;
      value = ap (λ (before : List Entry). tables_of before (place_at table key)) whole;
    }
