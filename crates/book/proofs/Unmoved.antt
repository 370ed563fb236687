-- Where no read has moved, all are current.
use Rattle.std.specs.Prelude.{◌==◌, if◌then◌else◌}
use Rattle.std.specs.List.{AllByRecursion}
use Rattle.std.proofs.Common.{◌≡◌, ℕ, Bool, true, false, List, [], ◌∷◌, Option, Some, None, refl, arith}
use Rattle.std.proofs.lemmas.Bool.Decides.{nat_tests}
use Rattle.sp_base.specs.declared.reads.ReadItem.{ReadItem}
use Rattle.ext_mean.specs.Views.{place_of}
use Rattle.journal.specs.declared.entry.Entry.{Entry}
use Rattle.journal.specs.Folds.{version_of}
use Rattle.journal.specs.Reads.{IsCurrent}
use Rattle.book.specs.Verdict.{moved}

-- a search that found nothing passed its first item
passed : {A : Type 0} (b : Bool) (rest : Option A) (x : A) → (if b then rest else Some x) ≡ None → (b ≡ true) × (rest ≡ None)
passed true rest x nothing = (refl, nothing)
passed false rest x nothing = (cc)

pub same_number : {a b : ℕ} → (a == b) ≡ true → a ≡ b
same_number {a} {b} same = grind (arith, nat_tests)

-- where no read has moved, all are current
pub unmoved-current : (journal : List Entry) (reads : List ReadItem) → moved journal reads ≡ None
    → AllByRecursion (IsCurrent journal) reads
unmoved-current journal [] still = tt
unmoved-current journal (read ∷ reads) still =
    let h = passed (read.version == version_of journal (place_of read)) (moved journal reads) read still in
    (same_number h.0, unmoved-current journal reads h.1)
