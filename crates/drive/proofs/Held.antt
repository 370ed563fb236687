-- Reads that the journal held, in a longer one.
use Rattle.std.specs.List.{AllByRecursion}
use Rattle.std.proofs.Common.{◌≡◌, List, [], ◌∷◌, ◌++◌, take, sym, ap, ◌∙◌, arith, length-append}
use Rattle.std.proofs.lemmas.List.{take-append-le}
use Rattle.sp_base.specs.declared.reads.ReadItem.{ReadItem}
use Rattle.ext_mean.specs.Views.{place_of}
use Rattle.journal.specs.declared.entry.Entry.{Entry}
use Rattle.journal.specs.Folds.{tables_of, version_of}
use Rattle.journal.specs.Reads.{IsHeld}

held-longer : (journal later : List Entry) (read : ReadItem) → IsHeld journal read → IsHeld (journal ++ later) read
held-longer journal later read held =
    let same : take read.read_at (journal ++ later) ≡ take read.read_at journal = take-append-le read.read_at journal later held.by_then in
    record {
      by_then = omega (arith, held.by_then, length-append journal later);
      version = held.version ∙ ap (λ (before : List Entry). version_of before (place_of read)) (sym same);
      value = held.value ∙ ap (λ (before : List Entry). tables_of before (place_of read)) (sym same);
    }

pub all-held-longer : (journal later : List Entry) (reads : List ReadItem) → AllByRecursion (IsHeld journal) reads
    → AllByRecursion (IsHeld (journal ++ later)) reads
all-held-longer journal later [] held = tt
all-held-longer journal later (read ∷ reads) held = (held-longer journal later read held.0, all-held-longer journal later reads held.1)
