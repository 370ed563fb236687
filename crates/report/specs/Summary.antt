-- The summary of a drill.
use Rattle.std.specs.Prelude.{ℕ, List, [], ◌∷◌, codes}
use Rattle.std.specs.Fmt.{decimal}
use Rattle.std.specs.List.{concat}
use Rattle.report.specs.declared.counts.Counts.{Counts}
use Rattle.report.specs.Lines.{line_of}

-- a word and its count
abbrev pub count_line : List ℕ → ℕ → List ℕ
count_line word count = line_of word (decimal count ∷ [])

-- the five lines
abbrev pub summary_text : Counts → List ℕ
summary_text counts = concat (
    count_line (codes "calls") counts.calls
    ∷ count_line (codes "committed") counts.committed
    ∷ count_line (codes "conflict") counts.conflict
    ∷ count_line (codes "pushed") counts.pushed
    ∷ count_line (codes "journal") counts.journal ∷ [])
