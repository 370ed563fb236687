-- What the canonical text of a program keeps of any text that spells the program.
use Rattle.std.specs.Prelude.{◌≤◌, ℕ, List, length}
use Rattle.ext_mean.specs.declared.tree.Program.{Program}
use Rattle.ext_mean.specs.Canonical.{canonical}
use Rattle.ext_mean.specs.Text.{Spells}

-- it spells the same program
abbrev pub CanonicalIsSpelled : Type 0
CanonicalIsSpelled =
    (text : List ℕ) (program : Program) → Spells text program → Spells (canonical program) program

-- and is not longer
abbrev pub CanonicalIsShort : Type 0
CanonicalIsShort =
    (text : List ℕ) (program : Program) → Spells text program →
    length (canonical program) ≤ length text
