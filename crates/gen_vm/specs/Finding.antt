-- Where in a list the first item stands that passes a test.
use Rattle.std.specs.Prelude.{ℕ, ◌+◌, Bool, List, [], ◌∷◌, Option, Some, None, if◌then◌else◌}

-- the items are counted from a number on
abbrev pub first_from : {A : Type 0} → (A → Bool) → ℕ → List A → Option ℕ
first_from test at [] = None
first_from test at (first ∷ rest) = if test first then Some at else first_from test (at + 1) rest
