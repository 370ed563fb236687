-- The first element of a list that passes a test: what it is, and the list without it or with another.
use Rattle.std.specs.Prelude.{Bool, List, [], ◌∷◌, Option, Some, None, if◌then◌else◌}

abbrev pub first_of : {A : Type 0} → (A → Bool) → List A → Option A
first_of passes [] = None
first_of passes (x ∷ xs) = if passes x then Some x else first_of passes xs

abbrev pub without_first : {A : Type 0} → (A → Bool) → List A → List A
without_first passes [] = []
without_first passes (x ∷ xs) = if passes x then xs else x ∷ without_first passes xs

-- the list with another one in its place
abbrev pub with_first : {A : Type 0} → (A → Bool) → A → List A → List A
with_first passes other [] = []
with_first passes other (x ∷ xs) = if passes x then other ∷ xs else x ∷ with_first passes other xs
