-- Words on lists: a history that begins another, and numbers that are counted.
use Rattle.std.specs.Prelude.{◌≡◌, ℕ, ◌+◌, ◌==◌, ◌<◌, ◌≤◌, List, [], ◌∷◌, ◌++◌, length, cond, ltb}

-- the first list begins the second
abbrev pub Begins : {E : Type 0} → List E → List E → Type 0
Begins {E} front whole = (rest : List E) × (whole ≡ front ++ rest)

-- the longer of two lists, and the first of two that are as long
abbrev pub longer : {E : Type 0} → List E → List E → List E
longer first second = cond (ltb (length first) (length second)) second first

-- how often a number stands in a list
abbrev pub times : ℕ → List ℕ → ℕ
times n [] = 0
times n (x ∷ xs) = cond (x == n) 1 0 + times n xs

-- what each item of a list comes to, added up
abbrev pub total : {A : Type 0} → (A → ℕ) → List A → ℕ
total f [] = 0
total f (x ∷ xs) = f x + total f xs

-- each number stands once, and none is below the founding length
abbrev pub AreOwn : ℕ → List ℕ → Type 0
AreOwn founding numbers = (n : ℕ) → (times n numbers ≤ 1) × (n < founding → times n numbers ≡ 0)
