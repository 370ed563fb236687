-- A list by its first elements and the rest.
use Rattle.std.proofs.Common.{◌≡◌, ℕ, ◌-◌, ◌≤◌, List, [], ◌∷◌, length, get_or, take, drop, sym, ap, arith}
use Rattle.std.proofs.lemmas.List.{take_all}

pub first-of : (s : List ℕ) → 1 ≤ length s → s ≡ get_or s 0 0 ∷ take (length s - 1) (drop 1 s)
first-of [] some = absurd (omega arith)
first-of (a ∷ s) some = ap (λ rest. a ∷ rest) (sym (take_all (length (a ∷ s) - 1) s (omega arith)))

pub three-of : (s : List ℕ) → 3 ≤ length s
    → s ≡ get_or s 0 0 ∷ get_or s 1 0 ∷ get_or s 2 0 ∷ take (length s - 3) (drop 3 s)
three-of [] some = absurd (omega arith)
three-of (a ∷ []) some = absurd (omega arith)
three-of (a ∷ b ∷ []) some = absurd (omega arith)
three-of (a ∷ b ∷ d ∷ s) some = ap (λ rest. a ∷ b ∷ d ∷ rest) (sym (take_all (length (a ∷ b ∷ d ∷ s) - 3) s (omega arith)))
