-- Pairs of two lists, one of which has run out.
use Rattle.std.specs.List.{zip}
use Rattle.std.proofs.Common.{◌≡◌, List, [], ◌∷◌, length, drop, refl, ap, arith}

pub zip-none : {A B : Type 0} (xs : List A) → zip {X = B} xs [] ≡ []
zip-none [] = refl
zip-none (x ∷ xs) = refl

-- a list without its first item is shorter, unless it is empty
pub none-left : {A : Type 0} (xs : List A) → xs ≡ drop 1 xs → xs ≡ []
none-left [] same = refl
none-left (x ∷ xs) same = absurd (omega (arith, ap length same))
