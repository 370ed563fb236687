-- Lists with no items.
use Rattle.std.proofs.Common.{◌≡◌, ℕ, List, [], ◌∷◌, length, refl, arith}

pub no-items : (items : List ℕ) → length items ≡ 0 → items ≡ []
no-items [] e = refl
no-items (item ∷ items) e = absurd (omega (arith, e))
