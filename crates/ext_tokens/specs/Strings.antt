-- The items of a byte string, one by one.
use Rattle.std.specs.Prelude.{◌≡◌, ◌<◌, ℕ, ◌+◌, ◌*◌, ◌⊎◌, IsTrue, List, [], ◌∷◌, ◌++◌}
use Rattle.ext_mean.specs.Tokens.{is_plain, escaped}

-- the bytes spell the item: it stands for itself, or is written by its two hexadecimal digits
abbrev pub IsItem : List ℕ → ℕ → Type 0
IsItem bytes item =
    (IsTrue (is_plain item) × (bytes ≡ item ∷ []))
    ⊎ ((high : ℕ) × (low : ℕ) × (high < 16) × (low < 16) × (item ≡ 16 * high + low)
    × (bytes ≡ escaped high low))

-- the text begins with an item, and then the rest comes
abbrev pub BeginsByItem : List ℕ → ℕ → List ℕ → Type 0
BeginsByItem text item rest = (bytes : List ℕ) × IsItem bytes item × (text ≡ bytes ++ rest)

-- the quote that ends a byte string is at the front
abbrev pub IsClosed : List ℕ → Type 0
IsClosed text = (rest : List ℕ) × (text ≡ 0x22 ∷ rest)
