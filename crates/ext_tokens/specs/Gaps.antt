-- What stands between two tokens, byte by byte.
use Rattle.std.specs.Prelude.{◌≡◌, ◌==◌, ◌&&◌, ◌||◌, ℕ, Bool, true, false, not, IsTrue, List, [], ◌∷◌, ◌++◌, if◌then◌else◌}
use Rattle.ext_mean.specs.Tokens.{IsGap, is_blank, is_text_byte, is_comment_byte, all_pass, newline}

-- whether a gap, or a comment in it, does not go on with the byte
abbrev pub stops_at : Bool → ℕ → Bool
stops_at in_comment byte =
    if in_comment then (not (is_text_byte byte)) else (not (is_blank byte) && not (byte == 0x23))

-- whether a comment is open behind the byte
abbrev pub comment_with : Bool → ℕ → Bool
comment_with in_comment byte = not (byte == newline) && (in_comment || byte == 0x23)

-- the bytes are a gap, or a gap with an open comment behind it
abbrev pub IsPassed : Bool → List ℕ → Type 0
IsPassed false front = IsGap front
IsPassed true front =
    (gap words : List ℕ)
    × IsGap gap × IsTrue (all_pass is_comment_byte words) × (front ≡ gap ++ 0x23 ∷ words)

-- it goes on with none of the bytes behind it
abbrev pub Stops : Bool → List ℕ → Type 0
Stops in_comment [] = Unit {0}
Stops in_comment (byte ∷ rest) = IsTrue (stops_at in_comment byte)
