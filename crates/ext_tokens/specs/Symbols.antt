-- The symbols: the marks and the operators, of one byte or of two.
use Rattle.std.specs.Prelude.{◌≡◌, ℕ, ◌==◌, ◌&&◌, List, [], ◌∷◌, Option, Some, None, if◌then◌else◌}
use Rattle.ext_mean.specs.declared.expr.BinOp.TheVariants as op
use Rattle.ext_mean.specs.declared.token.Mark.TheVariants as mark
use Rattle.ext_mean.specs.declared.token.Token.{Token}
use Rattle.ext_mean.specs.declared.token.Token.TheVariants as token
use Rattle.ext_mean.specs.Tokens.{IsSpelling}

-- the symbol of two bytes
abbrev pub double_symbol : ℕ → ℕ → Option Token
double_symbol first second =
    if first == 0x2d && second == 0x3e then (Some (token.Mark mark.Arrow)) else
    (if first == 0x3d && second == 0x3e then (Some (token.Mark mark.Arm)) else
    (if first == 0x7c && second == 0x7c then (Some (token.Binary op.Or)) else
    (if first == 0x26 && second == 0x26 then (Some (token.Binary op.And)) else
    (if first == 0x3d && second == 0x3d then (Some (token.Binary op.Equal)) else
    (if first == 0x21 && second == 0x3d then (Some (token.Binary op.NotEqual)) else
    (if first == 0x3c && second == 0x3d then (Some (token.Binary op.LessEqual)) else
    (if first == 0x3e && second == 0x3d then (Some (token.Binary op.GreaterEqual)) else None)))))))

-- the operator of one byte, or `!`
abbrev pub single_operator : ℕ → Option Token
single_operator byte =
    if byte == 0x21 then (Some token.Not) else
    (if byte == 0x3c then (Some (token.Binary op.Less)) else
    (if byte == 0x3e then (Some (token.Binary op.Greater)) else
    (if byte == 0x2b then (Some (token.Binary op.Add)) else
    (if byte == 0x2d then (Some (token.Binary op.Subtract)) else
    (if byte == 0x2a then (Some (token.Binary op.Multiply)) else
    (if byte == 0x2f then (Some (token.Binary op.Divide)) else
    (if byte == 0x25 then (Some (token.Binary op.Remainder)) else None)))))))

-- the symbol of one byte
abbrev pub single_symbol : ℕ → Option Token
single_symbol byte =
    if byte == 0x28 then (Some (token.Mark mark.Open)) else
    (if byte == 0x29 then (Some (token.Mark mark.Close)) else
    (if byte == 0x7b then (Some (token.Mark mark.OpenBlock)) else
    (if byte == 0x7d then (Some (token.Mark mark.CloseBlock)) else
    (if byte == 0x2c then (Some (token.Mark mark.Comma)) else
    (if byte == 0x3b then (Some (token.Mark mark.Semicolon)) else
    (if byte == 0x3a then (Some (token.Mark mark.Colon)) else
    (if byte == 0x3d then (Some (token.Mark mark.Assign)) else
    single_operator byte)))))))

-- the symbol that the bytes are
abbrev pub symbol_of : List ℕ → Option Token
symbol_of [] = None
symbol_of (byte ∷ []) = single_symbol byte
symbol_of (first ∷ second ∷ []) = double_symbol first second
symbol_of (first ∷ second ∷ third ∷ rest) = None

-- no symbol of two bytes is made of a byte and the first of those behind it
abbrev pub NoDouble : ℕ → List ℕ → Type 0
NoDouble first rest =
    (second : ℕ) (behind : List ℕ) → rest ≡ second ∷ behind → double_symbol first second ≡ None

-- such a symbol is made of them
abbrev pub IsDouble : ℕ → List ℕ → Token → Type 0
IsDouble first rest symbol =
    (second : ℕ) × (behind : List ℕ)
    × (rest ≡ second ∷ behind) × IsSpelling (first ∷ second ∷ []) symbol
