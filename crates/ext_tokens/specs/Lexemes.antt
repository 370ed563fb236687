-- The token at the front of a text, by the class of its first byte.
use Rattle.std.specs.Prelude.{◌≡◌, ◌==◌, ℕ, List, [], ◌∷◌, length, Option, Some, None, if◌then◌else◌}
use Rattle.ext_mean.specs.declared.token.Token.{Token}
use Rattle.ext_mean.specs.declared.token.Token.TheVariants as token
use Rattle.ext_tokens.specs.declared.lexeme.Class.{Class}
use Rattle.ext_tokens.specs.declared.lexeme.Class.TheVariants as kind
use Rattle.ext_tokens.specs.declared.lexeme.Lexeme.{Lexeme}
use Rattle.ext_tokens.specs.declared.lexeme.Lexeme.TheVariants as lexeme
use Rattle.ext_mean.specs.Tokens.{BeginsWith, is_lower, is_digit}
use Rattle.ext_mean.specs.Bounds.{IsTooLong}

-- the class of a token, which its first byte tells
abbrev pub class_of : Token → Class
class_of (token.Word word) = kind.Word
class_of (token.Name name) = kind.Word
class_of (token.Number number) = kind.Number
class_of (token.Str items) = kind.Str
class_of (token.Mark mark) = kind.Symbol
class_of token.Not = kind.Symbol
class_of (token.Binary operator) = kind.Symbol

-- the class of the tokens that may begin with a byte
abbrev pub byte_class : ℕ → Class
byte_class byte =
    if byte == 0x22 then kind.Str else
    (if is_lower byte then kind.Word else (if is_digit byte then kind.Number else kind.Symbol))

abbrev pub front_class : List ℕ → Option Class
front_class [] = None
front_class (byte ∷ bytes) = Some (byte_class byte)

-- the text begins with this token, of so many bytes
abbrev pub BeginsBy : List ℕ → Token → ℕ → Type 0
BeginsBy text first size =
    (bytes behind : List ℕ) × BeginsWith text bytes first behind × (size ≡ length bytes)

-- no token begins the text
abbrev pub BeginsByNone : List ℕ → Type 0
BeginsByNone text = (bytes behind : List ℕ) (first : Token) → BeginsWith text bytes first behind → ⊥

-- what stands at the front of the text
abbrev pub IsLexeme : List ℕ → Lexeme → Type 0
IsLexeme text (lexeme.Token first size) = BeginsBy text first size × (IsTooLong first → ⊥)
IsLexeme text lexeme.TooLong = (first : Token) × (size : ℕ) × BeginsBy text first size × IsTooLong first
IsLexeme text lexeme.Nothing = BeginsByNone text
