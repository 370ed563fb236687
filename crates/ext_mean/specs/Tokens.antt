-- Tokens: which bytes spell which token, what may stand between two, and where each begins.
use Rattle.std.specs.Prelude.{◌≡◌, ◌<◌, ◌≤◌, ℕ, ◌+◌, ◌-◌, ◌*◌, ◌==◌, ◌&&◌, ◌||◌, ◌⊎◌, Bool, true, false, not, IsTrue, List, [], ◌∷◌, ◌++◌, length, nat_le, nat_lt, codes, if◌then◌else◌}
use Rattle.ext_mean.specs.declared.expr.BinOp.{BinOp}
use Rattle.ext_mean.specs.declared.expr.BinOp.TheVariants as op
use Rattle.ext_mean.specs.declared.token.Word.{Word}
use Rattle.ext_mean.specs.declared.token.Word.TheVariants as word
use Rattle.ext_mean.specs.declared.token.Mark.{Mark}
use Rattle.ext_mean.specs.declared.token.Mark.TheVariants as mark
use Rattle.ext_mean.specs.declared.token.Placed.{Placed}
use Rattle.ext_mean.specs.declared.token.Token.{Token}
use Rattle.ext_mean.specs.declared.token.Token.TheVariants as token

-- whether a byte is from the first to the last of these
abbrev pub is_within : ℕ → ℕ → ℕ → Bool
is_within first last byte = nat_le first byte && nat_le byte last

-- a newline, and the bytes that a text may have: a tab, a newline, and the visible ones with the space
abbrev pub newline : ℕ
newline = 10

abbrev pub is_text_byte : ℕ → Bool
is_text_byte byte = byte == 9 || byte == newline || is_within 0x20 0x7e byte

abbrev pub is_blank : ℕ → Bool
is_blank byte = byte == 0x20 || byte == 9 || byte == newline

abbrev pub is_digit : ℕ → Bool
is_digit byte = is_within 0x30 0x39 byte

abbrev pub is_lower : ℕ → Bool
is_lower byte = is_within 0x61 0x7a byte

-- a byte of a name behind its first: a lower-case letter, a digit or `_`
abbrev pub is_name_byte : ℕ → Bool
is_name_byte byte = is_lower byte || is_digit byte || byte == 0x5f

-- a byte that may not follow a number: a letter, a digit or `_`
abbrev pub is_word_byte : ℕ → Bool
is_word_byte byte = is_name_byte byte || is_within 0x41 0x5a byte

-- each byte passes the test
abbrev pub all_pass : (ℕ → Bool) → List ℕ → Bool
all_pass test [] = true
all_pass test (byte ∷ bytes) = test byte && all_pass test bytes

-- the lines that a text ends
abbrev pub newlines : List ℕ → ℕ
newlines [] = 0
newlines (byte ∷ bytes) = (if byte == newline then 1 else 0) + newlines bytes

-- the letters of a word
abbrev pub letters : Word → List ℕ
letters word.Fn = codes "fn"
letters word.Let = codes "let"
letters word.If = codes "if"
letters word.Else = codes "else"
letters word.While = codes "while"
letters word.Get = codes "get"
letters word.Multiget = codes "multiget"
letters word.Some = codes "some"
letters word.None = codes "none"
letters word.Set = codes "set"
letters word.Set8 = codes "set8"
letters word.Copy = codes "copy"
letters word.Put = codes "put"
letters word.Del = codes "del"
letters word.Resp = codes "resp"
letters word.Return = codes "return"
letters word.Int = codes "int"
letters word.Bool = codes "bool"
letters word.Slice = codes "slice"
letters word.Buf = codes "buf"
letters word.Temp = codes "temp"
letters word.True = codes "true"
letters word.False = codes "false"
letters word.Args = codes "args"
letters word.Len = codes "len"
letters word.Byte = codes "byte"
letters word.U64 = codes "u64"
letters word.Sub = codes "sub"
letters word.View = codes "view"
letters word.Alloc = codes "alloc"

-- the bytes of a mark, and of an operator
abbrev pub mark_bytes : Mark → List ℕ
mark_bytes mark.Open = codes "("
mark_bytes mark.Close = codes ")"
mark_bytes mark.OpenBlock = codes "{"
mark_bytes mark.CloseBlock = codes "}"
mark_bytes mark.Comma = codes ","
mark_bytes mark.Semicolon = codes ";"
mark_bytes mark.Colon = codes ":"
mark_bytes mark.Assign = codes "="
mark_bytes mark.Arrow = codes "->"
mark_bytes mark.Arm = codes "=>"

abbrev pub operator_bytes : BinOp → List ℕ
operator_bytes op.Or = codes "||"
operator_bytes op.And = codes "&&"
operator_bytes op.Equal = codes "=="
operator_bytes op.NotEqual = codes "!="
operator_bytes op.Less = codes "<"
operator_bytes op.LessEqual = codes "<="
operator_bytes op.Greater = codes ">"
operator_bytes op.GreaterEqual = codes ">="
operator_bytes op.Add = codes "+"
operator_bytes op.Subtract = codes "-"
operator_bytes op.Multiply = codes "*"
operator_bytes op.Divide = codes "/"
operator_bytes op.Remainder = codes "%"

-- a name: a lower-case letter, then letters, digits and `_`, and no word of the language
abbrev pub has_name_form : List ℕ → Bool
has_name_form [] = false
has_name_form (byte ∷ bytes) = is_lower byte && all_pass is_name_byte bytes

pub record IsName (bytes : List ℕ) : Type 0 where
  pub form : IsTrue (has_name_form bytes)
  pub free : (word : Word) → bytes ≡ letters word → ⊥

-- the number that decimal digits stand for, behind the number of those before them
abbrev pub digits_from : ℕ → List ℕ → ℕ
digits_from before [] = before
digits_from before (digit ∷ digits) = digits_from (before * 10 + (digit - 0x30)) digits

-- decimal digits without a leading zero
abbrev pub is_numeral : List ℕ → Bool
is_numeral [] = false
is_numeral (digit ∷ []) = is_digit digit
is_numeral (digit ∷ digits) = is_within 0x31 0x39 digit && all_pass is_digit digits

-- a byte that stands for itself in a byte string: any visible one or a space, but `"` and `\`
abbrev pub is_plain : ℕ → Bool
is_plain byte = is_within 0x20 0x7e byte && not (byte == 0x22) && not (byte == 0x5c)

-- a lower-case hexadecimal digit, of a number below 16
abbrev pub hex_digit : ℕ → ℕ
hex_digit value = if nat_lt value 10 then (0x30 + value) else (0x57 + value)

-- `\x` and two digits
abbrev pub escaped : ℕ → ℕ → List ℕ
escaped high low = 0x5c ∷ 0x78 ∷ hex_digit high ∷ hex_digit low ∷ []

-- what stands between the two `"` of a byte string, by the items of the string: each is a byte that
-- stands for itself, or `\x` with its two hexadecimal digits
abbrev pub IsInner : List ℕ → List ℕ → Type 0
IsInner inner [] = inner ≡ []
IsInner inner (item ∷ items) =
    (rest : List ℕ)
    × ((IsTrue (is_plain item) × (inner ≡ item ∷ rest))
    ⊎ ((high : ℕ) × (low : ℕ) × (high < 16) × (low < 16) × (item ≡ 16 * high + low)
    × (inner ≡ escaped high low ++ rest)))
    × IsInner rest items

-- the bytes spell the token, without a bound on the length of a name or the size of a number
abbrev pub IsSpelling : List ℕ → Token → Type 0
IsSpelling bytes (token.Word word) = bytes ≡ letters word
IsSpelling bytes (token.Name name) = IsName name × (bytes ≡ name)
IsSpelling bytes (token.Number number) = IsTrue (is_numeral bytes) × (number ≡ digits_from 0 bytes)
IsSpelling bytes (token.Str items) =
    (inner : List ℕ) × IsInner inner items × (bytes ≡ 0x22 ∷ inner ++ 0x22 ∷ [])
IsSpelling bytes (token.Mark mark) = bytes ≡ mark_bytes mark
IsSpelling bytes token.Not = bytes ≡ codes "!"
IsSpelling bytes (token.Binary operator) = bytes ≡ operator_bytes operator

-- a number is not directly followed by a letter, a digit or `_`
abbrev pub begins_word : List ℕ → Bool
begins_word [] = false
begins_word (byte ∷ bytes) = is_word_byte byte

abbrev pub StandsApart : Token → List ℕ → Type 0
StandsApart (token.Number number) rest = begins_word rest ≡ false
StandsApart other rest = Unit {0}

-- The text begins with these bytes of this token, and with those of no longer one.
pub record BeginsWith (text bytes : List ℕ) (first : Token) (rest : List ℕ) : Type 0 where
  pub spelled : IsSpelling bytes first
  pub whole : text ≡ bytes ++ rest
  pub longest : (longer more : List ℕ) (other : Token) →
      IsSpelling longer other → text ≡ longer ++ more → length longer ≤ length bytes
  pub apart : StandsApart first rest

-- a comment: from `#` to the end of its line
abbrev pub is_comment_byte : ℕ → Bool
is_comment_byte byte = is_text_byte byte && not (byte == newline)

-- Spaces, tabs, newlines and comments between tokens; a comment ends before a newline.
pub data IsGap : List ℕ → Type 0 where
  empty : IsGap []
  blank : {byte : ℕ} {rest : List ℕ} → IsTrue (is_blank byte) → IsGap rest → IsGap (byte ∷ rest)
  comment : {gap rest : List ℕ} (words : List ℕ) → IsTrue (all_pass is_comment_byte words) →
      gap ≡ words ++ newline ∷ rest → IsGap rest → IsGap (0x23 ∷ gap)

-- The text, whose first byte is on this line, begins with these tokens, and then the rest comes.
abbrev pub Tokens : List ℕ → ℕ → List Placed → List ℕ → Type 0
Tokens text line [] rest = text ≡ rest
Tokens text line (placed ∷ more) rest =
    (gap bytes behind : List ℕ)
    × IsGap gap
    × (text ≡ gap ++ (bytes ++ behind))
    × BeginsWith (bytes ++ behind) bytes placed.token behind
    × (placed.line ≡ line + newlines gap)
    × Tokens behind placed.line more rest

-- the tokens without their lines
abbrev pub tokens_of : List Placed → List Token
tokens_of [] = []
tokens_of (placed ∷ more) = placed.token ∷ tokens_of more
