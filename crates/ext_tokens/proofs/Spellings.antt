-- What the spellings of each class of tokens look like.
use Rattle.std.proofs.Common.{◌≡◌, ℕ, ◌+◌, ◌<◌, Bool, true, false, ◌&&◌, ◌||◌, not, List, [], ◌∷◌, ◌++◌, Some, refl, ap, inl, inr, arith}
use Rattle.std.proofs.lemmas.Bool.{and_parts, and_from, or_left}
use Rattle.std.proofs.lemmas.Bool.Decides.{nat_tests}
use Rattle.std.specs.Prelude.{◌==◌}
use Rattle.ext_mean.specs.declared.expr.BinOp.{BinOp}
use Rattle.ext_mean.specs.declared.expr.BinOp.TheVariants as op
use Rattle.ext_mean.specs.declared.token.Word.{Word}
use Rattle.ext_mean.specs.declared.token.Word.TheVariants as word
use Rattle.ext_mean.specs.declared.token.Mark.{Mark}
use Rattle.ext_mean.specs.declared.token.Mark.TheVariants as mark
use Rattle.ext_mean.specs.declared.token.Token.{Token}
use Rattle.ext_mean.specs.declared.token.Token.TheVariants as token
use Rattle.ext_mean.specs.Tokens.{letters, mark_bytes, operator_bytes, has_name_form, is_name_byte, is_lower, is_digit, is_numeral, is_within, is_plain, is_blank, hex_digit, newline, all_pass, newlines, IsInner, IsSpelling, digits_from}
use Rattle.ext_tokens.specs.declared.words.TheConstants.{WORDS}
use Rattle.ext_tokens.specs.Words.{word_among}
use Rattle.ext_tokens.specs.Symbols.{symbol_of}
use Rattle.ext_tokens.specs.Strings.{IsItem}
use Rattle.ext_tokens.proofs.Items.{item-first}
use Rattle.ext_tokens.specs.declared.lexeme.Class.TheVariants as kind
use Rattle.ext_tokens.specs.Lexemes.{class_of, byte_class, front_class}

-- the letters of each word: they have the form of a name, and are those of no other word
pub word-known : (which : Word) → (has_name_form (letters which) ≡ true) × (word_among WORDS (letters which) ≡ Some which)
word-known word.Fn = (refl, refl)
word-known word.Let = (refl, refl)
word-known word.If = (refl, refl)
word-known word.Else = (refl, refl)
word-known word.While = (refl, refl)
word-known word.Get = (refl, refl)
word-known word.Multiget = (refl, refl)
word-known word.Some = (refl, refl)
word-known word.None = (refl, refl)
word-known word.Set = (refl, refl)
word-known word.Set8 = (refl, refl)
word-known word.Copy = (refl, refl)
word-known word.Put = (refl, refl)
word-known word.Del = (refl, refl)
word-known word.Resp = (refl, refl)
word-known word.Return = (refl, refl)
word-known word.Int = (refl, refl)
word-known word.Bool = (refl, refl)
word-known word.Slice = (refl, refl)
word-known word.Buf = (refl, refl)
word-known word.Temp = (refl, refl)
word-known word.True = (refl, refl)
word-known word.False = (refl, refl)
word-known word.Args = (refl, refl)
word-known word.Len = (refl, refl)
word-known word.Byte = (refl, refl)
word-known word.U64 = (refl, refl)
word-known word.Sub = (refl, refl)
word-known word.View = (refl, refl)
word-known word.Alloc = (refl, refl)

-- the first byte is no blank and begins no comment
abbrev pub front_shown : List ℕ → Bool
front_shown [] = false
front_shown (byte ∷ bytes) = not (is_blank byte) && not (byte == 0x23)

-- the bytes of each mark and operator
pub record Symbol (which : Token) (bytes : List ℕ) : Type 0 where
  pub one : symbol_of bytes ≡ Some which
  pub front : front_class bytes ≡ Some kind.Symbol
  pub shown : front_shown bytes ≡ true
  pub line : newlines bytes ≡ 0

pub mark-known : (which : Mark) → Symbol (token.Mark which) (mark_bytes which)
mark-known mark.Open = record { one = refl; front = refl; shown = refl; line = refl }
mark-known mark.Close = record { one = refl; front = refl; shown = refl; line = refl }
mark-known mark.OpenBlock = record { one = refl; front = refl; shown = refl; line = refl }
mark-known mark.CloseBlock = record { one = refl; front = refl; shown = refl; line = refl }
mark-known mark.Comma = record { one = refl; front = refl; shown = refl; line = refl }
mark-known mark.Semicolon = record { one = refl; front = refl; shown = refl; line = refl }
mark-known mark.Colon = record { one = refl; front = refl; shown = refl; line = refl }
mark-known mark.Assign = record { one = refl; front = refl; shown = refl; line = refl }
mark-known mark.Arrow = record { one = refl; front = refl; shown = refl; line = refl }
mark-known mark.Arm = record { one = refl; front = refl; shown = refl; line = refl }

pub operator-known : (which : BinOp) → Symbol (token.Binary which) (operator_bytes which)
operator-known op.Or = record { one = refl; front = refl; shown = refl; line = refl }
operator-known op.And = record { one = refl; front = refl; shown = refl; line = refl }
operator-known op.Equal = record { one = refl; front = refl; shown = refl; line = refl }
operator-known op.NotEqual = record { one = refl; front = refl; shown = refl; line = refl }
operator-known op.Less = record { one = refl; front = refl; shown = refl; line = refl }
operator-known op.LessEqual = record { one = refl; front = refl; shown = refl; line = refl }
operator-known op.Greater = record { one = refl; front = refl; shown = refl; line = refl }
operator-known op.GreaterEqual = record { one = refl; front = refl; shown = refl; line = refl }
operator-known op.Add = record { one = refl; front = refl; shown = refl; line = refl }
operator-known op.Subtract = record { one = refl; front = refl; shown = refl; line = refl }
operator-known op.Multiply = record { one = refl; front = refl; shown = refl; line = refl }
operator-known op.Divide = record { one = refl; front = refl; shown = refl; line = refl }
operator-known op.Remainder = record { one = refl; front = refl; shown = refl; line = refl }

-- the class of a byte
lower-class : (byte : ℕ) → is_lower byte ≡ true → byte_class byte ≡ kind.Word
lower-class byte lower = grind (arith, nat_tests)

digit-class : (byte : ℕ) → is_digit byte ≡ true → byte_class byte ≡ kind.Number
digit-class byte digit = grind (arith, nat_tests)

-- a digit that is not 0 is a digit
nonzero-digit : (byte : ℕ) → is_within 0x31 0x39 byte ≡ true → is_digit byte ≡ true
nonzero-digit byte digit = grind (arith, nat_tests)

pub name-front : (bytes : List ℕ) → has_name_form bytes ≡ true → front_class bytes ≡ Some kind.Word
name-front [] form = cc
name-front (byte ∷ bytes) form = ap Some (lower-class byte ((and_parts _ _ form).0))

pub numeral-digits : (bytes : List ℕ) → is_numeral bytes ≡ true → all_pass is_digit bytes ≡ true
numeral-digits [] form = cc
numeral-digits (digit ∷ []) form = and_from _ _ form refl
numeral-digits (digit ∷ next ∷ digits) form =
    and_from _ _ (nonzero-digit digit ((and_parts _ _ form).0)) ((and_parts _ _ form).1)

pub numeral-front : (bytes : List ℕ) → is_numeral bytes ≡ true → front_class bytes ≡ Some kind.Number
numeral-front [] form = cc
numeral-front (digit ∷ digits) form = ap Some (digit-class digit ((and_parts _ _ (numeral-digits (digit ∷ digits) form)).0))

-- the first byte of a spelling tells the class of its token
pub spelling-front : (which : Token) (bytes : List ℕ) → IsSpelling bytes which → front_class bytes ≡ Some (class_of which)
spelling-front (token.Word which) bytes spelled = rw spelled (name-front (letters which) ((word-known which).0))
spelling-front (token.Name name) bytes spelled = name-front bytes (rw (spelled.1) (spelled.0.form))
spelling-front (token.Number number) bytes spelled = numeral-front bytes (spelled.0)
spelling-front (token.Str items) bytes spelled = ap front_class spelled.2
spelling-front (token.Mark which) bytes spelled = rw spelled ((mark-known which).front)
spelling-front token.Not bytes spelled = rw spelled refl
spelling-front (token.Binary which) bytes spelled = rw spelled ((operator-known which).front)

-- what a spelling of each class is
pub word-form : (which : Token) (bytes : List ℕ) → class_of which ≡ kind.Word → IsSpelling bytes which → has_name_form bytes ≡ true
word-form (token.Word which) bytes is spelled = rw spelled ((word-known which).0)
word-form (token.Name name) bytes is spelled = rw (spelled.1) (spelled.0.form)
word-form (token.Number number) bytes is spelled = cc
word-form (token.Str items) bytes is spelled = cc
word-form (token.Mark which) bytes is spelled = cc
word-form token.Not bytes is spelled = cc
word-form (token.Binary which) bytes is spelled = cc

pub number-form : (which : Token) (bytes : List ℕ) → class_of which ≡ kind.Number → IsSpelling bytes which
    → (is_numeral bytes ≡ true) × (which ≡ token.Number (digits_from 0 bytes))
number-form (token.Word which) bytes is spelled = absurd cc
number-form (token.Name name) bytes is spelled = absurd cc
number-form (token.Number number) bytes is spelled = (spelled.0, ap token.Number spelled.1)
number-form (token.Str items) bytes is spelled = absurd cc
number-form (token.Mark which) bytes is spelled = absurd cc
number-form token.Not bytes is spelled = absurd cc
number-form (token.Binary which) bytes is spelled = absurd cc

pub string-form : (which : Token) (bytes : List ℕ) → class_of which ≡ kind.Str → IsSpelling bytes which
    → (items inner : List ℕ) × IsInner inner items × (bytes ≡ 0x22 ∷ inner ++ 0x22 ∷ []) × (which ≡ token.Str items)
string-form (token.Word which) bytes is spelled = absurd cc
string-form (token.Name name) bytes is spelled = absurd cc
string-form (token.Number number) bytes is spelled = absurd cc
string-form (token.Str items) bytes is spelled = (items, spelled.0, spelled.1, spelled.2, refl)
string-form (token.Mark which) bytes is spelled = absurd cc
string-form token.Not bytes is spelled = absurd cc
string-form (token.Binary which) bytes is spelled = absurd cc

pub symbol-form : (which : Token) (bytes : List ℕ) → class_of which ≡ kind.Symbol → IsSpelling bytes which → symbol_of bytes ≡ Some which
symbol-form (token.Word which) bytes is spelled = absurd cc
symbol-form (token.Name name) bytes is spelled = absurd cc
symbol-form (token.Number number) bytes is spelled = absurd cc
symbol-form (token.Str items) bytes is spelled = absurd cc
symbol-form (token.Mark which) bytes is spelled = rw spelled ((mark-known which).one)
symbol-form token.Not bytes is spelled = rw spelled refl
symbol-form (token.Binary which) bytes is spelled = rw spelled ((operator-known which).one)

lower-shown : (byte : ℕ) → is_lower byte ≡ true → (not (is_blank byte) && not (byte == 0x23)) ≡ true
lower-shown byte lower = grind (arith, nat_tests)

digit-shown : (byte : ℕ) → is_digit byte ≡ true → (not (is_blank byte) && not (byte == 0x23)) ≡ true
digit-shown byte digit = grind (arith, nat_tests)

name-shown : (bytes : List ℕ) → has_name_form bytes ≡ true → front_shown bytes ≡ true
name-shown [] form = cc
name-shown (byte ∷ bytes) form = lower-shown byte ((and_parts _ _ form).0)

numeral-shown : (bytes : List ℕ) → is_numeral bytes ≡ true → front_shown bytes ≡ true
numeral-shown [] form = cc
numeral-shown (digit ∷ digits) form = digit-shown digit ((and_parts _ _ (numeral-digits (digit ∷ digits) form)).0)

-- no spelling begins with a blank or a comment
pub spelling-shown : (which : Token) (bytes : List ℕ) → IsSpelling bytes which → front_shown bytes ≡ true
spelling-shown (token.Word which) bytes spelled = rw spelled (name-shown (letters which) ((word-known which).0))
spelling-shown (token.Name name) bytes spelled = name-shown bytes (rw (spelled.1) (spelled.0.form))
spelling-shown (token.Number number) bytes spelled = numeral-shown bytes (spelled.0)
spelling-shown (token.Str items) bytes spelled = ap front_shown spelled.2
spelling-shown (token.Mark which) bytes spelled = rw spelled ((mark-known which).shown)
spelling-shown token.Not bytes spelled = rw spelled refl
spelling-shown (token.Binary which) bytes spelled = rw spelled ((operator-known which).shown)

-- Spellings stand within a line.

pub newlines-append : (a b : List ℕ) → newlines (a ++ b) ≡ newlines a + newlines b
newlines-append [] b = omega arith
newlines-append (byte ∷ a) b = let rest : newlines (a ++ b) ≡ newlines a + newlines b = newlines-append a b in omega arith

pub no-lines : (test : ℕ → Bool) (bytes : List ℕ) → ((byte : ℕ) → test byte ≡ true → (byte == newline) ≡ false)
    → all_pass test bytes ≡ true → newlines bytes ≡ 0
no-lines test [] none pass = refl
no-lines test (byte ∷ bytes) none pass =
    let parts = and_parts (test byte) (all_pass test bytes) pass in
    let rest : newlines bytes ≡ 0 = no-lines test bytes none parts.1 in
    rw (none byte parts.0, rest) refl

name-line : (byte : ℕ) → is_name_byte byte ≡ true → (byte == newline) ≡ false
name-line byte pass = grind (arith, nat_tests)

digit-line : (byte : ℕ) → is_digit byte ≡ true → (byte == newline) ≡ false
digit-line byte pass = grind (arith, nat_tests)

plain-line : (byte : ℕ) → is_plain byte ≡ true → (byte == newline) ≡ false
plain-line byte pass = grind (arith, nat_tests)

hex-line : (value : ℕ) → value < 16 → (hex_digit value == newline) ≡ false
hex-line value below = grind (arith, nat_tests)

pub lower-name : (byte : ℕ) → is_lower byte ≡ true → is_name_byte byte ≡ true
lower-name byte lower = or_left (is_lower byte || is_digit byte) (byte == 0x5f) (or_left (is_lower byte) (is_digit byte) lower)

pub name-bytes : (bytes : List ℕ) → has_name_form bytes ≡ true → all_pass is_name_byte bytes ≡ true
name-bytes [] form = cc
name-bytes (byte ∷ bytes) form =
    let parts = and_parts (is_lower byte) (all_pass is_name_byte bytes) form in
    and_from (is_name_byte byte) (all_pass is_name_byte bytes) (lower-name byte parts.0) parts.1

item-line : (bytes : List ℕ) (item : ℕ) → IsItem bytes item → newlines bytes ≡ 0
item-line bytes item (inl (plain, e)) = rw (e, plain-line item plain) refl
item-line bytes item (inr (high, low, h, l, is, e)) = rw (e, hex-line high h, hex-line low l) refl

inner-line : (inner items : List ℕ) → IsInner inner items → newlines inner ≡ 0
inner-line inner [] inside = rw inside refl
inner-line inner (item ∷ items) inside =
    let parts = item-first inner item items inside in
    let one : newlines parts.0 ≡ 0 = item-line parts.0 item parts.2 in
    let more : newlines parts.1 ≡ 0 = inner-line parts.1 items parts.4 in
    omega (arith, ap newlines parts.3, newlines-append parts.0 parts.1)

pub spelling-line : (which : Token) (bytes : List ℕ) → IsSpelling bytes which → newlines bytes ≡ 0
spelling-line (token.Word which) bytes spelled = rw spelled (no-lines is_name_byte (letters which) name-line (name-bytes (letters which) ((word-known which).0)))
spelling-line (token.Name name) bytes spelled = no-lines is_name_byte bytes name-line (name-bytes bytes (rw (spelled.1) (spelled.0.form)))
spelling-line (token.Number number) bytes spelled = no-lines is_digit bytes digit-line (numeral-digits bytes spelled.0)
spelling-line (token.Str items) bytes spelled =
    omega (arith, ap newlines spelled.2, newlines-append spelled.0 (0x22 ∷ []), inner-line spelled.0 items spelled.1)
spelling-line (token.Mark which) bytes spelled = rw spelled ((mark-known which).line)
spelling-line token.Not bytes spelled = rw spelled refl
spelling-line (token.Binary which) bytes spelled = rw spelled ((operator-known which).line)
