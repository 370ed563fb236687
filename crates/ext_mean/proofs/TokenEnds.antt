-- Where a token ends: no longer one begins the same text.
use Rattle.std.specs.Prelude.{IsTrue, ◌&&◌, ◌||◌, ◌==◌}
use Rattle.std.proofs.Common.{◌≡◌, ◌⊎◌, inl, inr, ℕ, ◌≤◌, Bool, true, false, List, [], ◌∷◌, ◌++◌, length, refl, sym, ap, ◌∙◌, subst, arith, if◌then◌else◌}
use Rattle.std.proofs.lemmas.Bool.Decides.{nat_tests}
use Rattle.ext_mean.specs.declared.expr.BinOp.{BinOp}
use Rattle.ext_mean.specs.declared.expr.BinOp.TheVariants as op
use Rattle.ext_mean.specs.declared.token.Word.{Word}
use Rattle.ext_mean.specs.declared.token.Word.TheVariants as word
use Rattle.ext_mean.specs.declared.token.Mark.{Mark}
use Rattle.ext_mean.specs.declared.token.Mark.TheVariants as mark
use Rattle.ext_mean.specs.declared.token.Token.{Token}
use Rattle.ext_mean.specs.declared.token.Token.TheVariants as token
use Rattle.ext_mean.specs.Tokens.{letters, mark_bytes, operator_bytes, has_name_form, is_name_byte, is_word_byte, is_lower, is_digit, is_numeral, is_within, all_pass, begins_word, IsSpelling}
use Rattle.ext_mean.proofs.Pieces.{and-both}

-- the first byte, or 0
abbrev pub head : List ℕ → ℕ
head [] = 0
head (byte ∷ bytes) = byte

-- the most bytes of a mark or an operator that begins with this one
abbrev pub room : ℕ → ℕ
room byte =
    if byte == 0x2d || byte == 0x3d || byte == 0x7c || byte == 0x26 || byte == 0x21 || byte == 0x3c || byte == 0x3e
    then 2 else 1

letters-named : (w : Word) → all_pass is_name_byte (letters w) ≡ true
letters-named word.Fn = refl
letters-named word.Let = refl
letters-named word.If = refl
letters-named word.Else = refl
letters-named word.While = refl
letters-named word.Get = refl
letters-named word.Multiget = refl
letters-named word.Some = refl
letters-named word.None = refl
letters-named word.Set = refl
letters-named word.Set8 = refl
letters-named word.Copy = refl
letters-named word.Put = refl
letters-named word.Del = refl
letters-named word.Resp = refl
letters-named word.Return = refl
letters-named word.Int = refl
letters-named word.Bool = refl
letters-named word.Slice = refl
letters-named word.Buf = refl
letters-named word.Temp = refl
letters-named word.True = refl
letters-named word.False = refl
letters-named word.Args = refl
letters-named word.Len = refl
letters-named word.Byte = refl
letters-named word.U64 = refl
letters-named word.Sub = refl
letters-named word.View = refl
letters-named word.Alloc = refl

-- bytes that may stand in a name
lower-named : (byte : ℕ) → is_lower byte ≡ true → is_name_byte byte ≡ true
lower-named byte lower = rw lower refl

digit-named : (byte : ℕ) → is_digit byte ≡ true → is_name_byte byte ≡ true
digit-named byte digit = grind (arith, nat_tests)

first-digit : (byte : ℕ) → is_within 0x31 0x39 byte ≡ true → is_digit byte ≡ true
first-digit byte test = grind (arith, nat_tests)

named-word : (byte : ℕ) → is_name_byte byte ≡ true → is_word_byte byte ≡ true
named-word byte named = rw named refl

pub both-true : (a b : Bool) → a ≡ true → b ≡ true → (a && b) ≡ true
both-true a b first second = rw (first, second) refl

name-named : (bytes : List ℕ) → IsTrue (has_name_form bytes) → all_pass is_name_byte bytes ≡ true
name-named [] form = refl
name-named (byte ∷ bytes) form =
    let parts = and-both (is_lower byte) (all_pass is_name_byte bytes) form in
    both-true (is_name_byte byte) (all_pass is_name_byte bytes) (lower-named byte parts.0) parts.1

digits-named : (bytes : List ℕ) → all_pass is_digit bytes ≡ true → all_pass is_name_byte bytes ≡ true
digits-named [] digits = refl
digits-named (byte ∷ bytes) digits =
    let parts = and-both (is_digit byte) (all_pass is_digit bytes) digits in
    both-true (is_name_byte byte) (all_pass is_name_byte bytes) (digit-named byte parts.0) (digits-named bytes parts.1)

pub numeral-named : (bytes : List ℕ) → IsTrue (is_numeral bytes) → all_pass is_name_byte bytes ≡ true
numeral-named [] numeral = refl
numeral-named (digit ∷ []) numeral = both-true (is_name_byte digit) true (digit-named digit numeral) refl
numeral-named (digit ∷ next ∷ digits) numeral =
    let parts = and-both (is_within 0x31 0x39 digit) (all_pass is_digit (next ∷ digits)) numeral in
    both-true (is_name_byte digit) (all_pass is_name_byte (next ∷ digits))
    (digit-named digit (first-digit digit parts.0)) (digits-named (next ∷ digits) parts.1)

-- What the bytes of a token look like: they may stand in a name, or are a symbol of at most two
-- bytes, or begin with a `"`.
data Looks (bytes : List ℕ) : Type 0 where
  worded : all_pass is_name_byte bytes ≡ true → Looks bytes
  symbolic : is_name_byte (head bytes) ≡ false → length bytes ≤ room (head bytes) → Looks bytes
  quoted : head bytes ≡ 0x22 → Looks bytes

mark-looks : (m : Mark) → Looks (mark_bytes m)
mark-looks mark.Open = symbolic refl (omega arith)
mark-looks mark.Close = symbolic refl (omega arith)
mark-looks mark.OpenBlock = symbolic refl (omega arith)
mark-looks mark.CloseBlock = symbolic refl (omega arith)
mark-looks mark.Comma = symbolic refl (omega arith)
mark-looks mark.Semicolon = symbolic refl (omega arith)
mark-looks mark.Colon = symbolic refl (omega arith)
mark-looks mark.Assign = symbolic refl (omega arith)
mark-looks mark.Arrow = symbolic refl (omega arith)
mark-looks mark.Arm = symbolic refl (omega arith)

operator-looks : (o : BinOp) → Looks (operator_bytes o)
operator-looks op.Or = symbolic refl (omega arith)
operator-looks op.And = symbolic refl (omega arith)
operator-looks op.Equal = symbolic refl (omega arith)
operator-looks op.NotEqual = symbolic refl (omega arith)
operator-looks op.Less = symbolic refl (omega arith)
operator-looks op.LessEqual = symbolic refl (omega arith)
operator-looks op.Greater = symbolic refl (omega arith)
operator-looks op.GreaterEqual = symbolic refl (omega arith)
operator-looks op.Add = symbolic refl (omega arith)
operator-looks op.Subtract = symbolic refl (omega arith)
operator-looks op.Multiply = symbolic refl (omega arith)
operator-looks op.Divide = symbolic refl (omega arith)
operator-looks op.Remainder = symbolic refl (omega arith)

looks : (bytes : List ℕ) (t : Token) → IsSpelling bytes t → Looks bytes
looks bytes (token.Word w) e = subst Looks (sym e) (worded (letters-named w))
looks bytes (token.Name name) spelled = subst Looks (sym spelled.1) (worded (name-named name spelled.0.form))
looks bytes (token.Number number) spelled = worded (numeral-named bytes spelled.0)
looks bytes (token.Str items) spelled = quoted (ap head spelled.2)
looks bytes (token.Mark m) e = subst Looks (sym e) (mark-looks m)
looks bytes token.Not e = subst Looks (sym e) (symbolic refl (omega arith))
looks bytes (token.Binary o) e = subst Looks (sym e) (operator-looks o)

-- bytes of a name are within those before a byte that is none
named-within : (longer more bytes behind : List ℕ) → all_pass is_name_byte longer ≡ true → begins_word behind ≡ false → bytes ++ behind ≡ longer ++ more → length longer ≤ length bytes
named-within [] more bytes behind named ends same = omega arith
named-within (byte ∷ longer) more [] behind named ends same =
    let parts = and-both (is_name_byte byte) (all_pass is_name_byte longer) named in
    let begins : begins_word behind ≡ true = ap begins_word same ∙ named-word byte parts.0 in
    absurd (let clash : true ≡ false = sym begins ∙ ends in cc)
named-within (byte ∷ longer) more (first ∷ bytes) behind named ends same =
    let parts = and-both (is_name_byte byte) (all_pass is_name_byte longer) named in
    let rest : bytes ++ behind ≡ longer ++ more = cc in
    let shorter = named-within longer more bytes behind parts.1 ends rest in
    omega (arith, shorter)

-- two fronts of one text, of which the first has a byte, begin alike
same-head : (first : ℕ) (bytes behind longer more : List ℕ) → (first ∷ bytes) ++ behind ≡ longer ++ more → (longer ≡ []) ⊎ (head longer ≡ first)
same-head first bytes behind [] more same = inl refl
same-head first bytes behind (byte ∷ longer) more same = inr (sym (ap head same))

none-longer : (longer bytes : List ℕ) → longer ≡ [] → length longer ≤ length bytes
none-longer longer bytes e = subst (λ l. length l ≤ length bytes) (sym e) (omega arith)

true-not-false : {b : Bool} → b ≡ true → b ≡ false → ⊥
true-not-false {b} yes-true yes-false = let clash : true ≡ false = sym yes-true ∙ yes-false in cc

-- a word or a number is the longest token, where no byte of a word follows
pub word-longest : (first : ℕ) (bytes behind : List ℕ) → is_name_byte first ≡ true → begins_word behind ≡ false
    → (longer more : List ℕ) (other : Token) → IsSpelling longer other → (first ∷ bytes) ++ behind ≡ longer ++ more → length longer ≤ length (first ∷ bytes)
word-longest first bytes behind named ends longer more other spelled same =
    elim (looks longer other spelled) [
      | worded all ↦ named-within longer more (first ∷ bytes) behind all ends same
      | symbolic unnamed short ↦ elim (same-head first bytes behind longer more same) [
        | inl none ↦ none-longer longer (first ∷ bytes) none
        | inr begins ↦ absurd (true-not-false named (ap is_name_byte (sym begins) ∙ unnamed))
      ]
      | quoted quote ↦ elim (same-head first bytes behind longer more same) [
        | inl none ↦ none-longer longer (first ∷ bytes) none
        | inr begins ↦ absurd (true-not-false named (ap is_name_byte (sym begins ∙ quote)))
      ]
    ]

pub word-first : (byte : ℕ) (longer : List ℕ) → all_pass is_name_byte (byte ∷ longer) ≡ true → is_name_byte byte ≡ true
word-first byte longer all = (and-both (is_name_byte byte) (all_pass is_name_byte longer) all).0

-- where bytes of a name begin with no such byte, there are none
unnamed-none : (first : ℕ) (longer bytes : List ℕ) → is_name_byte first ≡ false → all_pass is_name_byte longer ≡ true → head longer ≡ first → length longer ≤ length bytes
unnamed-none first [] bytes unnamed all begins = omega arith
unnamed-none first (byte ∷ longer) bytes unnamed all begins =
    absurd (true-not-false (word-first byte longer all) (ap is_name_byte begins ∙ unnamed))

-- a symbol is the longest token, where it has all the bytes that one with its first may have
pub symbol-longest : (first : ℕ) (bytes behind : List ℕ) → is_name_byte first ≡ false → (first == 0x22) ≡ false → room first ≤ length (first ∷ bytes)
    → (longer more : List ℕ) (other : Token) → IsSpelling longer other → (first ∷ bytes) ++ behind ≡ longer ++ more → length longer ≤ length (first ∷ bytes)
symbol-longest first bytes behind unnamed unquoted full longer more other spelled same =
    elim (same-head first bytes behind longer more same) [
      | inl none ↦ none-longer longer (first ∷ bytes) none
      | inr begins ↦ elim (looks longer other spelled) [
        | worded all ↦ unnamed-none first longer (first ∷ bytes) unnamed all begins
        | symbolic symbol short ↦
            let fits : length longer ≤ room first = subst (λ byte. length longer ≤ room byte) begins short in
            omega (arith, fits, full)
        | quoted quote ↦ absurd (true-not-false (ap (λ byte. byte == 0x22) (sym begins ∙ quote)) unquoted)
      ]
    ]
