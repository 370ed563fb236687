-- Texts of one line, by their tokens: each behind one space or none.
use Rattle.std.specs.Prelude.{not, ◌&&◌, ◌==◌, nat_le}
use Rattle.std.specs.Fmt.{decimal}
use Rattle.std.proofs.Common.{◌≡◌, ℕ, ◌+◌, ◌^◌, ◌<◌, ◌≤◌, Bool, true, false, List, [], ◌∷◌, ◌++◌, length, refl, if◌then◌else◌}
use Rattle.std.proofs.lemmas.Bool.{leb-true}
use Rattle.ext_mean.specs.declared.token.Placed.{Placed}
use Rattle.ext_mean.specs.declared.token.Token.{Token}
use Rattle.ext_mean.specs.declared.token.Token.TheVariants as token
use Rattle.ext_mean.specs.Tokens.{letters, mark_bytes, is_name_byte, begins_word, newlines, IsName, IsSpelling, StandsApart, BeginsWith, IsGap, empty, blank, Tokens}
use Rattle.ext_mean.proofs.Numerals.{Spelled, decimal-spelled}
use Rattle.ext_mean.proofs.Pieces.{and-both}
use Rattle.ext_mean.proofs.TokenEnds.{room, word-first, numeral-named, word-longest, symbol-longest}

-- words, names and marks have one spelling
abbrev pub spelling : Token → List ℕ
spelling (token.Word word) = letters word
spelling (token.Name name) = name
spelling (token.Mark mark) = mark_bytes mark
spelling other = []

abbrev pub IsPlain : Token → Type 0
IsPlain (token.Word word) = Unit {0}
IsPlain (token.Name name) = IsName name
IsPlain (token.Mark mark) = Unit {0}
IsPlain other = ⊥

plain-spelled : (t : Token) → IsPlain t → IsSpelling (spelling t) t
plain-spelled (token.Word word) plain = refl
plain-spelled (token.Name name) plain = (plain, refl)
plain-spelled (token.Number number) plain = absurd plain
plain-spelled (token.Str items) plain = absurd plain
plain-spelled (token.Mark mark) plain = refl
plain-spelled token.Not plain = absurd plain
plain-spelled (token.Binary operator) plain = absurd plain

plain-apart : (t : Token) (behind : List ℕ) → IsPlain t → StandsApart t behind
plain-apart (token.Word word) behind plain = tt
plain-apart (token.Name name) behind plain = tt
plain-apart (token.Number number) behind plain = absurd plain
plain-apart (token.Str items) behind plain = absurd plain
plain-apart (token.Mark mark) behind plain = tt
plain-apart token.Not behind plain = absurd plain
plain-apart (token.Binary operator) behind plain = absurd plain

-- whether these bytes are a whole token, whatever it is, before those behind them
abbrev pub stands : List ℕ → List ℕ → Bool
stands [] behind = false
stands (byte ∷ bytes) behind =
    if is_name_byte byte then not (begins_word behind)
    else (not (byte == 0x22) && nat_le (room byte) (length (byte ∷ bytes)))

is-false : (b : Bool) → not b ≡ true → b ≡ false
is-false true e = absurd (let clash : false ≡ true = e in cc)
is-false false e = refl

abbrev IsLongest : List ℕ → List ℕ → Type 0
IsLongest bytes behind =
    (longer more : List ℕ) (other : Token) → IsSpelling longer other → bytes ++ behind ≡ longer ++ more → length longer ≤ length bytes

stands-by : (named : Bool) (byte : ℕ) (bytes behind : List ℕ) → is_name_byte byte ≡ named
    → (if named then not (begins_word behind) else (not (byte == 0x22) && nat_le (room byte) (length (byte ∷ bytes)))) ≡ true
    → IsLongest (byte ∷ bytes) behind
stands-by true byte bytes behind named test = word-longest byte bytes behind named (is-false (begins_word behind) test)
stands-by false byte bytes behind unnamed test =
    let parts = and-both (not (byte == 0x22)) (nat_le (room byte) (length (byte ∷ bytes))) test in
    symbol-longest byte bytes behind unnamed (is-false (byte == 0x22) parts.0) (leb-true (room byte) (length (byte ∷ bytes)) parts.1)

stands-longest : (bytes behind : List ℕ) → stands bytes behind ≡ true → IsLongest bytes behind
stands-longest [] behind test = absurd (let clash : false ≡ true = test in cc)
stands-longest (byte ∷ bytes) behind test = stands-by (is_name_byte byte) byte bytes behind refl test

plain-begins : (t : Token) (behind : List ℕ) → IsPlain t → stands (spelling t) behind ≡ true → BeginsWith (spelling t ++ behind) (spelling t) t behind
plain-begins t behind plain test = record {
  spelled = plain-spelled t plain;
  whole = refl;
  longest = stands-longest (spelling t) behind test;
  apart = plain-apart t behind plain;
}

-- a number before a byte that is of no word
number-begins : (number : ℕ) (digits behind : List ℕ) → Spelled number digits → begins_word behind ≡ false → BeginsWith (digits ++ behind) digits (token.Number number) behind
number-begins number [] behind spelled ends = absurd (let clash : false ≡ true = spelled.numeral in cc)
number-begins number (digit ∷ digits) behind spelled ends = record {
  spelled = (spelled.numeral, spelled.value);
  whole = refl;
  longest = word-longest digit digits behind (word-first digit digits (numeral-named (digit ∷ digits) spelled.numeral)) ends;
  apart = ends;
}

-- a token, and whether a space stands before it
pub record Piece : Type 0 where
  pub spaced : Bool
  pub token : Token

abbrev pub piece : Bool → Token → Piece
piece spaced token = record { spaced = spaced; token = token }

abbrev pub gap_of : Bool → List ℕ
gap_of true = 0x20 ∷ []
gap_of false = []

gap-is : (spaced : Bool) → IsGap (gap_of spaced)
gap-is true = blank refl empty
gap-is false = empty

gap-line : (spaced : Bool) → 1 ≡ 1 + newlines (gap_of spaced)
gap-line true = refl
gap-line false = refl

-- the text of some pieces before the rest
abbrev pub text_from : List Piece → List ℕ → List ℕ
text_from [] rest = rest
text_from (first ∷ pieces) rest = gap_of first.spaced ++ (spelling first.token ++ text_from pieces rest)

-- their tokens, all on the first line
abbrev pub on_line : Token → Placed
on_line token = record { token = token; line = 1 }

abbrev pub placed_by : List Piece → List Placed → List Placed
placed_by [] more = more
placed_by (first ∷ pieces) more = on_line first.token ∷ placed_by pieces more

abbrev pub all_stand : List Piece → List ℕ → Bool
all_stand [] rest = true
all_stand (first ∷ pieces) rest = stands (spelling first.token) (text_from pieces rest) && all_stand pieces rest

abbrev pub ArePlain : List Piece → Type 0
ArePlain [] = Unit {0}
ArePlain (first ∷ pieces) = IsPlain first.token × ArePlain pieces

pub plain-tokens : (pieces : List Piece) (rest end : List ℕ) (more : List Placed) → ArePlain pieces → all_stand pieces rest ≡ true → Tokens rest 1 more end → Tokens (text_from pieces rest) 1 (placed_by pieces more) end
plain-tokens [] rest end more plain test behind = behind
plain-tokens (first ∷ pieces) rest end more plain test behind =
    let tests = and-both (stands (spelling first.token) (text_from pieces rest)) (all_stand pieces rest) test in (
      gap_of first.spaced,
      spelling first.token,
      text_from pieces rest,
      gap-is first.spaced,
      refl,
      plain-begins first.token (text_from pieces rest) plain.0 tests.0,
      gap-line first.spaced,
      plain-tokens pieces rest end more plain.1 tests.1 behind,
    )

pub number-tokens : (spaced : Bool) (number : ℕ) (rest end : List ℕ) (more : List Placed) → number < 2 ^ 64 → begins_word rest ≡ false → Tokens rest 1 more end → Tokens (gap_of spaced ++ (decimal number ++ rest)) 1 (on_line (token.Number number) ∷ more) end
number-tokens spaced number rest end more fits ends behind = (
  gap_of spaced,
  decimal number,
  rest,
  gap-is spaced,
  refl,
  number-begins number (decimal number) rest (decimal-spelled number fits) ends,
  gap-line spaced,
  behind,
)
