-- No text of a program is shorter than its canonical text.
use Rattle.std.specs.Prelude.{if◌then◌else◌}
use Rattle.std.proofs.Common.{◌≡◌, ℕ, ◌+◌, ◌≤◌, Bool, true, false, ◌&&◌, List, [], ◌∷◌, ◌++◌, inl, inr, Some, length, length-append, refl, sym, ap, ◌∙◌, arith}
use Rattle.ext_mean.specs.declared.token.Token.{Token}
use Rattle.ext_mean.specs.declared.token.Placed.{Placed}
use Rattle.ext_mean.specs.Bounds.{IsTooLong, open_with}
use Rattle.ext_mean.specs.Canonical.{token_bytes, is_wordy, written}
use Rattle.ext_mean.specs.Tokens.{IsSpelling, BeginsWith, Tokens, tokens_of}
use Rattle.ext_mean.specs.Wording.{Slot, slot_tokens}
use Rattle.ext_tokens.specs.declared.lexeme.Class.{Class}
use Rattle.ext_tokens.specs.Lexemes.{class_of, front_class}
use Rattle.ext_tokens.proofs.Spellings.{spelling-front}
use Rattle.ext_canonical.proofs.Ends.{named, wordy-ends, wordy-begins}
use Rattle.ext_canonical.proofs.Pruned.{Pruned}
use Rattle.ext_canonical.proofs.Spelled.{token-spelled, token-short}

-- each of these tokens has a byte
abbrev pub AreSome : List Token → Type 0
AreSome [] = Unit {0}
AreSome (next ∷ more) = (1 ≤ length (token_bytes next)) × AreSome more

-- the space between two tokens, if one stands there
abbrev pub space : Bool → Bool → List ℕ
space before next = if before && next then (0x20 ∷ []) else []

-- what a space costs where the token before is a word, but in the longer text is not
abbrev pub cost : Bool → Bool → ℕ
cost true false = 1
cost before other = 0

space-cost : (before other next : Bool) → length (space before next) ≤ length (space other next) + cost before other
space-cost true true true = omega arith
space-cost true true false = omega arith
space-cost true false true = omega arith
space-cost true false false = omega arith
space-cost false true true = omega arith
space-cost false true false = omega arith
space-cost false false true = omega arith
space-cost false false false = omega arith

cost-same : (before : Bool) → cost before before ≡ 0
cost-same true = refl
cost-same false = refl

cost-one : (before other : Bool) → cost before other ≤ 1
cost-one true true = omega arith
cost-one true false = omega arith
cost-one false true = omega arith
cost-one false false = omega arith

written-length : (before : Bool) (next : Token) (more : List Token)
    → length (written before (next ∷ more))
    ≡ length (space before (is_wordy next)) + (length (token_bytes next) + length (written (is_wordy next) more))
written-length before next more =
    omega (
      arith,
      length-append (space before (is_wordy next)) (token_bytes next ++ written (is_wordy next) more),
      length-append (token_bytes next) (written (is_wordy next) more),
    )

-- tokens of which some are left out
pub left-shorter : (few many : ℕ) (left whole : List Slot) (before other : Bool) → Pruned few many left whole → AreSome (slot_tokens whole)
    → length (written before (slot_tokens left)) ≤ length (written other (slot_tokens whole)) + cost before other
left-shorter few many left [] before other none some =
    let is : length (written before (slot_tokens left)) ≡ 0 = ap (λ them. length (written before (slot_tokens them))) none in
    omega (arith, is)
left-shorter few many left (next ∷ whole) before other (inl (more, is, fits, pruned)) some =
    let w : Bool = is_wordy next.token in
    let one = written-length before next.token (slot_tokens more) in
    let two = written-length other next.token (slot_tokens whole) in
    let rest = left-shorter (open_with few next.token) (open_with many next.token) more whole w w pruned some.1 in
    let none = cost-same w in
    let spaces = space-cost before other w in
    let same : length (written before (slot_tokens left)) ≡ length (written before (next.token ∷ slot_tokens more)) =
    ap (λ them. length (written before (slot_tokens them))) is in
    omega (arith, one, two, rest, none, spaces, same)
left-shorter few many left (next ∷ whole) before other (inr (drop, pruned)) some =
    let w : Bool = is_wordy next.token in
    let two = written-length other next.token (slot_tokens whole) in
    let rest = left-shorter few (open_with many next.token) left whole before w pruned some.1 in
    let most = cost-one before w in
    let filled = some.0 in
    omega (arith, two, rest, most, filled)

-- no token is too long
abbrev pub AreShort : List Token → Type 0
AreShort [] = Unit {0}
AreShort (next ∷ more) = (IsTooLong next → ⊥) × AreShort more

-- a space stands in the text too, where two words would join
spaced : (before next : Bool) (gap bytes behind : List ℕ) (which : Token) → is_wordy which ≡ next → IsSpelling bytes which
    → (before ≡ true → named (gap ++ (bytes ++ behind)) ≡ false) → length (space before next) ≤ length gap
spaced true true [] bytes behind which wordy spelled ends =
    let clash : true ≡ false = sym (wordy-begins bytes behind which wordy spelled) ∙ ends refl in
    absurd cc
spaced true true (byte ∷ gap) bytes behind which wordy spelled ends = omega arith
spaced true false gap bytes behind which wordy spelled ends = omega arith
spaced false true gap bytes behind which wordy spelled ends = omega arith
spaced false false gap bytes behind which wordy spelled ends = omega arith

pub text-longer : (text rest : List ℕ) (line : ℕ) (placed : List Placed) (before : Bool) → Tokens text line placed rest
    → AreShort (tokens_of placed) → (before ≡ true → named text ≡ false)
    → length (written before (tokens_of placed)) + length rest ≤ length text
text-longer text rest line [] before is short ends = omega (arith, ap length is)
text-longer text rest line (placed ∷ more) before (gap, bytes, behind, is_gap, whole, begins, line-is, is) short ends =
    let w : Bool = is_wordy placed.token in
    let one = written-length before placed.token (tokens_of more) in
    let fits = token-short placed.token bytes begins.spelled short.0 in
    let spaces = spaced before w gap bytes behind placed.token refl begins.spelled (λ wordy. ap named (sym whole) ∙ ends wordy) in
    let others = text-longer behind rest placed.line more w is short.1 (λ wordy. wordy-ends bytes behind placed.token wordy begins) in
    omega (arith, one, fits, spaces, others, ap length whole, length-append gap (bytes ++ behind), length-append bytes behind)

-- a spelling has a byte
pub front-filled : (bytes : List ℕ) (which : Class) → front_class bytes ≡ Some which → 1 ≤ length bytes
front-filled [] which front = absurd cc
front-filled (byte ∷ bytes) which front = omega arith

some-bytes : (bytes behind : List ℕ) (which : Token) → BeginsWith (bytes ++ behind) bytes which behind → (IsTooLong which → ⊥)
    → 1 ≤ length (token_bytes which)
some-bytes bytes behind which begins short =
    front-filled (token_bytes which) (class_of which)
    (spelling-front which (token_bytes which) (token-spelled which bytes begins.spelled short))

pub tokens-some : (text rest : List ℕ) (line : ℕ) (placed : List Placed) → Tokens text line placed rest → AreShort (tokens_of placed) → AreSome (tokens_of placed)
tokens-some text rest line [] is short = tt
tokens-some text rest line (placed ∷ more) (gap, bytes, behind, is_gap, whole, begins, line-is, is) short =
    (some-bytes bytes behind placed.token begins short.0, tokens-some behind rest placed.line more is short.1)
