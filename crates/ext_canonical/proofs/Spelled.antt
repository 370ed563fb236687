-- The bytes of a token in the canonical text spell it, and are the fewest that do.
use Rattle.std.specs.Prelude.{◌^◌, ◌/◌, ◌%◌, ◌-◌, ◌*◌, ◌<◌}
use Rattle.std.specs.Fmt.{decimal}
use Rattle.std.specs.List.{flat_map}
use Rattle.std.proofs.Common.{◌≡◌, ℕ, suc, ◌+◌, ◌≤◌, true, false, List, [], ◌∷◌, ◌++◌, inl, inr, length, length-append, refl, ap, ◌∙◌, arith}
use Rattle.std.proofs.Math.Nat.{pow-succ', mul-le-mul_right}
use Rattle.std.proofs.lemmas.Bool.{cases_lt, cases_Bool, and_parts}
use Rattle.std.proofs.lemmas.Bool.Decides.{nat_tests}
use Rattle.std.proofs.lemmas.Fmt.{length-decimal-le}
use Rattle.ext_mean.specs.declared.token.Token.{Token}
use Rattle.ext_mean.specs.declared.token.Token.TheVariants as token
use Rattle.ext_mean.specs.Bounds.{IsTooLong}
use Rattle.ext_mean.specs.Canonical.{shown_byte, token_bytes}
use Rattle.ext_mean.specs.Tokens.{is_plain, is_digit, is_numeral, all_pass, digits_from, escaped, IsInner, IsSpelling}
use Rattle.ext_mean.proofs.Numerals.{decimal-spelled}
use Rattle.ext_tokens.proofs.Spellings.{numeral-digits}

-- the bytes of a string

plain-shown : (item : ℕ) → is_plain item ≡ true → shown_byte item ≡ item ∷ []
plain-shown item plain = rw plain refl

escaped-shown : (item : ℕ) → is_plain item ≡ false → shown_byte item ≡ escaped (item / 16) (item % 16)
escaped-shown item other = rw other refl

-- an item that is not plain, by its two digits
hex-item : (item high low : ℕ) → high < 16 → low < 16 → item ≡ 16 * high + low → (item / 16 < 16) × (item ≡ 16 * (item / 16) + item % 16) × (item % 16 < 16)
hex-item item high low h l is = (omega arith, omega arith, omega arith)

abbrev shown_bytes : List ℕ → List ℕ
shown_bytes items = flat_map shown_byte items

items-cons : (item : ℕ) (items : List ℕ) (high low : ℕ) → high < 16 → low < 16 → item ≡ 16 * high + low → IsInner (shown_bytes items) items
    → IsInner (shown_bytes (item ∷ items)) (item ∷ items)
items-cons item items high low h l is more =
    elim (cases_Bool (is_plain item)) [
      | inl plain ↦ (shown_bytes items, inl (plain, ap (λ b. b ++ shown_bytes items) (plain-shown item plain)), more)
      | inr other ↦ (let (small, whole, small') = hex-item item high low h l is in (
        shown_bytes items,
        inr (item / 16, item % 16, small, small', whole, ap (λ b. b ++ shown_bytes items) (escaped-shown item other)),
        more,
      ))
    ]

pub items-inner : (inner items : List ℕ) → IsInner inner items → IsInner (shown_bytes items) items
items-inner inner [] inside = refl
items-inner inner (item ∷ items) (rest, inl (plain, is), more) =
    (shown_bytes items, inl (plain, ap (λ b. b ++ shown_bytes items) (plain-shown item plain)), items-inner rest items more)
items-inner inner (item ∷ items) (rest, inr (high, low, h, l, whole, is), more) =
    items-cons item items high low h l whole (items-inner rest items more)

shown-short : (item : ℕ) → length (shown_byte item) ≤ 4
shown-short item =
    elim (cases_Bool (is_plain item)) [
      | inl plain ↦ rw (plain-shown item plain) (omega arith)
      | inr other ↦ rw (escaped-shown item other) (omega arith)
    ]

items-short : (inner items : List ℕ) → IsInner inner items → length (shown_bytes items) ≤ length inner
items-short inner [] inside = omega arith
items-short inner (item ∷ items) (rest, inl (plain, is), more) =
    let others : length (shown_bytes items) ≤ length rest = items-short rest items more in
    let one : length (shown_byte item) ≡ 1 = ap length (plain-shown item plain) in
    omega (arith, length-append (shown_byte item) (shown_bytes items), ap length is)
items-short inner (item ∷ items) (rest, inr (high, low, h, l, whole, is), more) =
    let others : length (shown_bytes items) ≤ length rest = items-short rest items more in
    let one : length (shown_byte item) ≤ 4 = shown-short item in
    omega (arith, length-append (shown_byte item) (shown_bytes items), ap length is)

-- a number
small-number : (number : ℕ) → (IsTooLong (token.Number number) → ⊥) → number < 2 ^ 64
small-number number short =
    elim (cases_lt number (2 ^ 64)) [
      | inl small ↦ small
      | inr large ↦ absurd (short large)
    ]

digit-below : (digit : ℕ) → is_digit digit ≡ true → digit - 0x30 < 10
digit-below digit is = grind (arith, nat_tests)

digits-below : (before : ℕ) (digits : List ℕ) → all_pass is_digit digits ≡ true → digits_from before digits < (before + 1) * 10 ^ length digits
digits-below before [] all = omega arith
digits-below before (digit ∷ digits) all =
    let parts = and_parts (is_digit digit) (all_pass is_digit digits) all in
    let small = digit-below digit parts.0 in
    let next : ℕ = before * 10 + (digit - 0x30) in
    let more : digits_from next digits < (next + 1) * 10 ^ length digits = digits-below next digits parts.1 in
    let above : (next + 1) * 10 ^ length digits ≤ ((before + 1) * 10) * 10 ^ length digits =
    mul-le-mul_right (10 ^ length digits) (omega (arith, small)) in
    let power : 10 ^ suc (length digits) ≡ 10 * 10 ^ length digits = pow-succ' 10 (length digits) in
    let whole : (before + 1) * 10 ^ suc (length digits) ≡ ((before + 1) * 10) * 10 ^ length digits =
    ap (λ n. (before + 1) * n) power ∙ omega arith in
    omega (arith, more, above, whole)

numeral-some : (bytes : List ℕ) → is_numeral bytes ≡ true → 0 < length bytes
numeral-some [] numeral = absurd cc
numeral-some (digit ∷ digits) numeral = omega arith

number-short : (number : ℕ) (bytes : List ℕ) → number < 2 ^ 64 → is_numeral bytes ≡ true → number ≡ digits_from 0 bytes
    → length (decimal number) ≤ length bytes
number-short number bytes small numeral is =
    let below : digits_from 0 bytes < 1 * 10 ^ length bytes = digits-below 0 bytes (numeral-digits bytes numeral) in
    let below' : number < 10 ^ length bytes = omega (arith, below, is) in
    length-decimal-le (length bytes) number (numeral-some bytes numeral) below' small

-- any token
pub token-spelled : (which : Token) (bytes : List ℕ) → IsSpelling bytes which → (IsTooLong which → ⊥) → IsSpelling (token_bytes which) which
token-spelled (token.Word word) bytes spelled short = refl
token-spelled (token.Name name) bytes spelled short = (spelled.0, refl)
token-spelled (token.Number number) bytes spelled short =
    let it = decimal-spelled number (small-number number short) in (it.numeral, it.value)
token-spelled (token.Str items) bytes (inner, inside, is) short = (shown_bytes items, items-inner inner items inside, refl)
token-spelled (token.Mark mark) bytes spelled short = refl
token-spelled token.Not bytes spelled short = refl
token-spelled (token.Binary operator) bytes spelled short = refl

pub token-short : (which : Token) (bytes : List ℕ) → IsSpelling bytes which → (IsTooLong which → ⊥) → length (token_bytes which) ≤ length bytes
token-short (token.Word word) bytes spelled short = omega (arith, ap length spelled)
token-short (token.Name name) bytes spelled short = omega (arith, ap length spelled.1)
token-short (token.Number number) bytes spelled short = number-short number bytes (small-number number short) spelled.0 spelled.1
token-short (token.Str items) bytes (inner, inside, is) short =
    let within = items-short inner items inside in
    omega (arith, within, ap length is, length-append inner (0x22 ∷ []), length-append (shown_bytes items) (0x22 ∷ []))
token-short (token.Mark mark) bytes spelled short = omega (arith, ap length spelled)
token-short token.Not bytes spelled short = omega (arith, ap length spelled)
token-short (token.Binary operator) bytes spelled short = omega (arith, ap length spelled)
