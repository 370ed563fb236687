-- A field spells bytes just if it is `x` and two digits for each of them.
use Rattle.std.proofs.Common.{◌≡◌, ℕ, ◌+◌, ◌-◌, ◌*◌, ◌/◌, ◌%◌, ◌<◌, ◌≤◌, true, false, cond, ltb, eqb, List, [], ◌∷◌, Some, None, refl, sym, ap, subst, ◌∙◌, inl, inr, arith}
use Rattle.std.specs.Prelude.{option_map}
use Rattle.std.specs.List.{flat_map}
use Rattle.std.proofs.lemmas.Bool.{cases_lt, cases_eq, eq-eqb, ne_eqb, ltb-false, lt-ltb, le-ltb}
use Rattle.std.proofs.lemmas.Option.{same_Some}
use Rattle.sp_base.specs.Fields.{AreBytes, hex_digit, hex_pair, byte_field}
use Rattle.sched_text.specs.Fields.{digit_value, letter_value, hex_value, byte_of, pairs_of, bytes_of}
use Rattle.sched_text.specs.Laws.{BytesArePairs}
use Rattle.sched_text.proofs.Digits.{option_cases}
use Rattle.sched_text.proofs.Decimals.{cond_none, digit_is, digit_again}

letter_is : (byte value : ℕ) → letter_value byte ≡ Some value → (byte ≡ 87 + value) × (10 ≤ value) × (value < 16)
letter_is byte value e =
    let a = cond_none (ltb byte 97) (cond (ltb 102 byte) None (Some (byte - 87))) value e in
    let b = cond_none (ltb 102 byte) (Some (byte - 87)) value a.1 in
    let d : byte - 87 ≡ value = same_Some (byte - 87) value b.1 in
    let low : 97 ≤ byte = ltb-false byte 97 a.0 in
    let high : byte ≤ 102 = ltb-false 102 byte b.0 in
    (omega arith, omega arith, omega arith)

pub hex_low : (value : ℕ) → value < 10 → hex_digit value ≡ 48 + value
hex_low value lt = let test : ltb value 10 ≡ true = lt-ltb value 10 lt in rw test refl

pub hex_high : (value : ℕ) → 10 ≤ value → hex_digit value ≡ 87 + value
hex_high value le = let test : ltb value 10 ≡ false = le-ltb value 10 le in rw test refl

hex_is : (byte value : ℕ) → hex_value byte ≡ Some value → (byte ≡ hex_digit value) × (value < 16)
unfolding hex_value
hex_is byte value e =
    elim (option_cases (digit_value byte)) [
      | inl none ↦
          let letter : letter_value byte ≡ Some value = rw none at e in
          let l = letter_is byte value letter in
          (l.0 ∙ sym (hex_high value l.1), l.2)
      | inr some ↦
          let found : Some some.0 ≡ Some value = rw some.1 at e in
          let same : some.0 ≡ value = same_Some some.0 value found in
          let d = digit_is byte some.0 some.1 in
          let lt : value < 10 = omega (arith, d.1) in
          let is : byte ≡ 48 + value = omega (arith, d.0) in
          (is ∙ sym (hex_low value lt), omega arith)
    ]

no_digit_letter : (value : ℕ) → 10 ≤ value → digit_value (87 + value) ≡ None
unfolding digit_value
no_digit_letter value le =
    let low : ltb (87 + value) 48 ≡ false = le-ltb (87 + value) 48 (omega arith) in
    let high : ltb 57 (87 + value) ≡ true = lt-ltb 57 (87 + value) (omega arith) in
    rw (low, high) refl

letter_again : (value : ℕ) → 10 ≤ value → value < 16 → letter_value (87 + value) ≡ Some value
letter_again value le lt =
    let low : ltb (87 + value) 97 ≡ false = le-ltb (87 + value) 97 (omega arith) in
    let high : ltb 102 (87 + value) ≡ false = le-ltb 102 (87 + value) (omega arith) in
    let same : 87 + value - 87 ≡ value = omega arith in
    rw (low, high, same) refl

hex_of_digit : (byte value : ℕ) → digit_value byte ≡ Some value → hex_value byte ≡ Some value
unfolding hex_value
hex_of_digit byte value e = rw e refl

hex_of_letter : (byte : ℕ) → digit_value byte ≡ None → hex_value byte ≡ letter_value byte
unfolding hex_value
hex_of_letter byte e = rw e refl

hex_again : (value : ℕ) → value < 16 → hex_value (hex_digit value) ≡ Some value
hex_again value small =
    elim (cases_lt value 10) [
      | inl lt ↦ ap hex_value (hex_low value lt) ∙ hex_of_digit (48 + value) value (digit_again value lt)
      | inr le ↦ ap hex_value (hex_high value le) ∙ hex_of_letter (87 + value) (no_digit_letter value le) ∙ letter_again value le small
    ]

-- ---- one byte

-- the digits of a byte
record Digits (high low byte : ℕ) : Type 0 where
  high_is : high ≡ hex_digit (byte / 16)
  low_is : low ≡ hex_digit (byte % 16)
  small : byte < 256

byte_is : (high low byte : ℕ) → byte_of high low ≡ Some byte → Digits high low byte
unfolding byte_of
byte_is high low byte e =
    elim (option_cases (hex_value high)) [
      | inl none ↦ let f : None ≡ Some byte = rw none at e in absurd cc
      | inr x ↦
          let f : option_map (λ y. 16 * x.0 + y) (hex_value low) ≡ Some byte = rw x.1 at e in
          elim (option_cases (hex_value low)) [
            | inl none ↦ let g : None ≡ Some byte = rw none at f in absurd cc
            | inr y ↦
                let g : Some (16 * x.0 + y.0) ≡ Some byte = rw y.1 at f in
                let sum : 16 * x.0 + y.0 ≡ byte = same_Some (16 * x.0 + y.0) byte g in
                let h = hex_is high x.0 x.1 in
                let l = hex_is low y.0 y.1 in
                let q : x.0 ≡ byte / 16 = omega (arith, l.1) in
                let r : y.0 ≡ byte % 16 = omega (arith, l.1) in
                record { high_is = h.0 ∙ ap hex_digit q; low_is = l.0 ∙ ap hex_digit r; small = omega (arith, h.1, l.1) }
          ]
    ]

byte_again : (byte : ℕ) → byte < 256 → byte_of (hex_digit (byte / 16)) (hex_digit (byte % 16)) ≡ Some byte
unfolding byte_of
byte_again byte small =
    let high = hex_again (byte / 16) (omega arith) in
    let low = hex_again (byte % 16) (omega arith) in
    let sum : 16 * (byte / 16) + byte % 16 ≡ byte = omega arith in
    rw (high, low, sum) refl

-- ---- bytes

pairs_read : (text bytes : List ℕ) → pairs_of text ≡ Some bytes → AreBytes bytes × (text ≡ flat_map hex_pair bytes)
pairs_read [] bytes e = let same : [] ≡ bytes = same_Some [] bytes e in subst (λ (b : List ℕ). AreBytes b × ([] ≡ flat_map hex_pair b)) same (tt, refl)
pairs_read (high ∷ []) bytes e = absurd cc
pairs_read (high ∷ low ∷ text) bytes e =
    elim (option_cases (byte_of high low)) [
      | inl none ↦ let f : None ≡ Some bytes = rw none at e in absurd cc
      | inr byte ↦
          let f : option_map (λ more. byte.0 ∷ more) (pairs_of text) ≡ Some bytes = rw byte.1 at e in
          elim (option_cases (pairs_of text)) [
            | inl none ↦ let g : None ≡ Some bytes = rw none at f in absurd cc
            | inr more ↦
                let g : Some (byte.0 ∷ more.0) ≡ Some bytes = rw more.1 at f in
                let same : byte.0 ∷ more.0 ≡ bytes = same_Some (byte.0 ∷ more.0) bytes g in
                let d = byte_is high low byte.0 byte.1 in
                let rest = pairs_read text more.0 more.1 in
                let text_is : high ∷ low ∷ text ≡ hex_digit (byte.0 / 16) ∷ hex_digit (byte.0 % 16) ∷ flat_map hex_pair more.0 =
                ap (λ (h : ℕ). h ∷ low ∷ text) d.high_is ∙ ap (λ (l : ℕ). hex_digit (byte.0 / 16) ∷ l ∷ text) d.low_is
                ∙ ap (λ (t : List ℕ). hex_digit (byte.0 / 16) ∷ hex_digit (byte.0 % 16) ∷ t) rest.1 in
                subst (λ (b : List ℕ). AreBytes b × (high ∷ low ∷ text ≡ flat_map hex_pair b)) same ((d.small, rest.0), text_is)
          ]
    ]

pairs_again : (bytes : List ℕ) → AreBytes bytes → pairs_of (flat_map hex_pair bytes) ≡ Some bytes
pairs_again [] are = refl
pairs_again (byte ∷ bytes) are =
    let one = byte_again byte are.0 in
    let more = pairs_again bytes are.1 in
    rw (one, more) refl

bytes_read : (field bytes : List ℕ) → bytes_of field ≡ Some bytes → AreBytes bytes × (field ≡ byte_field bytes)
bytes_read [] bytes e = absurd cc
bytes_read (first ∷ digits) bytes e =
    elim (cases_eq first 120) [
      | inl is ↦
          let t : eqb first 120 ≡ true = eq-eqb first 120 is in
          let f : pairs_of digits ≡ Some bytes = rw t at e in
          let read = pairs_read digits bytes f in
          (read.0, ap (λ (b : ℕ). b ∷ digits) is ∙ ap (λ (t : List ℕ). 120 ∷ t) read.1)
      | inr other ↦
          let t : eqb first 120 ≡ false = ne_eqb first 120 other in
          let f : None ≡ Some bytes = rw t at e in absurd cc
    ]

pub bytes_are_pairs : BytesArePairs
bytes_are_pairs field bytes = (bytes_read field bytes, λ (are, e). rw e (pairs_again bytes are))
