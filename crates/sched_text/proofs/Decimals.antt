-- A field spells a number just if it is that number in decimal.
use Rattle.std.proofs.Common.{◌≡◌, ◌≢◌, ℕ, zero, suc, ◌+◌, ◌-◌, ◌*◌, ◌/◌, ◌%◌, ◌^◌, ◌<◌, ◌≤◌, Bool, true, false, cond, ltb, List, [], ◌∷◌, ◌++◌, Option, Some, None, refl, sym, ap, ◌∙◌, append_assoc, inl, inr, arith}
use Rattle.std.specs.Fmt.{decimal}
use Rattle.std.proofs.lemmas.Bool.{eq-eqb, ne_eqb, ltb-false, le-ltb}
use Rattle.std.proofs.lemmas.List.{append-nil}
use Rattle.std.proofs.lemmas.Fmt.{decimal_digit, decimal_step, decimal_by_steps}
use Rattle.std.proofs.lemmas.Option.{same_Some}
use Rattle.sched_text.specs.Fields.{digit_value, digits_behind, has_leading_zero, number_of}
use Rattle.sched_text.specs.Laws.{NumbersAreDecimal}
use Rattle.sched_text.proofs.Digits.{option_cases, grown}

pub cond_none : {A : Type 0} (b : Bool) (o : Option A) (y : A) → cond b None o ≡ Some y → (b ≡ false) × (o ≡ Some y)
cond_none true o y e = absurd cc
cond_none false o y e = (refl, e)

pub digit_is : (byte digit : ℕ) → digit_value byte ≡ Some digit → (byte ≡ 48 + digit) × (digit < 10)
unfolding digit_value
digit_is byte digit e =
    let a = cond_none (ltb byte 48) (cond (ltb 57 byte) None (Some (byte - 48))) digit e in
    let b = cond_none (ltb 57 byte) (Some (byte - 48)) digit a.1 in
    let d : byte - 48 ≡ digit = same_Some (byte - 48) digit b.1 in
    let low : 48 ≤ byte = ltb-false byte 48 a.0 in
    let high : byte ≤ 57 = ltb-false 57 byte b.0 in
    (omega arith, omega arith)

pub digit_again : (digit : ℕ) → digit < 10 → digit_value (48 + digit) ≡ Some digit
unfolding digit_value
digit_again digit small =
    let low : ltb (48 + digit) 48 ≡ false = le-ltb (48 + digit) 48 (omega arith) in
    let high : ltb 57 (48 + digit) ≡ false = le-ltb 57 (48 + digit) (omega arith) in
    let same : 48 + digit - 48 ≡ digit = omega arith in
    rw (low, high, same) refl

-- ---- what is read is written so

-- one more digit in the text, or in the number
digit_moves : (value digit : ℕ) (text : List ℕ) → 0 < value → digit < 10 → 10 * value + digit < 2 ^ 64 → decimal (10 * value + digit) ++ text ≡ decimal value ++ (48 + digit) ∷ text
digit_moves value digit text pos small fits =
    let q : (10 * value + digit) / 10 ≡ value = omega arith in
    let r : (10 * value + digit) % 10 ≡ digit = omega arith in
    let ten : 10 ≤ 10 * value + digit = omega arith in
    let e : decimal (10 * value + digit) ≡ decimal value ++ (48 + digit) ∷ [] = decimal_step (10 * value + digit) ten fits ∙ rw (q, r) refl in
    rw e (append_assoc (decimal value) ((48 + digit) ∷ []) text)

behind_value : (text : List ℕ) (value number : ℕ) → 0 < value → number < 2 ^ 64 → digits_behind value text ≡ Some number → decimal number ≡ decimal value ++ text
behind_value [] value number pos small e = let same : value ≡ number = same_Some value number e in rw same (sym (append-nil (decimal number)))
behind_value (byte ∷ text) value number pos small e =
    elim (option_cases (digit_value byte)) [
      | inl none ↦ let f : None ≡ Some number = rw none at e in absurd cc
      | inr some ↦
          let f : digits_behind (10 * value + some.0) text ≡ Some number = rw some.1 at e in
          let d = digit_is byte some.0 some.1 in
          let more = grown text (10 * value + some.0) number f in
          behind_value text (10 * value + some.0) number (omega arith) small f
          ∙ digit_moves value some.0 text pos d.1 (omega (arith, more, small))
          ∙ ap (λ (b : ℕ). decimal value ++ b ∷ text) (sym d.0)
    ]

after_zero : (byte : ℕ) (more : List ℕ) → byte ≡ 48 → has_leading_zero (byte ∷ more) ≡ false → more ≡ []
after_zero byte [] is e = refl
after_zero byte (next ∷ more) is e = let t = eq-eqb byte 48 is in absurd cc

read_first : (byte digit number : ℕ) (more : List ℕ) → digit_value byte ≡ Some digit → has_leading_zero (byte ∷ more) ≡ false → number < 2 ^ 64 → digits_behind digit more ≡ Some number → byte ∷ more ≡ decimal number
read_first byte zero number more e lead small f =
    let d = digit_is byte 0 e in
    let none = after_zero byte more (omega (arith, d.0)) lead in
    let g : digits_behind 0 [] ≡ Some number = rw none at f in
    let same : 0 ≡ number = same_Some 0 number g in
    rw (none, d.0, ← same) (sym (decimal_digit 0 (omega arith)))
read_first byte (suc digit) number more e lead small f =
    let d = digit_is byte (suc digit) e in
    rw d.0 (ap (λ (l : List ℕ). l ++ more) (sym (decimal_digit (suc digit) d.1)) ∙ sym (behind_value more (suc digit) number (omega arith) small f))

pub number_read : (field : List ℕ) (number : ℕ) → number < 2 ^ 64 → number_of field ≡ Some number → field ≡ decimal number
number_read [] number small e = absurd cc
number_read (byte ∷ more) number small e =
    let a = cond_none (has_leading_zero (byte ∷ more)) (digits_behind 0 (byte ∷ more)) number e in
    elim (option_cases (digit_value byte)) [
      | inl none ↦ let f : None ≡ Some number = rw none at a.1 in absurd cc
      | inr some ↦
          let f : digits_behind (10 * 0 + some.0) more ≡ Some number = rw some.1 at a.1 in
          let sum : 10 * 0 + some.0 ≡ some.0 = omega arith in
          read_first byte some.0 number more some.1 a.0 small (rw sum at f)
    ]

-- ---- what is written is read again

-- no zero is in front
abbrev Leads : List ℕ → Type 0
Leads [] = ⊥
Leads (byte ∷ more) = byte ≢ 48

record Spelled (number : ℕ) (digits : List ℕ) : Type 0 where
  value : digits_behind 0 digits ≡ Some number
  clean : has_leading_zero digits ≡ false
  some : digits ≢ []
  leads : 1 ≤ number → Leads digits

digit_added : (digits : List ℕ) (value number digit : ℕ) → digit < 10 → digits_behind value digits ≡ Some number → digits_behind value (digits ++ (48 + digit) ∷ []) ≡ Some (10 * number + digit)
digit_added [] value number digit small e =
    let same : value ≡ number = same_Some value number e in
    let t = digit_again digit small in
    rw (t, same) refl
digit_added (byte ∷ digits) value number digit small e =
    elim (option_cases (digit_value byte)) [
      | inl none ↦ let f : None ≡ Some number = rw none at e in absurd cc
      | inr some ↦
          let f : digits_behind (10 * value + some.0) digits ≡ Some number = rw some.1 at e in
          rw some.1 (digit_added digits (10 * value + some.0) number digit small f)
    ]

spelled_one : (number : ℕ) → number < 10 → Spelled number ((48 + number) ∷ [])
spelled_one number small =
    let t = digit_again number small in
    let sum : 10 * 0 + number ≡ number = omega arith in
    record { value = rw (t, sum) refl; clean = refl; some = λ e. absurd cc; leads = λ h e. absurd (omega (arith, e)) }

leads_on : (digits : List ℕ) (byte : ℕ) → Leads digits → Leads (digits ++ byte ∷ [])
leads_on [] byte leads = absurd leads
leads_on (first ∷ digits) byte leads = leads

clean_on : (digits : List ℕ) → Leads digits → has_leading_zero digits ≡ false
clean_on [] leads = absurd leads
clean_on (first ∷ []) leads = refl
clean_on (first ∷ second ∷ digits) leads = ne_eqb first 48 leads

not_empty : (digits : List ℕ) (byte : ℕ) → digits ++ byte ∷ [] ≢ []
not_empty [] byte e = absurd cc
not_empty (first ∷ digits) byte e = absurd cc

spelled_more : (number : ℕ) (digits : List ℕ) → 10 ≤ number → Spelled (number / 10) digits → Spelled number (digits ++ (48 + number % 10) ∷ [])
spelled_more number digits ten front =
    let leads = leads_on digits (48 + number % 10) (front.leads (omega arith)) in
    let sum : 10 * (number / 10) + number % 10 ≡ number = omega arith in
    record {
      value = digit_added digits 0 (number / 10) (number % 10) (omega arith) front.value ∙ ap Some sum;
      clean = clean_on (digits ++ (48 + number % 10) ∷ []) leads;
      some = not_empty digits (48 + number % 10);
      leads = λ _. leads;
    }

spelled_is : (digits : List ℕ) (number : ℕ) → Spelled number digits → number_of digits ≡ Some number
spelled_is [] number spelled = absurd (spelled.some refl)
spelled_is (byte ∷ more) number spelled = let t = spelled.clean in rw t spelled.value

pub number_again : (number : ℕ) → number < 2 ^ 64 → number_of (decimal number) ≡ Some number
number_again number small = spelled_is (decimal number) number (decimal_by_steps Spelled spelled_one spelled_more number small)

pub numbers_are_decimal : NumbersAreDecimal
numbers_are_decimal field number small = (number_read field number small, λ e. rw e (number_again number small))
