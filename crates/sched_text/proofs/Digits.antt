-- Digits that are read one after the other.
use Rattle.std.proofs.Common.{◌≡◌, ℕ, ◌+◌, ◌*◌, ◌<◌, ◌≤◌, true, false, cond, leb, List, [], ◌∷◌, Option, Some, None, ◌⊎◌, inl, inr, refl, sym, ◌∙◌, arith}
use Rattle.std.proofs.lemmas.Bool.{le-leb, lt-leb, leb-false, cases_lt}
use Rattle.sched_text.specs.Reading.{digits_within}
use Rattle.sched_text.specs.Fields.{digit_value, digits_behind, at_most, next_digit}

pub option_cases : {A : Type 0} (o : Option A) → (o ≡ None) ⊎ ((x : A) × (o ≡ Some x))
option_cases None = inl refl
option_cases (Some x) = inr (x, refl)

-- further digits leave no smaller number
pub grown : (text : List ℕ) (value number : ℕ) → digits_behind value text ≡ Some number → value ≤ number
grown [] value number e = let same : value ≡ number = cc in omega arith
grown (byte ∷ text) value number e =
    elim (option_cases (digit_value byte)) [
      | inl none ↦ let f : None ≡ Some number = rw none at e in absurd cc
      | inr some ↦
          let f : digits_behind (10 * value + some.0) text ≡ Some number = rw some.1 at e in
          let more = grown text (10 * value + some.0) number f in
          omega arith
    ]

above : (most number : ℕ) → most < number → at_most most (Some number) ≡ None
above most number h = let e : leb number most ≡ false = lt-leb number most h in rw e refl

-- a value above the most stays so
too_much : (text : List ℕ) (most value : ℕ) → most < value → at_most most (digits_behind value text) ≡ None
too_much text most value h =
    elim (option_cases (digits_behind value text)) [
      | inl none ↦ rw none refl
      | inr some ↦ let more = grown text value some.0 some.1 in rw some.1 (above most some.0 (omega arith))
    ]

no_less : (number most : ℕ) → at_most most (Some number) ≡ None → leb number most ≡ false
no_less number most e = elim (cases_lt most number) [
  | inl lt ↦ lt-leb number most lt
  | inr le ↦ let t : leb number most ≡ true = le-leb number most le in let f : Some number ≡ None = rw t at e in absurd cc
]

within : (number most more : ℕ) → at_most most (Some number) ≡ Some more → number ≡ more
within number most more e = elim (leb number most) as (λ b. cond b (Some number) None ≡ Some more → number ≡ more) [ true ↦ λ h. cc | false ↦ λ h. absurd cc ] e

at_most_small : (number most more : ℕ) → at_most most (Some number) ≡ Some more → more ≤ most
at_most_small number most more e =
    elim (cases_lt most number) [
      | inl lt ↦ let t : leb number most ≡ false = lt-leb number most lt in let f : None ≡ Some more = rw t at e in absurd cc
      | inr le ↦ let same : number ≡ more = within number most more e in omega arith
    ]

next_small : (most value byte more : ℕ) → next_digit most value byte ≡ Some more → more ≤ most
unfolding next_digit
next_small most value byte more e =
    elim (option_cases (digit_value byte)) [
      | inl none ↦ let f : None ≡ Some more = rw none at e in absurd cc
      | inr some ↦ at_most_small (10 * value + some.0) most more (rw some.1 at e)
    ]

-- the next digit ends it, or goes on
stops : (text : List ℕ) (most value byte : ℕ) → next_digit most value byte ≡ None → at_most most (digits_behind value (byte ∷ text)) ≡ None
unfolding next_digit
stops text most value byte e =
    elim (option_cases (digit_value byte)) [
      | inl none ↦ rw none refl
      | inr some ↦
          let f : at_most most (Some (10 * value + some.0)) ≡ None = rw some.1 at e in
          let test : leb (10 * value + some.0) most ≡ false = no_less (10 * value + some.0) most f in
          rw some.1 (too_much text most (10 * value + some.0) (omega (arith, leb-false (10 * value + some.0) most test)))
    ]

goes_on : (text : List ℕ) (most value byte more : ℕ) → next_digit most value byte ≡ Some more → at_most most (digits_behind value (byte ∷ text)) ≡ at_most most (digits_behind more text)
unfolding next_digit
goes_on text most value byte more e =
    elim (option_cases (digit_value byte)) [
      | inl none ↦ let f : None ≡ Some more = rw none at e in absurd cc
      | inr some ↦
          let f : at_most most (Some (10 * value + some.0)) ≡ Some more = rw some.1 at e in
          let same : 10 * value + some.0 ≡ more = within (10 * value + some.0) most more f in
          rw some.1 (rw same refl)
    ]

-- read no further than to the most, and compared with the most at the end
pub within_is : (most value : ℕ) (text : List ℕ) → value ≤ most → digits_within most value text ≡ at_most most (digits_behind value text)
within_is most value [] h = let t : leb value most ≡ true = le-leb value most h in rw t refl
within_is most value (byte ∷ text) h =
    elim (option_cases (next_digit most value byte)) [
      | inl none ↦ rw none (sym (stops text most value byte none))
      | inr some ↦
          let small : some.0 ≤ most = next_small most value byte some.0 some.1 in
          rw some.1 (within_is most some.0 text small ∙ sym (goes_on text most value byte some.0 some.1))
    ]
