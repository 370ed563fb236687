-- A number's decimal digits spell it.
use Rattle.std.specs.Fmt.{decimal}
use Rattle.std.proofs.Common.{◌≡◌, ℕ, ◌+◌, ◌-◌, ◌*◌, ◌/◌, ◌%◌, ◌^◌, ◌<◌, ◌≤◌, Bool, true, false, List, [], ◌∷◌, ◌++◌, refl, arith}
use Rattle.std.proofs.lemmas.Bool.Decides.{nat_tests}
use Rattle.std.proofs.lemmas.Fmt.{decimal_by_steps}
use Rattle.ext_mean.specs.Tokens.{is_digit, is_within, is_numeral, all_pass, digits_from}
use Rattle.ext_mean.proofs.Pieces.{and-both}
use Rattle.ext_mean.proofs.TokenEnds.{both-true}

-- digits that do not begin with 0
abbrev leads : List ℕ → Bool
leads [] = false
leads (digit ∷ digits) = is_within 0x31 0x39 digit

pub record Spelled (number : ℕ) (digits : List ℕ) : Type 0 where
  pub numeral : is_numeral digits ≡ true
  pub all : all_pass is_digit digits ≡ true
  pub value : number ≡ digits_from 0 digits
  pub leading : 0 < number → leads digits ≡ true

digit-of : (digit : ℕ) → digit < 10 → is_digit (48 + digit) ≡ true
digit-of digit small = grind (arith, nat_tests)

leading-of : (digit : ℕ) → 0 < digit → digit < 10 → is_within 0x31 0x39 (48 + digit) ≡ true
leading-of digit some small = grind (arith, nat_tests)

spelled-one : (number : ℕ) → number < 10 → Spelled number ((48 + number) ∷ [])
spelled-one number small = record {
  numeral = digit-of number small;
  all = both-true (is_digit (48 + number)) true (digit-of number small) refl;
  value = omega arith;
  leading = λ some. leading-of number some small;
}

all-behind : (digits : List ℕ) (digit : ℕ) → all_pass is_digit digits ≡ true → is_digit digit ≡ true → all_pass is_digit (digits ++ digit ∷ []) ≡ true
all-behind [] digit all one = both-true (is_digit digit) true one refl
all-behind (first ∷ digits) digit all one =
    let parts = and-both (is_digit first) (all_pass is_digit digits) all in
    both-true (is_digit first) (all_pass is_digit (digits ++ digit ∷ [])) parts.0 (all-behind digits digit parts.1 one)

value-behind : (before : ℕ) (digits : List ℕ) (digit : ℕ) → digits_from before (digits ++ digit ∷ []) ≡ digits_from before digits * 10 + (digit - 0x30)
value-behind before [] digit = refl
value-behind before (first ∷ digits) digit = value-behind (before * 10 + (first - 0x30)) digits digit

numeral-behind : (digits : List ℕ) (digit : ℕ) → leads digits ≡ true → all_pass is_digit digits ≡ true → is_digit digit ≡ true → is_numeral (digits ++ digit ∷ []) ≡ true
numeral-behind [] digit leading all one = absurd (let clash : false ≡ true = leading in cc)
numeral-behind (first ∷ []) digit leading all one =
    both-true (is_within 0x31 0x39 first) (all_pass is_digit (digit ∷ [])) leading (all-behind [] digit refl one)
numeral-behind (first ∷ next ∷ digits) digit leading all one =
    let parts = and-both (is_digit first) (all_pass is_digit (next ∷ digits)) all in
    both-true (is_within 0x31 0x39 first) (all_pass is_digit ((next ∷ digits) ++ digit ∷ [])) leading (all-behind (next ∷ digits) digit parts.1 one)

leads-behind : (digits : List ℕ) (digit : ℕ) → leads digits ≡ true → leads (digits ++ digit ∷ []) ≡ true
leads-behind [] digit leading = absurd (let clash : false ≡ true = leading in cc)
leads-behind (first ∷ digits) digit leading = leading

spelled-more : (number : ℕ) (digits : List ℕ) → 10 ≤ number → Spelled (number / 10) digits → Spelled number (digits ++ ((48 + number % 10) ∷ []))
spelled-more number digits ten front =
    let some : 0 < number / 10 = omega arith in
    let leading = front.leading some in
    let last = digit-of (number % 10) (omega arith) in
    let value = value-behind 0 digits (48 + number % 10) in
    let before = front.value in
    record {
      numeral = numeral-behind digits (48 + number % 10) leading front.all last;
      all = all-behind digits (48 + number % 10) front.all last;
      value = omega (arith, value, before);
      leading = λ _. leads-behind digits (48 + number % 10) leading;
    }

pub decimal-spelled : (number : ℕ) → number < 2 ^ 64 → Spelled number (decimal number)
decimal-spelled = decimal_by_steps Spelled spelled-one spelled-more
