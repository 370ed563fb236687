-- Functions by their names and numbers, and what typing says of each.
use Rattle.std.proofs.Common.{◌≡◌, ℕ, zero, suc, ◌+◌, ◌≤◌, ◌<◌, ◌==◌, ◌&&◌, ◌||◌, not, Bool, true, false, List, [], ◌∷◌, ◌++◌, length, take, Option, Some, None, refl, sym, ap, subst, arith, if◌then◌else◌, slice_get, is_none, add-zero}
use Rattle.std.specs.Str.{bytes_eq}
use Rattle.ext_mean.specs.declared.check_codes.TypeCode.{TypeCode}
use Rattle.ext_mean.specs.declared.check_codes.TypeCode.TheVariants as fault
use Rattle.ext_mean.specs.declared.statement.Kind.TheVariants as kind
use Rattle.ext_mean.specs.declared.tree.Function.{Function}
use Rattle.ext_mean.specs.Items.{ends_with_return}
use Rattle.ext_mean.specs.Types.{same_kind, unless}
use Rattle.ext_mean.specs.TypesOfItems.{function_named}
use Rattle.ext_mean.specs.Typing as typing
use Rattle.ext_mean.specs.Typing.{block_codes, head_code, is_main, repeats, setting_of}
use Rattle.gen_code.specs.declared.code.CodeFn.{CodeFn}
use Rattle.std.specs.Prelude.{codes}
use Rattle.gen_code.specs.Codes as coding
use Rattle.gen_code.specs.Codes.{function_code}
use Rattle.gen_code.specs.Machine.{size_of}
use Rattle.ext_mean.proofs.Pieces.{and-both}
use Rattle.gen_law.proofs.TypedCalls.{NoFault, no-fault-split, earlier-none}

pub some-at : {A : Type 0} (xs : List A) (n : ℕ) → n < length xs → (x : A) × (slice_get xs n ≡ Some x)
some-at [] n below = absurd (omega (arith, below))
some-at (x ∷ xs) zero below = (x, refl)
some-at (x ∷ xs) (suc n) below = some-at xs n (omega (arith, below))

pub take-next : {A : Type 0} (xs : List A) (n : ℕ) (x : A) → slice_get xs n ≡ Some x → take (suc n) xs ≡ take n xs ++ x ∷ []
take-next [] n x is = absurd (let other : None ≡ Some x = is in cc)
take-next (y ∷ xs) zero x is = let same : y ≡ x = cc in ap (λ z. z ∷ []) same
take-next (y ∷ xs) (suc n) x is = ap (λ rest. y ∷ rest) (take-next xs n x is)

-- a function behind others of another name is found by its name, and does not hide the others
behind-cases : (test : Bool) (first own : Function) (later later' : Option Function) → (if test then Some first else later) ≡ None → (later ≡ None → later' ≡ Some own) → (if test then Some first else later') ≡ Some own
behind-cases true first own later later' none next = absurd (let other : Some first ≡ None = none in cc)
behind-cases false first own later later' none next = next none

pub named-behind : (name : List ℕ) (before : List Function) (own : Function) → function_named name before ≡ None → bytes_eq own.name name ≡ true → function_named name (before ++ own ∷ []) ≡ Some own
named-behind name [] own none is = ap (λ b. if b then Some own else None) is
named-behind name (first ∷ before) own none is =
    behind-cases (bytes_eq first.name name) first own (function_named name before) (function_named name (before ++ own ∷ [])) none (λ later. named-behind name before own later is)

pub named-before : (name : List ℕ) (before : List Function) (own : Function) → bytes_eq own.name name ≡ false → function_named name (before ++ own ∷ []) ≡ function_named name before
named-before name [] own is = ap (λ b. if b then Some own else None) is
named-before name (first ∷ before) own is = ap (λ later. if bytes_eq first.name name then Some first else later) (named-before name before own is)

-- what typing says of the function with a number
pub record IsClean (functions : List Function) (number : ℕ) (function : Function) : Type 0 where
  pub head : head_code (take number functions) (number + 1 == length functions) function ≡ None
  pub block : NoFault (block_codes (setting_of functions number function) function.body function.params)

pub clean-at : (functions : List Function) (count : ℕ) (rest : List Function) → NoFault (typing.function_codes functions count rest)
    → (at : ℕ) (function : Function) → slice_get rest at ≡ Some function → IsClean functions (count + at) function
clean-at functions count [] clean at function is = absurd (let other : None ≡ Some function = is in cc)
clean-at functions count (first ∷ rest) clean zero function is =
    let same : first ≡ function = cc in
    let own = no-fault-split (head_code (take count functions) (count + 1 == length functions) first ∷ block_codes (setting_of functions count first) first.body first.params) (typing.function_codes functions (count + 1) rest) clean in
    subst (λ n. IsClean functions n function) (sym (add-zero count)) (subst (λ f. IsClean functions count f) same (record { head = own.0.0; block = own.0.1 }))
clean-at functions count (first ∷ rest) clean (suc at) function is =
    let own = no-fault-split (head_code (take count functions) (count + 1 == length functions) first ∷ block_codes (setting_of functions count first) first.body first.params) (typing.function_codes functions (count + 1) rest) clean in
    subst (λ n. IsClean functions n function) (omega arith) (clean-at functions (count + 1) rest own.1 at function is)

-- the code of the function with a number is among those of all
pub record IsCoded (functions : List Function) (all : List CodeFn) (at number : ℕ) (function : Function) : Type 0 where
  pub there : slice_get all at ≡ Some (function_code functions number function)
  pub small : length (function_code functions number function).ops ≤ size_of all

pub coded-at : (functions : List Function) (count : ℕ) (rest : List Function) (at : ℕ) (function : Function) → slice_get rest at ≡ Some function
    → IsCoded functions (coding.function_codes functions count rest) at (count + at) function
coded-at functions count [] at function is = absurd (let other : None ≡ Some function = is in cc)
coded-at functions count (first ∷ rest) zero function is =
    let same : first ≡ function = cc in
    let all = coding.function_codes functions count (first ∷ rest) in
    subst (λ n. IsCoded functions all zero n function) (sym (add-zero count))
    (subst (λ f. IsCoded functions all zero count f) same (record { there = refl; small = omega arith }))
coded-at functions count (first ∷ rest) (suc at) function is =
    let later = coded-at functions (count + 1) rest at function is in
    let all = coding.function_codes functions count (first ∷ rest) in
    let small = later.small in
    subst (λ n. IsCoded functions all (suc at) n function) (omega arith) (record { there = later.there; small = omega (arith, small) })

pub codes-length : (functions : List Function) (count : ℕ) (rest : List Function) → length (coding.function_codes functions count rest) ≡ length rest
codes-length functions count [] = refl
codes-length functions count (first ∷ rest) = ap suc (codes-length functions (count + 1) rest)

unless-none : (test : Bool) (code : TypeCode) → unless test code ≡ None → test ≡ true
unless-none true code none = refl
unless-none false code none = absurd (let other : Some code ≡ None = none in cc)

is-none-none : {A : Type 0} (found : Option A) → is_none found ≡ true → found ≡ None
is-none-none None is = refl
is-none-none (Some x) is = absurd (let other : false ≡ true = is in cc)

-- its name is new
pub new-name : (functions : List Function) (number : ℕ) (function : Function) → IsClean functions number function → function_named function.name (take number functions) ≡ None
new-name functions number function clean =
    let first = earlier-none (unless (is_none (function_named function.name (take number functions))) fault.Twice) _ clean.head in
    is-none-none (function_named function.name (take number functions)) (unless-none (is_none (function_named function.name (take number functions))) fault.Twice first.0)

-- the last function has no parameters
no-parameters : (last : Bool) (main : Bool) → last ≡ true → (not last || main) ≡ true → main ≡ true
no-parameters true main is test = test
no-parameters false main is test = absurd (let other : false ≡ true = is in cc)

pub main-plain : (functions : List Function) (number : ℕ) (function : Function) → number + 1 ≡ length functions → IsClean functions number function → length function.params ≡ 0
main-plain functions number function last clean =
    let before = take number functions in
    let is_last = number + 1 == length functions in
    let one = earlier-none (unless (is_none (function_named function.name before)) fault.Twice) _ clean.head in
    let two = earlier-none (unless (not (repeats function.params)) fault.Twice) _ one.1 in
    let three = earlier-none (unless (not (same_kind kind.Slice function.result)) fault.Kind) _ two.1 in
    let four = earlier-none (unless (ends_with_return function.body) fault.NoReturn) (unless (not is_last || is_main function) fault.Main) three.1 in
    let test = unless-none (not is_last || is_main function) fault.Main four.1 in
    let main = no-parameters is_last (is_main function) (grind (arith, last)) test in
    let parts = and-both (bytes_eq function.name (codes "main") && (length function.params == 0)) (same_kind kind.Int function.result) main in
    let parts' = and-both (bytes_eq function.name (codes "main")) (length function.params == 0) parts.0 in
    grind (arith, parts'.1)
