-- Places of which some are empty: the first call that passes a test, the list without it and with another.
use Rattle.std.specs.Prelude.{slice_get, slice_set, if◌then◌else◌}
use Rattle.std.proofs.Common.{◌≡◌, ◌<◌, ℕ, zero, suc, Bool, true, false, List, [], ◌∷◌, ◌++◌, length, Option, Some, None, refl, ap, sym, ◌∙◌, arith}
use Rattle.clients.specs.First.{first_of, with_first, without_first}
use Rattle.clients.specs.Placing.{somes}

-- no place holds one that passes
pub record NonePass {A : Type 0} (passes : A → Bool) (places : List (Option A)) : Type 0 where
  pub each : (at : ℕ) (x : A) → slice_get places at ≡ Some (Some x) → passes x ≡ false

-- the first that passes stands at this place
pub record IsFirst {A : Type 0} (passes : A → Bool) (places : List (Option A)) (at : ℕ) (x : A) : Type 0 where
  pub found : slice_get places at ≡ Some (Some x)
  pub passed : passes x ≡ true
  pub before : (k : ℕ) (y : A) → k < at → slice_get places k ≡ Some (Some y) → passes y ≡ false

none-behind : {A : Type 0} (passes : A → Bool) (place : Option A) (places : List (Option A)) → NonePass passes (place ∷ places) → NonePass passes places
none-behind passes place places none = record { each = λ at x found. none.each (suc at) x found }

first-behind : {A : Type 0} (passes : A → Bool) (place : Option A) (places : List (Option A)) (at : ℕ) (x : A)
    → IsFirst passes (place ∷ places) (suc at) x → IsFirst passes places at x
first-behind passes place places at x is = record {
  found = is.found;
  passed = is.passed;
  before = λ k y less found. is.before (suc k) y (omega (arith, less)) found;
}

pub none-first : {A : Type 0} (passes : A → Bool) (places : List (Option A)) → NonePass passes places → first_of passes (somes places) ≡ None
none-first passes [] none = refl
none-first passes (None ∷ places) none = none-first passes places (none-behind passes None places none)
none-first passes (Some x ∷ places) none =
    ap (λ (b : Bool). if b then Some x else first_of passes (somes places)) (none.each 0 x refl)
    ∙ none-first passes places (none-behind passes (Some x) places none)

pub first-found : {A : Type 0} (passes : A → Bool) (places : List (Option A)) (at : ℕ) (x : A) → IsFirst passes places at x
    → first_of passes (somes places) ≡ Some x
first-found passes [] at x is = absurd (let clash = is.found in cc)
first-found passes (None ∷ places) zero x is = absurd (let clash = is.found in cc)
first-found passes (None ∷ places) (suc at) x is = first-found passes places at x (first-behind passes None places at x is)
first-found passes (Some y ∷ places) zero x is =
    let clash = is.found in
    let same : y ≡ x = cc in
    ap (λ (b : Bool). if b then Some y else first_of passes (somes places)) (ap passes same ∙ is.passed) ∙ ap Some same
first-found passes (Some y ∷ places) (suc at) x is =
    ap (λ (b : Bool). if b then Some y else first_of passes (somes places)) (is.before 0 y (omega arith) refl)
    ∙ first-found passes places at x (first-behind passes (Some y) places at x is)

pub first-without : {A : Type 0} (passes : A → Bool) (places : List (Option A)) (at : ℕ) (x : A) → IsFirst passes places at x
    → somes (slice_set places at None) ≡ without_first passes (somes places)
first-without passes [] at x is = absurd (let clash = is.found in cc)
first-without passes (None ∷ places) zero x is = absurd (let clash = is.found in cc)
first-without passes (None ∷ places) (suc at) x is = first-without passes places at x (first-behind passes None places at x is)
first-without passes (Some y ∷ places) zero x is =
    let clash = is.found in
    let same : y ≡ x = cc in
    ap (λ (b : Bool). if b then somes places else y ∷ without_first passes (somes places)) (sym (ap passes same ∙ is.passed))
first-without {A = A} passes (Some y ∷ places) (suc at) x is =
    ap (λ (rest : List A). y ∷ rest) (first-without passes places at x (first-behind passes (Some y) places at x is))
    ∙ ap (λ (b : Bool). if b then somes places else y ∷ without_first passes (somes places)) (sym (is.before 0 y (omega arith) refl))

pub first-with : {A : Type 0} (passes : A → Bool) (places : List (Option A)) (at : ℕ) (x other : A) → IsFirst passes places at x
    → somes (slice_set places at (Some other)) ≡ with_first passes other (somes places)
first-with passes [] at x other is = absurd (let clash = is.found in cc)
first-with passes (None ∷ places) zero x other is = absurd (let clash = is.found in cc)
first-with passes (None ∷ places) (suc at) x other is = first-with passes places at x other (first-behind passes None places at x is)
first-with passes (Some y ∷ places) zero x other is =
    let clash = is.found in
    let same : y ≡ x = cc in
    ap (λ (b : Bool). if b then other ∷ somes places else y ∷ with_first passes other (somes places)) (sym (ap passes same ∙ is.passed))
first-with {A = A} passes (Some y ∷ places) (suc at) x other is =
    ap (λ (rest : List A). y ∷ rest) (first-with passes places at x other (first-behind passes (Some y) places at x is))
    ∙ ap (λ (b : Bool). if b then other ∷ somes places else y ∷ with_first passes other (somes places)) (sym (is.before 0 y (omega arith) refl))

-- a list in which none passes stays
stays-by : {A : Type 0} (test : Bool) (y : A) (ys less : List A) (behind : Option A) → (behind ≡ None → less ≡ ys)
    → (if test then Some y else behind) ≡ None → (if test then ys else y ∷ less) ≡ y ∷ ys
stays-by true y ys less behind rest none = absurd (cc)
stays-by {A = A} false y ys less behind rest none = ap (λ (list : List A). y ∷ list) (rest none)

pub without-none : {A : Type 0} (passes : A → Bool) (xs : List A) → first_of passes xs ≡ None → without_first passes xs ≡ xs
without-none passes [] none = refl
without-none passes (y ∷ ys) none =
    stays-by (passes y) y ys (without_first passes ys) (first_of passes ys) (without-none passes ys) none

-- a place that is changed twice
pub set-twice : {A : Type 0} (xs : List A) (at : ℕ) (y z : A) → slice_set (slice_set xs at y) at z ≡ slice_set xs at z
set-twice [] at y z = refl
set-twice (x ∷ xs) zero y z = refl
set-twice {A = A} (x ∷ xs) (suc at) y z = ap (λ (rest : List A). x ∷ rest) (set-twice xs at y z)

-- ---- Places at the end, and empty ones in front

pub somes-push : {A : Type 0} (places : List (Option A)) (x : A) → somes (places ++ Some x ∷ []) ≡ somes places ++ x ∷ []
somes-push [] x = refl
somes-push (None ∷ places) x = somes-push places x
somes-push {A = A} (Some y ∷ places) x = ap (λ (rest : List A). y ∷ rest) (somes-push places x)

-- where all places are empty there is nothing
pub somes-none : {A : Type 0} (places : List (Option A)) → ((at : ℕ) → at < length places → slice_get places at ≡ Some None) → somes places ≡ []
somes-none [] empty = refl
somes-none (None ∷ places) empty = somes-none places (λ at less. empty (suc at) (omega (arith, less)))
somes-none (Some x ∷ places) empty = absurd (let clash = empty 0 (omega arith) in cc)

-- what stands behind empty places is the first that there is
pub record Begins {A : Type 0} (all : List A) (x : A) : Type 0 where
  pub rest : List A
  pub is : all ≡ x ∷ rest

pub somes-begin : {A : Type 0} (places : List (Option A)) (at : ℕ) (x : A) → ((k : ℕ) → k < at → slice_get places k ≡ Some None)
    → slice_get places at ≡ Some (Some x) → Begins (somes places) x
somes-begin [] at x empty found = absurd (cc)
somes-begin (None ∷ places) zero x empty found = absurd (cc)
somes-begin (None ∷ places) (suc at) x empty found = somes-begin places at x (λ k less. empty (suc k) (omega (arith, less))) found
somes-begin {A = A} (Some y ∷ places) zero x empty found =
    let same : y ≡ x = cc in
    record { rest = somes places; is = ap (λ (z : A). z ∷ somes places) same }
somes-begin (Some y ∷ places) (suc at) x empty found = absurd (let clash = empty 0 (omega arith) in cc)
