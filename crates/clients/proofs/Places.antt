-- The places of pushed calls and the index of their callers.
use Rattle.std.specs.Prelude.{◌==◌, slice_get, slice_index_or, slice_set, if◌then◌else◌}
use Rattle.std.specs.HashMap.{get}
use Rattle.std.proofs.Common.{◌≡◌, ◌≢◌, ◌<◌, ◌⊎◌, ℕ, zero, suc, Bool, true, false, List, [], ◌∷◌, ◌++◌, length, Option, Some, None, inl, inr, refl, ap, sym, ◌∙◌, subst, eq-eqb, arith}
use Rattle.std.proofs.lemmas.Bool.{and_parts, eqb-true}
use Rattle.sp_base.specs.declared.calls.Call.{Call}
use Rattle.sp_base.specs.declared.numbers.Caller.{Caller}
use Rattle.journal.specs.Folds.{same_caller}
use Rattle.clients.specs.declared.callers.Callers.{Callers}
use Rattle.clients.specs.First.{first_of}
use Rattle.clients.specs.Numbering.{number_of, same_numbers}
use Rattle.clients.specs.Placing.{ArePlaced, BeginsWith, EmptyBelow, StandsAt, somes}
use Rattle.clients.specs.Pushed.{Pushed, is_callers}
use Rattle.clients.proofs.Firsts.{IsFirst, first-found, none-first, somes-begin}

-- ---- Callers

pub either : (b : Bool) → (b ≡ true) ⊎ (b ≡ false)
either true = inl refl
either false = inr refl

-- two callers that are one by the test have one number
pub same-number : (a b : Caller) (index : Callers) → same_caller a b ≡ true → number_of index a ≡ number_of index b
same-number a b index same =
    let parts = and_parts (a.tenant.0 == b.tenant.0) (a.number == b.number) same in
    let tenants : a.tenant.0 ≡ b.tenant.0 = eqb-true a.tenant.0 b.tenant.0 parts.0 in
    let numbers : a.number ≡ b.number = eqb-true a.number b.number parts.1 in
    ap (λ (n : ℕ). get same_numbers index.numbers (n, a.number)) tenants
    ∙ ap (λ (n : ℕ). get same_numbers index.numbers (b.tenant.0, n)) numbers

pub same-self : (a : Caller) → same_caller a a ≡ true
same-self a =
    let tenants : (a.tenant.0 == a.tenant.0) ≡ true = eq-eqb a.tenant.0 a.tenant.0 refl in
    let numbers : (a.number == a.number) ≡ true = eq-eqb a.number a.number refl in
    rw (tenants, numbers)

-- ---- Lists with one element changed

get-set-same : {A : Type 0} (xs : List A) (at : ℕ) (x y : A) → slice_get xs at ≡ Some x → slice_get (slice_set xs at y) at ≡ Some y
get-set-same [] at x y found = absurd (cc)
get-set-same (z ∷ xs) zero x y found = refl
get-set-same (z ∷ xs) (suc at) x y found = get-set-same xs at x y found

get-set-other : {A : Type 0} (xs : List A) (at k : ℕ) (y : A) → k ≢ at → slice_get (slice_set xs at y) k ≡ slice_get xs k
get-set-other [] at k y apart = refl
get-set-other (z ∷ xs) zero zero y apart = absurd (apart refl)
get-set-other (z ∷ xs) zero (suc k) y apart = refl
get-set-other (z ∷ xs) (suc at) zero y apart = refl
get-set-other (z ∷ xs) (suc at) (suc k) y apart = get-set-other xs at k y (λ same. apart (ap suc same))

-- whether two numbers are the same
pub alike : (k at : ℕ) → (k ≡ at) ⊎ (k ≢ at)
alike zero zero = inl refl
alike zero (suc at) = inr (λ same. omega arith)
alike (suc k) zero = inr (λ same. omega arith)
alike (suc k) (suc at) = elim (alike k at) [ inl same ↦ inl (ap suc same) | inr apart ↦ inr (λ same. apart (omega arith)) ]

-- ---- What the index says of the list

-- the caller has no number, and no call
pub none-of : (places : List (Option Pushed)) (index : Callers) (first : ℕ) (caller : Caller) → ArePlaced places index first
    → number_of index caller ≡ None → first_of (is_callers caller) (somes places) ≡ None
none-of places index first caller are none =
    none-first (is_callers caller) places (record {
      each = λ at x found. elim (either (is_callers caller x)) [
        | inl own ↦ absurd (let known = are.known at x found in let same = same-number x.call.caller caller index own in
            let clash : Some at ≡ None = sym known ∙ same ∙ none in cc)
        | inr other ↦ other
      ];
    })

-- the caller's number is the first place of its calls
pub first-at : (places : List (Option Pushed)) (index : Callers) (first : ℕ) (caller : Caller) (at : ℕ) (are : ArePlaced places index first)
    → (is : number_of index caller ≡ Some at) → IsFirst (is_callers caller) places at (are.there caller at is).pushed
first-at places index first caller at are is =
    let stands = are.there caller at is in
    record {
      found = stands.found;
      passed = stands.own;
      before = λ k y less found. elim (either (is_callers caller y)) [
        | inl own ↦ absurd (
            let known = are.known k y found in
            let same = same-number y.call.caller caller index own in
            let both : Some k ≡ Some at = sym known ∙ same ∙ is in
            let one : k ≡ at = cc in
            omega (arith, one, less))
        | inr other ↦ other
      ];
    }

-- ---- What becomes of the places

pub small-get : {A : Type 0} (xs : List A) (at : ℕ) (x : A) → slice_get xs at ≡ Some x → at < length xs
small-get [] at x found = absurd (cc)
small-get (y ∷ xs) zero x found = omega arith
small-get (y ∷ xs) (suc at) x found = let less = small-get xs at x found in omega (arith, less)

get-front : {A : Type 0} (xs : List A) (y : A) (at : ℕ) → at < length xs → slice_get (xs ++ y ∷ []) at ≡ slice_get xs at
get-front [] y at less = absurd (omega (arith, less))
get-front (x ∷ xs) y zero less = refl
get-front (x ∷ xs) y (suc at) less = get-front xs y at (omega (arith, less))

get-last : {A : Type 0} (xs : List A) (y : A) → slice_get (xs ++ y ∷ []) (length xs) ≡ Some y
get-last [] y = refl
get-last (x ∷ xs) y = get-last xs y

none-past : {A : Type 0} (xs : List A) (y : A) (at : ℕ) → length xs < at → slice_get (xs ++ y ∷ []) at ≡ None
none-past [] y zero past = absurd (omega (arith, past))
none-past [] y (suc at) past = refl
none-past (x ∷ xs) y zero past = absurd (omega (arith, past))
none-past (x ∷ xs) y (suc at) past = none-past xs y at (omega (arith, past))

-- where an element of the longer list stands: before its end, or at it
pub record InFront {A : Type 0} (xs : List A) (at : ℕ) (x : A) : Type 0 where
  pub found : slice_get xs at ≡ Some x

pub record AtEnd {A : Type 0} (xs : List A) (y : A) (at : ℕ) (x : A) : Type 0 where
  pub is : at ≡ length xs
  pub same : y ≡ x

pub where-pushed : {A : Type 0} (xs : List A) (y : A) (at : ℕ) (x : A) → slice_get (xs ++ y ∷ []) at ≡ Some x → InFront xs at x ⊎ AtEnd xs y at x
where-pushed [] y zero x found = inr (record { is = refl; same = cc })
where-pushed [] y (suc at) x found = absurd (cc)
where-pushed (z ∷ xs) y zero x found = inl (record { found = found })
where-pushed (z ∷ xs) y (suc at) x found = elim (where-pushed xs y at x found) [
  | inl front ↦ inl (record { found = front.found })
  | inr end ↦ inr (record { is = ap suc end.is; same = end.same })
]

none-by : (places : List (Option Pushed)) (index : Callers) (first : ℕ) (caller : Caller) (given : Option ℕ) → ArePlaced places index first
    → first_of (is_callers caller) (somes places) ≡ None → number_of index caller ≡ given → given ≡ None
none-by places index first caller None are free is = refl
none-by places index first caller (Some at) are free is = absurd (
    let found = first-found (is_callers caller) places at (are.there caller at is).pushed (first-at places index first caller at are is) in
    let clash : Some (are.there caller at is).pushed ≡ None = sym found ∙ free in cc)

-- a caller that has no call has no number
number-none : (places : List (Option Pushed)) (index : Callers) (first : ℕ) (caller : Caller) → ArePlaced places index first
    → first_of (is_callers caller) (somes places) ≡ None → number_of index caller ≡ None
number-none places index first caller are free = none-by places index first caller (number_of index caller) are free refl

-- an index that tells the same
pub placed-alike : (places : List (Option Pushed)) (index after : Callers) (first : ℕ) → ArePlaced places index first
    → ((caller : Caller) → number_of after caller ≡ number_of index caller) → ArePlaced places after first
placed-alike places index after first are same = record {
  there = λ caller at is. are.there caller at (sym (same caller) ∙ is);
  known = λ at pushed found. same pushed.call.caller ∙ are.known at pushed found;
  empty = are.empty;
}

-- the first call of a caller is pushed
pub placed-more : (places : List (Option Pushed)) (index after : Callers) (first : ℕ) (pushed : Pushed)
    → ArePlaced places index first → first_of (is_callers pushed.call.caller) (somes places) ≡ None
    → ((caller : Caller) → number_of after caller ≡ (if same_caller pushed.call.caller caller then Some (length places) else number_of index caller))
    → ArePlaced (places ++ Some pushed ∷ []) after first
placed-more places index after first pushed are free added = record {
  there = λ caller at is. elim (either (same_caller pushed.call.caller caller)) [
    | inl own ↦
        let now : number_of after caller ≡ Some (length places) = added caller ∙ ap (λ (b : Bool). if b then Some (length places) else number_of index caller) own in
        let both : Some at ≡ Some (length places) = sym is ∙ now in
        let one : at ≡ length places = cc in
        record { pushed = pushed; found = ap (slice_get (places ++ Some pushed ∷ [])) one ∙ get-last places (Some pushed); own = own }
    | inr other ↦
        let now : number_of after caller ≡ number_of index caller = added caller ∙ ap (λ (b : Bool). if b then Some (length places) else number_of index caller) other in
        let stands = are.there caller at (sym now ∙ is) in
        record { pushed = stands.pushed; found = get-front places (Some pushed) at (small-get places at (Some stands.pushed) stands.found) ∙ stands.found; own = stands.own }
  ];
  known = λ at x found. elim (where-pushed places (Some pushed) at (Some x) found) [
    | inl front ↦
        let before = are.known at x front.found in
        elim (either (same_caller pushed.call.caller x.call.caller)) [
          | inl own ↦ absurd (
              let none = number-none places index first pushed.call.caller are free in
              let same = same-number pushed.call.caller x.call.caller index own in
              let clash : None ≡ Some at = sym none ∙ same ∙ before in cc)
          | inr other ↦ added x.call.caller ∙ ap (λ (b : Bool). if b then Some (length places) else number_of index x.call.caller) other ∙ before
        ]
    | inr end ↦
        let same : pushed ≡ x = (let e = end.same in cc) in
        let own : same_caller pushed.call.caller x.call.caller ≡ true = subst (λ (p : Pushed). same_caller pushed.call.caller p.call.caller ≡ true) same (same-self pushed.call.caller) in
        added x.call.caller ∙ ap (λ (b : Bool). if b then Some (length places) else number_of index x.call.caller) own ∙ ap Some (sym end.is)
  ];
  empty = λ at less. let before = are.empty at less in get-front places (Some pushed) at (small-get places at None before) ∙ before;
}

joined-callers : (a b c : Caller) → same_caller a b ≡ true → same_caller a c ≡ true → same_caller b c ≡ true
joined-callers a b c first second =
    let one = and_parts (a.tenant.0 == b.tenant.0) (a.number == b.number) first in
    let two = and_parts (a.tenant.0 == c.tenant.0) (a.number == c.number) second in
    let tenants : (b.tenant.0 == c.tenant.0) ≡ true = eq-eqb b.tenant.0 c.tenant.0 (sym (eqb-true a.tenant.0 b.tenant.0 one.0) ∙ eqb-true a.tenant.0 c.tenant.0 two.0) in
    let numbers : (b.number == c.number) ≡ true = eq-eqb b.number c.number (sym (eqb-true a.number b.number one.1) ∙ eqb-true a.number c.number two.1) in
    rw (tenants, numbers)

-- two callers whose calls stand in one place are one
not-mine : (places : List (Option Pushed)) (caller other : Caller) (at k : ℕ) → StandsAt other places k → StandsAt caller places at
    → k ≡ at → same_caller caller other ≡ false → ⊥
not-mine places caller other at k stands mine same apart =
    let both : Some (Some stands.pushed) ≡ Some (Some mine.pushed) = sym stands.found ∙ ap (slice_get places) same ∙ mine.found in
    let one : stands.pushed ≡ mine.pushed = cc in
    let own : same_caller stands.pushed.call.caller caller ≡ true =
    subst (λ (p : Pushed). same_caller p.call.caller caller ≡ true) (sym one) mine.own in
    let clash : true ≡ false = sym (joined-callers stands.pushed.call.caller caller other own stands.own) ∙ apart in cc

-- the caller's call gives its place up
pub placed-less : (places : List (Option Pushed)) (index after : Callers) (first : ℕ) (caller : Caller) (at : ℕ)
    → ArePlaced places index first → number_of index caller ≡ Some at
    → ((other : Caller) → number_of after other ≡ (if same_caller caller other then None else number_of index other))
    → ArePlaced (slice_set places at None) after first
placed-less places index after first caller at are is removed = record {
  there = λ other k now. elim (either (same_caller caller other)) [
    | inl own ↦ absurd (
        let gone : number_of after other ≡ None = removed other ∙ ap (λ (b : Bool). if b then None else number_of index other) own in
        let clash : Some k ≡ None = sym now ∙ gone in cc)
    | inr apart ↦
        let before : number_of index other ≡ Some k = sym (removed other ∙ ap (λ (b : Bool). if b then None else number_of index other) apart) ∙ now in
        let stands = are.there other k before in
        let mine = are.there caller at is in
        record {
          pushed = stands.pushed;
          found = get-set-other places at k None (λ same. not-mine places caller other at k stands mine same apart) ∙ stands.found;
          own = stands.own;
        }
  ];
  known = λ k x found. elim (alike k at) [
    | inl same ↦ absurd (
        let mine = are.there caller at is in
        let now = get-set-same places at (Some mine.pushed) None mine.found in
        let clash : Some (Some x) ≡ Some None = sym found ∙ ap (slice_get (slice_set places at None)) same ∙ now in cc)
    | inr apart ↦
        let before = are.known k x (sym (get-set-other places at k None apart) ∙ found) in
        elim (either (same_caller caller x.call.caller)) [
          | inl own ↦ absurd (
              let one = same-number caller x.call.caller index own in
              let clash : Some at ≡ Some k = sym is ∙ one ∙ before in
              apart (let e : at ≡ k = cc in sym e))
          | inr other ↦ removed x.call.caller ∙ ap (λ (b : Bool). if b then None else number_of index x.call.caller) other ∙ before
        ]
  ];
  empty = λ k less. elim (alike k at) [
    | inl same ↦ let mine = are.there caller at is in ap (slice_get (slice_set places at None)) same ∙ get-set-same places at (Some mine.pushed) None mine.found
    | inr apart ↦ get-set-other places at k None apart ∙ are.empty k less
  ];
}

-- another state of the caller's call stands in its place
pub placed-with : (places : List (Option Pushed)) (index : Callers) (first : ℕ) (caller : Caller) (at : ℕ) (next : Pushed) (are : ArePlaced places index first)
    → (is : number_of index caller ≡ Some at) → next.call ≡ (are.there caller at is).pushed.call
    → ArePlaced (slice_set places at (Some next)) index first
placed-with places index first caller at next are is called =
    let mine = are.there caller at is in
    record {
      there = λ other k now. elim (alike k at) [
        | inl same ↦
            let stands = are.there other k now in
            let both : Some (Some stands.pushed) ≡ Some (Some mine.pushed) = sym stands.found ∙ ap (slice_get places) same ∙ mine.found in
            let one : stands.pushed ≡ mine.pushed = cc in
            record {
              pushed = next;
              found = ap (slice_get (slice_set places at (Some next))) same ∙ get-set-same places at (Some mine.pushed) (Some next) mine.found;
              own = ap (λ (c : Call). same_caller c.caller other) (called ∙ sym (ap (λ (p : Pushed). p.call) one)) ∙ stands.own;
            }
        | inr apart ↦
            let stands = are.there other k now in
            record { pushed = stands.pushed; found = get-set-other places at k (Some next) apart ∙ stands.found; own = stands.own }
      ];
      known = λ k x found. elim (alike k at) [
        | inl same ↦
            let now : slice_get (slice_set places at (Some next)) k ≡ Some (Some next) =
            ap (slice_get (slice_set places at (Some next))) same ∙ get-set-same places at (Some mine.pushed) (Some next) mine.found in
            let both : Some (Some x) ≡ Some (Some next) = sym found ∙ now in
            let one : x ≡ next = cc in
            ap (λ (c : Call). number_of index c.caller) (ap (λ (p : Pushed). p.call) one ∙ called) ∙ are.known at mine.pushed mine.found ∙ ap Some (sym same)
        | inr apart ↦ are.known k x (sym (get-set-other places at k (Some next) apart) ∙ found)
      ];
      empty = λ k less. elim (alike k at) [
        | inl same ↦ absurd (
            let before = are.empty k less in
            let clash : Some None ≡ Some (Some mine.pushed) = sym before ∙ ap (slice_get places) same ∙ mine.found in cc)
        | inr apart ↦ get-set-other places at k (Some next) apart ∙ are.empty k less
      ];
    }

-- ---- A caller's call in its place

-- what is kept at a place, as code reads it
pub get-at : {A : Type 0} (xs : List A) (at : ℕ) (x past : A) → slice_get xs at ≡ Some x → slice_index_or xs at past ≡ x
get-at [] at x past found = absurd (cc)
get-at (y ∷ xs) zero x past found = cc
get-at (y ∷ xs) (suc at) x past found = get-at xs at x past found

-- the caller's call stands at the place that the index tells
pub record IsKept (places : List (Option Pushed)) (caller : Caller) (at : ℕ) : Type 0 where
  pub pushed : Pushed
  pub small : at < length places
  pub first : IsFirst (is_callers caller) places at pushed
  pub found : first_of (is_callers caller) (somes places) ≡ Some pushed

pub kept-at : (places : List (Option Pushed)) (index : Callers) (first : ℕ) (caller : Caller) (at : ℕ) → ArePlaced places index first
    → number_of index caller ≡ Some at → IsKept places caller at
kept-at places index first caller at are is =
    let stands = first-at places index first caller at are is in
    let pushed = (are.there caller at is).pushed in
    record {
      pushed = pushed;
      small = small-get places at (Some pushed) stands.found;
      first = stands;
      found = first-found (is_callers caller) places at pushed stands;
    }

pub not-some : {A : Type 0} (found : Option A) → ((a : A) → found ≡ Some a → ⊥) → found ≡ None
not-some None apart = refl
not-some (Some a) apart = absurd (apart a refl)

-- the caller's call is at its place as it is in the list
pub one-kept : (places : List (Option Pushed)) (caller : Caller) (at : ℕ) (now : List Pushed) (call : Pushed) (kept : IsKept places caller at)
    → somes places ≡ now → first_of (is_callers caller) now ≡ Some call → kept.pushed ≡ call
one-kept places caller at now call kept is found =
    let both : Some kept.pushed ≡ Some call = sym kept.found ∙ ap (first_of (is_callers caller)) is ∙ found in cc

-- the first call that there is
pub begins-at : (places : List (Option Pushed)) (at : ℕ) (call : Pushed) → EmptyBelow places at → slice_get places at ≡ Some (Some call)
    → BeginsWith (somes places) call.call.caller
begins-at places at call empty found =
    let begins = somes-begin places at call empty found in
    record { front = call; rest = begins.rest; is = begins.is; own = refl }

-- another state of the call that is kept there
pub placed-kept : (places : List (Option Pushed)) (index : Callers) (first : ℕ) (caller : Caller) (at : ℕ) (next : Pushed)
    → ArePlaced places index first → number_of index caller ≡ Some at → (kept : IsKept places caller at) → next.call ≡ kept.pushed.call
    → ArePlaced (slice_set places at (Some next)) index first
placed-kept places index first caller at next are is kept called =
    let both : Some (Some kept.pushed) ≡ Some (Some (are.there caller at is).pushed) = sym kept.first.found ∙ (are.there caller at is).found in
    let one : kept.pushed ≡ (are.there caller at is).pushed = cc in
    placed-with places index first caller at next are is (called ∙ ap (λ (p : Pushed). p.call) one)
