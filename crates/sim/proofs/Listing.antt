-- Lists of calls of which the first that passes a test is found, taken out or changed.
use Rattle.std.specs.Prelude.{map, option_map, if◌then◌else◌}
use Rattle.std.specs.List.{AllByRecursion, sum_by}
use Rattle.std.proofs.Common.{◌≡◌, ℕ, ◌+◌, Bool, true, false, List, [], ◌∷◌, Option, Some, None, refl, ap, sym, ◌∙◌, subst, arith}
use Rattle.std.proofs.lemmas.List.Sums.{sum_by-cons}
use Rattle.clients.specs.First.{first_of, with_first, without_first}

-- ---- What is found

passes-by : {A : Type 0} (passes : A → Bool) (test : Bool) (y x : A) (behind : Option A) → (behind ≡ Some x → passes x ≡ true)
    → passes y ≡ test → (if test then Some y else behind) ≡ Some x → passes x ≡ true
passes-by passes true y x behind rest is given = let same : y ≡ x = cc in ap passes (sym same) ∙ is
passes-by passes false y x behind rest is given = rest given

pub first-passes : {A : Type 0} (passes : A → Bool) (xs : List A) (x : A) → first_of passes xs ≡ Some x → passes x ≡ true
first-passes passes [] x found = absurd (cc)
first-passes passes (y ∷ ys) x found = passes-by passes (passes y) y x (first_of passes ys) (first-passes passes ys x) refl found

first-by : {A : Type 0} (Holds : A → Type 0) (test : Bool) (y x : A) (behind : Option A) → (behind ≡ Some x → Holds x)
    → Holds y → (if test then Some y else behind) ≡ Some x → Holds x
first-by Holds true y x behind rest holds given = let same : y ≡ x = cc in subst Holds same holds
first-by Holds false y x behind rest holds given = rest given

pub all-first : {A : Type 0} (Holds : A → Type 0) (passes : A → Bool) (xs : List A) (x : A) → first_of passes xs ≡ Some x
    → AllByRecursion Holds xs → Holds x
all-first Holds passes [] x found all = absurd (cc)
all-first Holds passes (y ∷ ys) x found all =
    first-by Holds (passes y) y x (first_of passes ys) (λ given. all-first Holds passes ys x given all.1) all.0 found

-- ---- The list without it, and with another in its place

less-by : {A : Type 0} (weight : A → ℕ) (test : Bool) (y x : A) (ys less : List A) (behind : Option A)
    → (behind ≡ Some x → sum_by weight ys ≡ sum_by weight less + weight x) → (if test then Some y else behind) ≡ Some x
    → sum_by weight (y ∷ ys) ≡ sum_by weight (if test then ys else y ∷ less) + weight x
less-by weight true y x ys less behind rest given =
    let same : y ≡ x = cc in
    let weights : weight y ≡ weight x = ap weight same in
    let whole = sum_by-cons weight y ys in
    omega (arith, weights, whole)
less-by weight false y x ys less behind rest given =
    let whole = sum_by-cons weight y ys in
    let left = sum_by-cons weight y less in
    let sums = rest given in
    omega (arith, whole, left, sums)

pub sum-without : {A : Type 0} (weight : A → ℕ) (passes : A → Bool) (xs : List A) (x : A) → first_of passes xs ≡ Some x
    → sum_by weight xs ≡ sum_by weight (without_first passes xs) + weight x
sum-without weight passes [] x found = absurd (cc)
sum-without weight passes (y ∷ ys) x found =
    less-by weight (passes y) y x ys (without_first passes ys) (first_of passes ys) (sum-without weight passes ys x) found

other-by : {A : Type 0} (weight : A → ℕ) (test : Bool) (y x other : A) (ys changed : List A) (behind : Option A)
    → (behind ≡ Some x → sum_by weight changed + weight x ≡ sum_by weight ys + weight other) → (if test then Some y else behind) ≡ Some x
    → sum_by weight (if test then other ∷ ys else y ∷ changed) + weight x ≡ sum_by weight (y ∷ ys) + weight other
other-by weight true y x other ys changed behind rest given =
    let same : y ≡ x = cc in
    let weights : weight y ≡ weight x = ap weight same in
    let whole = sum_by-cons weight y ys in
    let now = sum_by-cons weight other ys in
    omega (arith, weights, whole, now)
other-by weight false y x other ys changed behind rest given =
    let whole = sum_by-cons weight y ys in
    let left = sum_by-cons weight y changed in
    let sums = rest given in
    omega (arith, whole, left, sums)

pub sum-with : {A : Type 0} (weight : A → ℕ) (passes : A → Bool) (xs : List A) (x other : A) → first_of passes xs ≡ Some x
    → sum_by weight (with_first passes other xs) + weight x ≡ sum_by weight xs + weight other
sum-with weight passes [] x other found = absurd (cc)
sum-with weight passes (y ∷ ys) x other found =
    other-by weight (passes y) y x other ys (with_first passes other ys) (first_of passes ys) (sum-with weight passes ys x other) found

all-by : {A : Type 0} (Holds : A → Type 0) (test : Bool) (one two : List A) → AllByRecursion Holds one → AllByRecursion Holds two
    → AllByRecursion Holds (if test then one else two)
all-by Holds true one two first second = first
all-by Holds false one two first second = second

pub all-without : {A : Type 0} (Holds : A → Type 0) (passes : A → Bool) (xs : List A) → AllByRecursion Holds xs
    → AllByRecursion Holds (without_first passes xs)
all-without Holds passes [] all = tt
all-without Holds passes (y ∷ ys) all =
    all-by Holds (passes y) ys (y ∷ without_first passes ys) all.1 (all.0, all-without Holds passes ys all.1)

pub all-with : {A : Type 0} (Holds : A → Type 0) (passes : A → Bool) (other : A) (xs : List A) → AllByRecursion Holds xs → Holds other
    → AllByRecursion Holds (with_first passes other xs)
all-with Holds passes other [] all holds = tt
all-with Holds passes other (y ∷ ys) all holds =
    all-by Holds (passes y) (other ∷ ys) (y ∷ with_first passes other ys) (holds, all.1) (all.0, all-with Holds passes other ys all.1 holds)

-- ---- The same of what is kept of each

found-by : {A B : Type 0} (f : A → B) (test : Bool) (y : A) (there : Option B) (here : Option A) → there ≡ option_map f here
    → (if test then Some (f y) else there) ≡ option_map f (if test then Some y else here)
found-by f true y there here is = refl
found-by f false y there here is = is

pub map-first : {A B : Type 0} (f : A → B) (passes : B → Bool) (xs : List A)
    → first_of passes (map f xs) ≡ option_map f (first_of (λ x. passes (f x)) xs)
map-first f passes [] = refl
map-first f passes (y ∷ ys) =
    found-by f (passes (f y)) y (first_of passes (map f ys)) (first_of (λ x. passes (f x)) ys) (map-first f passes ys)

list-by : {A B : Type 0} (f : A → B) (test : Bool) (one two : List A) (first second : List B) → first ≡ map f one → second ≡ map f two
    → (if test then first else second) ≡ map f (if test then one else two)
list-by f true one two first second is other = is
list-by f false one two first second is other = other

pub map-without : {A B : Type 0} (f : A → B) (passes : B → Bool) (xs : List A)
    → without_first passes (map f xs) ≡ map f (without_first (λ x. passes (f x)) xs)
map-without f passes [] = refl
map-without {B = B} f passes (y ∷ ys) =
    list-by f (passes (f y)) ys (y ∷ without_first (λ x. passes (f x)) ys) (map f ys) (f y ∷ without_first passes (map f ys)) refl
    (ap (λ (rest : List B). f y ∷ rest) (map-without f passes ys))

pub map-with : {A B : Type 0} (f : A → B) (passes : B → Bool) (other : A) (xs : List A)
    → with_first passes (f other) (map f xs) ≡ map f (with_first (λ x. passes (f x)) other xs)
map-with f passes other [] = refl
map-with {B = B} f passes other (y ∷ ys) =
    list-by f (passes (f y)) (other ∷ ys) (y ∷ with_first (λ x. passes (f x)) other ys) (f other ∷ map f ys) (f y ∷ with_first passes (f other) (map f ys)) refl
    (ap (λ (rest : List B). f y ∷ rest) (map-with f passes other ys))
