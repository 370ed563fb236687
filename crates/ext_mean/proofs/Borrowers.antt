-- The marked slices are those that may borrow from a buffer.
use Rattle.std.proofs.Common.{◌≡◌, ℕ, zero, suc, ◌+◌, ◌≤◌, ◌<◌, ◌⊎◌, Bool, true, false, List, [], ◌∷◌, length, replicate, Some, slice_get, refl, sym, ap, ◌∙◌, subst, inl, inr, arith, eq-eqb}
use Rattle.std.specs.Prelude.{slice_set, if◌then◌else◌}
use Rattle.std.proofs.lemmas.Bool.{eqb-true}
use Rattle.std.proofs.lemmas.Option.{same_Some}
use Rattle.ext_mean.specs.declared.borrowing.Gift.{Gift}
use Rattle.ext_mean.specs.declared.borrowing.Origin.{Origin}
use Rattle.ext_mean.specs.declared.borrowing.Origin.TheVariants as origin
use Rattle.ext_mean.specs.Origins.{is_marked}
use Rattle.ext_mean.specs.Borrowing.{IsGiven, MayBorrow, by_view, by_slice, borrows, one_round, rounds, borrowers, MarkedMayBorrow}

-- Marks.

none-marked : (count number : ℕ) → is_marked (replicate count false) number ≡ true → ⊥
none-marked zero number marked = cc
none-marked (suc count) zero marked = cc
none-marked (suc count) (suc number) marked = none-marked count number marked

set-length : (marks : List Bool) (number : ℕ) → length (slice_set marks number true) ≡ length marks
set-length [] number = refl
set-length (mark ∷ marks) zero = refl
set-length (mark ∷ marks) (suc number) = ap suc (set-length marks number)

set-marked : (marks : List Bool) (number : ℕ) → number < length marks → is_marked (slice_set marks number true) number ≡ true
set-marked [] number within = absurd (omega arith)
set-marked (mark ∷ marks) zero within = refl
set-marked (mark ∷ marks) (suc number) within = set-marked marks number (omega arith)

set-others : (marks : List Bool) (number other : ℕ) → is_marked (slice_set marks number true) other ≡ true
    → ((number ≡ other) × (number < length marks)) ⊎ (is_marked marks other ≡ true)
set-others [] number other marked = inr marked
set-others (mark ∷ marks) zero zero marked = inl (refl, omega arith)
set-others (mark ∷ marks) zero (suc other) marked = inr marked
set-others (mark ∷ marks) (suc number) zero marked = inr marked
set-others (mark ∷ marks) (suc number) (suc other) marked =
    elim (set-others marks number other marked) [
      | inl own ↦ inl (ap suc own.0, omega (arith, own.1))
      | inr kept ↦ inr kept
    ]

-- how many marks are set
ones : List Bool → ℕ
ones [] = 0
ones (true ∷ marks) = suc (ones marks)
ones (false ∷ marks) = ones marks

ones-few : (marks : List Bool) → ones marks ≤ length marks
unfolding ones
ones-few [] = omega arith
ones-few (true ∷ marks) = let rest = ones-few marks in omega arith
ones-few (false ∷ marks) = let rest = ones-few marks in omega arith

-- where all are set, each is
ones-all : (marks : List Bool) (number : ℕ) → length marks ≤ ones marks → number < length marks → is_marked marks number ≡ true
unfolding ones
ones-all [] number full within = absurd (omega arith)
ones-all (true ∷ marks) zero full within = refl
ones-all (true ∷ marks) (suc number) full within = ones-all marks number (omega arith) (omega arith)
ones-all (false ∷ marks) number full within = let few = ones-few marks in absurd (omega arith)

-- a mark is set already, or there is one more
set-counts : (marks : List Bool) (number : ℕ) → (slice_set marks number true ≡ marks) ⊎ (suc (ones marks) ≡ ones (slice_set marks number true))
unfolding ones
set-counts [] number = inl refl
set-counts (true ∷ marks) zero = inl refl
set-counts (false ∷ marks) zero = inr refl
set-counts (true ∷ marks) (suc number) =
    elim (set-counts marks number) [ inl same ↦ inl (ap (λ rest. true ∷ rest) same) | inr more ↦ inr (ap suc more) ]
set-counts (false ∷ marks) (suc number) =
    elim (set-counts marks number) [ inl same ↦ inl (ap (λ rest. false ∷ rest) same) | inr more ↦ inr more ]

-- One gift, and a round through all.

module _ (buffer : ℕ) where
  step : List Bool → Gift → List Bool
  step marks gift = if borrows buffer marks gift.origin then slice_set marks gift.to true else marks

  chosen-length : (test : Bool) (marks : List Bool) (number : ℕ) → length (if test then slice_set marks number true else marks) ≡ length marks
  chosen-length true marks number = set-length marks number
  chosen-length false marks number = refl

  chosen-counts : (test : Bool) (marks : List Bool) (number : ℕ) → ((if test then slice_set marks number true else marks) ≡ marks)
      ⊎ (suc (ones marks) ≡ ones (if test then slice_set marks number true else marks))
  chosen-counts true marks number = set-counts marks number
  chosen-counts false marks number = inl refl

  step-length : (marks : List Bool) (gift : Gift) → length (step marks gift) ≡ length marks
  unfolding step
  step-length marks gift = chosen-length (borrows buffer marks gift.origin) marks gift.to

  step-counts : (marks : List Bool) (gift : Gift) → (step marks gift ≡ marks) ⊎ (suc (ones marks) ≡ ones (step marks gift))
  unfolding step
  step-counts marks gift = chosen-counts (borrows buffer marks gift.origin) marks gift.to

  round-next : (gift : Gift) (gifts : List Gift) (marks : List Bool) → one_round buffer (gift ∷ gifts) marks ≡ one_round buffer gifts (step marks gift)
  unfolding step
  round-next gift gifts marks = refl

  round-length : (gifts : List Gift) (marks : List Bool) → length (one_round buffer gifts marks) ≡ length marks
  round-length [] marks = refl
  round-length (gift ∷ gifts) marks =
      ap length (round-next gift gifts marks) ∙ round-length gifts (step marks gift) ∙ step-length marks gift

  round-counts : (gifts : List Gift) (marks : List Bool) → ones marks ≤ ones (one_round buffer gifts marks)
  round-counts [] marks = omega arith
  round-counts (gift ∷ gifts) marks =
      let rest = round-counts gifts (step marks gift) in
      let all = ap ones (round-next gift gifts marks) in
      elim (step-counts marks gift) [
        | inl same ↦ omega (arith, rest, all, ap ones same)
        | inr more ↦ omega (arith, rest, all, more)
      ]

  -- no gift sets a mark
  IsSettled : List Bool → List Gift → Type 0
  IsSettled marks gifts = (at : ℕ) (gift : Gift) → slice_get gifts at ≡ Some gift → step marks gift ≡ marks

  settled-more : (marks : List Bool) (first : Gift) (gifts : List Gift) → step marks first ≡ marks → IsSettled marks gifts → IsSettled marks (first ∷ gifts)
  unfolding IsSettled
  settled-more marks first gifts own rest zero gift there =
      subst (λ (g : Gift). step marks g ≡ marks) (same_Some first gift there) own
  settled-more marks first gifts own rest (suc at) gift there = rest at gift there

  none-settled : (marks : List Bool) → IsSettled marks []
  unfolding IsSettled
  none-settled marks at gift there = cc

  -- a round sets no mark, or there is one more
  round-cases : (gifts : List Gift) (marks : List Bool)
      → ((one_round buffer gifts marks ≡ marks) × IsSettled marks gifts) ⊎ (suc (ones marks) ≤ ones (one_round buffer gifts marks))
  round-cases [] marks = inl (refl, none-settled marks)
  round-cases (gift ∷ gifts) marks =
      let all = round-next gift gifts marks in
      elim (step-counts marks gift) [
        | inl same ↦ elim (round-cases gifts marks) [
          | inl still ↦ inl (all ∙ ap (one_round buffer gifts) same ∙ still.0, settled-more marks gift gifts same still.1)
          | inr more ↦ inr (omega (arith, more, ap ones (all ∙ ap (one_round buffer gifts) same)))
        ]
        | inr more ↦ inr (omega (arith, more, round-counts gifts (step marks gift), ap ones all))
      ]

  rounds-still : (gifts : List Gift) (count : ℕ) (marks : List Bool) → one_round buffer gifts marks ≡ marks → rounds buffer gifts count marks ≡ marks
  rounds-still gifts zero marks still = refl
  rounds-still gifts (suc more) marks still = ap (rounds buffer gifts more) still ∙ rounds-still gifts more marks still

  -- after some rounds no gift sets a mark, or each round has set one
  rounds-cases : (gifts : List Gift) (count : ℕ) (marks : List Bool)
      → IsSettled (rounds buffer gifts count marks) gifts ⊎ (ones marks + count ≤ ones (rounds buffer gifts count marks))
  rounds-cases gifts zero marks = inr (omega arith)
  rounds-cases gifts (suc more) marks =
      elim (round-cases gifts marks) [
        | inl still ↦ inl (subst (λ (m : List Bool). IsSettled m gifts) (sym (rounds-still gifts (suc more) marks still.0)) still.1)
        | inr grown ↦ elim (rounds-cases gifts more (one_round buffer gifts marks)) [
          | inl settled ↦ inl settled
          | inr all ↦ inr (omega (arith, grown, all))
        ]
      ]

  rounds-length : (gifts : List Gift) (count : ℕ) (marks : List Bool) → length (rounds buffer gifts count marks) ≡ length marks
  rounds-length gifts zero marks = refl
  rounds-length gifts (suc more) marks = rounds-length gifts more (one_round buffer gifts marks) ∙ round-length gifts marks

  -- what is given to a variable sets its mark
  step-sets : (marks : List Bool) (gift : Gift) → step marks gift ≡ marks → borrows buffer marks gift.origin ≡ true → gift.to < length marks
      → is_marked marks gift.to ≡ true
  unfolding step
  step-sets marks gift same gives within =
      let set : slice_set marks gift.to true ≡ marks = rw gives at same in
      ap (λ (m : List Bool). is_marked m gift.to) (sym set) ∙ set-marked marks gift.to within

  -- No slice that may borrow is left out.

  given-marked : (gifts : List Gift) (marks : List Bool) (to : ℕ) (from : Origin)
      → IsSettled marks gifts ⊎ (length marks ≤ ones marks) → IsGiven gifts to from → borrows buffer marks from ≡ true → to < length marks
      → is_marked marks to ≡ true
  unfolding IsSettled
  given-marked gifts marks to from (inl settled) given gives within =
      step-sets marks (record { to = to; origin = from }) (settled given.0 (record { to = to; origin = from }) given.1) gives within
  given-marked gifts marks to from (inr full) given gives within = ones-all marks to full within

  may-marked : (gifts : List Gift) (count slice : ℕ) (marks : List Bool) → length marks ≡ count
      → IsSettled marks gifts ⊎ (length marks ≤ ones marks) → MayBorrow gifts count buffer slice → is_marked marks slice ≡ true
  may-marked gifts count slice marks size all (by_view below given) =
      given-marked gifts marks slice (origin.View buffer) all given (eq-eqb buffer buffer refl) (omega (arith, size, below))
  may-marked gifts count slice marks size all (by_slice other below given more) =
      given-marked gifts marks slice (origin.Slice other) all given (may-marked gifts count other marks size all more) (omega (arith, size, below))

  -- No other is marked.

  IsSound : List Gift → ℕ → List Bool → Type 0
  IsSound gifts count marks = (slice : ℕ) → is_marked marks slice ≡ true → MayBorrow gifts count buffer slice

  given-may : (gifts : List Gift) (count : ℕ) (marks : List Bool) (to : ℕ) (from : Origin) → IsSound gifts count marks
      → to < count → IsGiven gifts to from → borrows buffer marks from ≡ true → MayBorrow gifts count buffer to
  unfolding IsSound
  given-may gifts count marks to origin.Nothing sound below given gives = absurd cc
  given-may gifts count marks to (origin.View number) sound below given gives =
      by_view below (subst (λ (n : ℕ). IsGiven gifts to (origin.View n)) (eqb-true number buffer gives) given)
  given-may gifts count marks to (origin.Slice number) sound below given gives = by_slice number below given (sound number gives)

  set-sound : (gifts : List Gift) (count : ℕ) (marks : List Bool) (gift : Gift) → length marks ≡ count → IsSound gifts count marks
      → IsGiven gifts gift.to gift.origin → borrows buffer marks gift.origin ≡ true → IsSound gifts count (slice_set marks gift.to true)
  unfolding IsSound
  set-sound gifts count marks gift size sound given gives slice marked =
      elim (set-others marks gift.to slice marked) [
        | inl own ↦ subst (MayBorrow gifts count buffer) own.0
            (given-may gifts count marks gift.to gift.origin sound (omega (arith, size, own.1)) given gives)
        | inr kept ↦ sound slice kept
      ]

  chosen-sound : (gifts : List Gift) (count : ℕ) (marks : List Bool) (gift : Gift) (test : Bool) → length marks ≡ count → IsSound gifts count marks
      → IsGiven gifts gift.to gift.origin → borrows buffer marks gift.origin ≡ test
      → IsSound gifts count (if test then slice_set marks gift.to true else marks)
  chosen-sound gifts count marks gift true size sound given gives = set-sound gifts count marks gift size sound given gives
  chosen-sound gifts count marks gift false size sound given gives = sound

  step-sound : (gifts : List Gift) (count : ℕ) (marks : List Bool) (gift : Gift) → length marks ≡ count → IsSound gifts count marks
      → IsGiven gifts gift.to gift.origin → IsSound gifts count (step marks gift)
  unfolding step
  step-sound gifts count marks gift size sound given =
      chosen-sound gifts count marks gift (borrows buffer marks gift.origin) size sound given refl

  -- later gifts of a function
  abbrev AreAmong : List Gift → List Gift → Type 0
  AreAmong later gifts = (at : ℕ) (gift : Gift) → slice_get later at ≡ Some gift → IsGiven gifts gift.to gift.origin

  round-sound : (gifts later : List Gift) (count : ℕ) (marks : List Bool) → AreAmong later gifts → length marks ≡ count → IsSound gifts count marks
      → IsSound gifts count (one_round buffer later marks)
  round-sound gifts [] count marks among size sound = sound
  round-sound gifts (gift ∷ later) count marks among size sound =
      subst (IsSound gifts count) (sym (round-next gift later marks))
      (round-sound gifts later count (step marks gift) (λ at other there. among (suc at) other there)
      (step-length marks gift ∙ size) (step-sound gifts count marks gift size sound (among 0 gift refl)))

  rounds-sound : (gifts : List Gift) (count times : ℕ) (marks : List Bool) → length marks ≡ count → IsSound gifts count marks
      → IsSound gifts count (rounds buffer gifts times marks)
  rounds-sound gifts count zero marks size sound = sound
  rounds-sound gifts count (suc more) marks size sound =
      rounds-sound gifts count more (one_round buffer gifts marks) (round-length gifts marks ∙ size)
      (round-sound gifts gifts count marks (λ at gift there. (at, there)) size sound)

  none-sound : (gifts : List Gift) (count : ℕ) → IsSound gifts count (replicate count false)
  unfolding IsSound
  none-sound gifts count slice marked = absurd (none-marked count slice marked)

  sound-at : (gifts : List Gift) (count slice : ℕ) (marks : List Bool) → IsSound gifts count marks → is_marked marks slice ≡ true → MayBorrow gifts count buffer slice
  unfolding IsSound
  sound-at gifts count slice marks sound marked = sound slice marked

replicate-length : (count : ℕ) → length (replicate count false) ≡ count
replicate-length zero = refl
replicate-length (suc count) = ap suc (replicate-length count)

all-or-settled : (buffer : ℕ) (gifts : List Gift) (count : ℕ) (marks : List Bool) → length (rounds buffer gifts count marks) ≡ count
    → IsSettled buffer (rounds buffer gifts count marks) gifts ⊎ (ones marks + count ≤ ones (rounds buffer gifts count marks))
    → IsSettled buffer (rounds buffer gifts count marks) gifts ⊎ (length (rounds buffer gifts count marks) ≤ ones (rounds buffer gifts count marks))
all-or-settled buffer gifts count marks size (inl settled) = inl settled
all-or-settled buffer gifts count marks size (inr all) = inr (omega (arith, size, all))

pub marked-may-borrow : MarkedMayBorrow
unfolding borrowers
marked-may-borrow gifts count buffer slice =
    let none = replicate count false in
    let size = rounds-length buffer gifts count none ∙ replicate-length count in (
      sound-at buffer gifts count slice (rounds buffer gifts count none)
          (rounds-sound buffer gifts count count none (replicate-length count) (none-sound buffer gifts count)),
      may-marked buffer gifts count slice (rounds buffer gifts count none) size
          (all-or-settled buffer gifts count none size (rounds-cases buffer gifts count none)),
    )
