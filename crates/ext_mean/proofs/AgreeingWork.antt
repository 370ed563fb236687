-- The pieces of which the meaning is made agree in a world and in one that grew from it.
use Rattle.std.proofs.Common.{◌≡◌, ◌⊎◌, inl, inr, ℕ, ◌+◌, ◌≤◌, Bool, true, false, List, [], ◌∷◌, map, Option, Some, None, refl, sym, subst, arith, if◌then◌else◌, nat_le}
use Rattle.std.specs.Prelude.{IsTrue}
use Rattle.std.proofs.lemmas.Bool.{leb-true, leb-false, le-leb}
use Rattle.sp_base.specs.declared.outcomes.Trap.{Trap}
use Rattle.sp_base.specs.declared.outcomes.Trap.TheVariants.{Denied}
use Rattle.sp_base.specs.declared.writes.Change.{Change}
use Rattle.sp_base.specs.Places.{Place}
use Rattle.sp_base.specs.RightsList.{can_read}
use Rattle.ext_mean.specs.declared.run.Run.{Run}
use Rattle.ext_mean.specs.declared.run.Run.TheVariants.{Trapped, Spent, Wants}
use Rattle.ext_mean.specs.declared.state.State.{State}
use Rattle.ext_mean.specs.MeaningValues.{is_key, left_by, pending}
use Rattle.ext_mean.specs.MeaningStatements.{found, read}
use Rattle.ext_mean.specs.Work.{World, Step, Next, Ends, Work, after, ◌>>=◌, give, charge, require, known_or_wanted, in_order}
use Rattle.ext_mean.proofs.Agreement.{Mark, Going, mark, Owes, Reaches, owes-reaches, reaches-less, uses-none, grown, Grows, Agree, Related, later, both}

module _ (free : Run → Mark → Type 0) (small : World) (budget : ℕ) (known : Place → Option (Option (List ℕ))) (grows : Grows free small budget known) where
  abbrev pub large : World
  large = grown small budget known

  abbrev pub R : {A : Type 0} → Work A → Work A → Type 0
  R first second = Related free small budget known grows first second

  pub same-step : {A : Type 0} (before : ℕ) (step : Step A) → Owes large before (mark step) → Agree free large before step step
  same-step before step owes = record { same = inl refl; owes = owes }

  pub given : {A : Type 0} (value : A) → R (give value) (give value)
  given value state = same-step state.used (Next value state) (uses-none large state.used)

  pub next : {A B : Type 0} {m m' : Work A} {k k' : A → Work B} → R m m' → ((value : A) → R (k value) (k' value)) → R (m >>= k) (m' >>= k')
  next {m = m} {m' = m'} {k = k} {k' = k'} = both free small budget known grows m m' k k'

  pub guarded : {B : Type 0} (test : Bool) (trap : Trap) (m m' : Work B) → (IsTrue test → R m m') → R (require test trap >>= (λ _. m)) (require test trap >>= (λ _. m'))
  guarded true trap m m' rest state = rest refl state
  guarded false trap m m' rest state = same-step state.used (Ends (Trapped trap state.used)) (uses-none large state.used)

  -- the state behind a charge
  abbrev paid : ℕ → State → State
  paid units state = record state { used = state.used + units }

  charge-cases : {B : Type 0} (b b' : Bool) (units : ℕ) (state : State) (k k' : Unit {0} → Work B)
      → (b ≡ true → b' ≡ true) → ((b' ≡ b) ⊎ (b ≡ false → free Spent (mark (k' tt (paid units state)))))
      → (b' ≡ true → Agree free large state.used (k tt (paid units state)) (k' tt (paid units state)))
      → Agree free large state.used (after (if b then Next tt (paid units state) else Ends Spent) k) (after (if b' then Next tt (paid units state) else Ends Spent) k')
  charge-cases true true units state k k' up spends rest = rest refl
  charge-cases true false units state k k' up spends rest = absurd (let e : false ≡ true = up refl in cc)
  charge-cases false true units state k k' up spends rest = elim spends [
    | inl e ↦ absurd (let f : true ≡ false = e in cc)
    | inr f ↦ record {
      same = inr (record { run = Spent; stopped = refl; allowed = f refl });
      owes = (rest refl).owes;
    }
  ]
  charge-cases false false units state k k' up spends rest = same-step state.used (Ends Spent) tt

  pub paying : {B : Type 0} (units : ℕ) (state : State) (k k' : Unit {0} → Work B)
      → Reaches (state.used + units) (mark (k' tt (paid units state)))
      → (state.used + units ≤ budget → Agree free large state.used (k tt (paid units state)) (k' tt (paid units state)))
      → Agree free large state.used ((charge small units >>= k) state) ((charge large units >>= k') state)
  paying units state k k' reach rest =
      let fits : small.budget ≤ budget = grows.fits in
      charge-cases (nat_le (state.used + units) small.budget) (nat_le (state.used + units) budget) units state k k'
      (λ h. let low = leb-true (state.used + units) small.budget h in le-leb (state.used + units) budget (omega arith))
      (elim grows.spends [
        | inl e ↦ inl (subst (λ b. nat_le (state.used + units) b ≡ nat_le (state.used + units) small.budget) (sym e) refl)
        | inr f ↦ inr (λ h. let over = leb-false (state.used + units) small.budget h in
            f (mark (k' tt (paid units state))) (reaches-less (small.budget + 1) (state.used + units) (mark (k' tt (paid units state))) (omega arith) reach))
      ])
      (λ h. rest (leb-true (state.used + units) budget h))

  pub charged : {B : Type 0} (units : ℕ) (m m' : Work B) → R m m' → R (charge small units >>= (λ _. m)) (charge large units >>= (λ _. m'))
  charged units m m' rest state = paying units state (λ _. m) (λ _. m')
      (owes-reaches large (state.used + units) (mark (m' (paid units state))) (rest (paid units state)).owes) (λ bound.
      later free small budget known grows state.used (state.used + units) (m (paid units state)) (m' (paid units state))
      (record { grows = omega arith; within = λ _. bound })
      (rest (paid units state)))

  charge-marked : (fits : Bool) (units : ℕ) (state : State) → (fits ≡ true → state.used + units ≤ budget) → Owes large state.used (mark (if fits then Next (tt {0}) (paid units state) else Ends Spent))
  charge-marked true units state bound = record { grows = omega arith; within = λ _. bound refl }
  charge-marked false units state bound = tt

  pub charge-owes : (units : ℕ) (state : State) → Owes large state.used (mark (charge large units state))
  charge-owes units state = charge-marked (nat_le (state.used + units) budget) units state (leb-true (state.used + units) budget)

  -- what is known of a place, behind its 16 units
  owes-known : (place : Place) (state : State) → state.used + 16 ≤ budget → IsTrue (can_read small.view.rights place.table) → IsTrue (is_key place.key)
      → (answer : Option (Option (List ℕ))) → known place ≡ answer → Owes large state.used (mark (known_or_wanted answer place (paid 16 state)))
  owes-known place state bound readable sized (Some value) e = record { grows = omega arith; within = λ _. bound }
  owes-known place state bound readable sized None e =
      record { cost = omega arith; within = λ _. bound; unknown = e; readable = readable; sized = sized }

  known-freed : (place : Place) (state : State) (answer answer' : Option (Option (List ℕ))) → answer ≡ None
      → ((used : ℕ) → free (Wants (record { 0 = place.table }) place.key used) (Going used))
      → Owes large state.used (mark (known_or_wanted answer' place (paid 16 state)))
      → Agree free large state.used (known_or_wanted answer place (paid 16 state)) (known_or_wanted answer' place (paid 16 state))
  known-freed place state answer (Some value) none allowed owes =
      record {
        same = inr (record {
          run = Wants (record { 0 = place.table }) place.key (state.used + 16);
          stopped = subst (λ z. Ends (Wants (record { 0 = place.table }) place.key (state.used + 16)) ≡ known_or_wanted z place (paid 16 state)) (sym none) refl;
          allowed = allowed (state.used + 16);
        });
        owes = owes;
      }
  known-freed place state answer None none allowed owes =
      record {
        same = inl (subst (λ z. known_or_wanted None place (paid 16 state) ≡ known_or_wanted z place (paid 16 state)) (sym none) refl);
        owes = owes;
      }

  known-step : (place : Place) (state : State) → state.used + 16 ≤ budget → IsTrue (can_read small.view.rights place.table) → IsTrue (is_key place.key)
      → Agree free large state.used (known_or_wanted (small.view.known place) place (paid 16 state)) (known_or_wanted (known place) place (paid 16 state))
  known-step place state bound readable sized =
      let owes = owes-known place state bound readable sized (known place) refl in
      elim (grows.knows place readable) [
        | inl e ↦ record { same = inl (subst (λ z. known_or_wanted (known place) place (paid 16 state) ≡ known_or_wanted z place (paid 16 state)) e refl); owes = owes }
        | inr f ↦ known-freed place state (small.view.known place) (known place) f.0 f.1 owes
      ]

  found-step : (change : Option Change) (place : Place) (state : State) → state.used + 16 ≤ budget → IsTrue (can_read small.view.rights place.table) → IsTrue (is_key place.key)
      → Agree free large state.used (found small place change (paid 16 state)) (found large place change (paid 16 state))
  found-step (Some change) place state bound readable sized =
      same-step state.used (Next (left_by change) (paid 16 state)) (record { grows = omega arith; within = λ _. bound })
  found-step None place state bound readable sized = known-step place state bound readable sized

  known-reaches : (answer : Option (Option (List ℕ))) (place : Place) (state : State) → Reaches (state.used + 16) (mark (known_or_wanted answer place (paid 16 state)))
  known-reaches (Some value) place state = omega arith
  known-reaches None place state = omega arith

  found-reaches : (change : Option Change) (place : Place) (state : State) → Reaches (state.used + 16) (mark (found large place change (paid 16 state)))
  found-reaches (Some change) place state = omega arith
  found-reaches None place state = known-reaches (known place) place state

  pub read-agrees : (table : ℕ) (key : List ℕ) → IsTrue (is_key key) → R (read small table key) (read large table key)
  read-agrees table key sized =
      let place : Place = record { table = table; key = key } in
      guarded (can_read small.view.rights table) Denied _ _ (λ readable state.
      paying 16 state _ _ (found-reaches (pending place state.writes) place state) (λ bound. found-step (pending place state.writes) place state bound readable sized))

  pub in_order-agrees : {A B : Type 0} (first second : A → Work B) → ((a : A) → R (first a) (second a)) → (list : List A) → R (in_order (map first list)) (in_order (map second list))
  in_order-agrees first second each [] = given []
  in_order-agrees first second each (a ∷ list) = next (each a) (λ value. next (in_order-agrees first second each list) (λ values. given (value ∷ values)))
