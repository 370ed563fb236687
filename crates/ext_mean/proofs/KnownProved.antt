-- What the known records that a run asks cost.
use Rattle.std.proofs.Common.{◌≡◌, ◌≢◌, ◌⊎◌, inl, inr, ℕ, suc, ◌+◌, ◌-◌, ◌/◌, ◌≤◌, ◌<◌, Bool, true, false, List, [], ◌∷◌, length, Option, Some, None, refl, sym, ap, ◌∙◌, subst, arith, eqb, if◌then◌else◌}
use Rattle.std.specs.List.{IsDistinct, AllByRecursion, list_any}
use Rattle.std.proofs.lemmas.Bool.{eqb-true}
use Rattle.std.proofs.lemmas.Bool.Decides.{nat_tests}
use Rattle.std.proofs.lemmas.List.Elements.{recursion_from_All}
use Rattle.std.proofs.lemmas.Map.Keys.{IsDistinct-cons, IsDistinct-head, IsDistinct-tail}
use Rattle.std.proofs.lemmas.Map.Steps.{length-le_from_distinct_below}
use Rattle.std.specs.Prelude.{IsTrue, ◌||◌}
use Rattle.sp_base.specs.declared.numbers.TableId.{TableId}
use Rattle.sp_base.specs.Places.{Place, same_place}
use Rattle.sp_base.specs.RightsList.{can_read}
use Rattle.ext_mean.specs.declared.run.Run.{Run}
use Rattle.ext_mean.specs.declared.run.Run.TheVariants.{Done, Trapped, Spent, Wants}
use Rattle.ext_mean.specs.declared.tree.Program.{Program}
use Rattle.ext_mean.specs.Asked.{without, AsksRecord, KnownRecordsCost}
use Rattle.ext_mean.specs.Laws.{WantsPersist, place_in}
use Rattle.ext_mean.specs.Meaning.{mean, start, ended}
use Rattle.ext_mean.specs.Outcomes.{outcome_of}
use Rattle.ext_mean.specs.Views.{View, Extends}
use Rattle.ext_mean.proofs.Agreement.{Mark, Going, Grows}
use Rattle.ext_mean.proofs.AgreeingPrograms.{main-agrees}
use Rattle.ext_mean.proofs.LawsProved.{world_of, run_of, mean-ended, same-end, known-records}
use Rattle.ext_mean.proofs.WantsProved.{knowing, same-meaning, next-want, are-due}

-- only the want of a place that the second view knows is free
abbrev known_free : View → Run → Mark → Type 0
known_free view (Done reply writes used) m = ⊥
known_free view (Trapped trap used) m = ⊥
known_free view Spent m = ⊥
known_free view (Wants table key used) m = view.known (place_in table key) ≢ None

known-closed : (view : View) (run : Run) (m m' : Mark) → known_free view run m → known_free view run m'
known-closed view (Done reply writes used) m m' free = free
known-closed view (Trapped trap used) m m' free = free
known-closed view Spent m m' free = free
known-closed view (Wants table key used) m m' free = free

persist-grows : (args : List ℕ) (budget : ℕ) (small large : View) → Extends small large → Grows (known_free large) (world_of args budget small) budget large.known
persist-grows args budget small large extends = record {
  fits = omega arith;
  spends = inl refl;
  knows = λ place readable. knows-at place readable (small.known place) (large.known place) refl refl;
  closed = λ run used m free owes. known-closed large run (Going used) m free;
}
  where
    knows-at : (place : Place) → IsTrue (can_read small.rights place.table) → (before later : Option (Option (List ℕ))) → small.known place ≡ before → large.known place ≡ later → (large.known place ≡ small.known place) ⊎ ((small.known place ≡ None) × ((used : ℕ) → large.known place ≢ None))
    knows-at place readable (Some value) later e l = inl (extends.known place readable (λ none. let f : Some value ≡ None = sym e ∙ none in cc))
    knows-at place readable None (Some value) e l = inr (e, λ used none. let f : Some value ≡ None = sym l ∙ none in cc)
    knows-at place readable None None e l = inl (l ∙ sym e)

pub persist : WantsPersist
persist program args budget small large table key used extends wants unknown =
    let world = world_of args budget small in
    let grown = world_of args budget (knowing small large) in
    let agree = main-agrees (known_free large) world budget large.known (persist-grows args budget small large extends) program.functions (length program.functions) start in
    let first : ended (run_of program world) ≡ Wants table key used = sym (mean-ended program args budget small) ∙ wants in
    same-meaning program args budget small large extends
    ∙ mean-ended program args budget (knowing small large)
    ∙ same-end (known_free large) (run_of program world) (run_of program grown) agree.same
    (λ m free. subst (λ run. known_free large run m) first free unknown)
    ∙ sym (mean-ended program args budget small)

abbrev Known : Type 0
Known = Option (Option (List ℕ))

-- hiding a place takes knowledge away and changes none
hidden : (same : Bool) (answer : Known) → (if same then None else answer) ≢ None → answer ≡ (if same then None else answer)
hidden true answer known = absurd (known refl)
hidden false answer known = refl

hidden-both : (first second : Bool) (answer : Known) → (if second then None else (if first then None else answer)) ≢ None → (if second then None else answer) ≡ (if second then None else (if first then None else answer))
hidden-both first true answer known = absurd (known refl)
hidden-both true false answer known = absurd (known refl)
hidden-both false false answer known = refl

-- what only the second hiding hides
hidden-second : (first second : Bool) (answer : Known) (value : Option (List ℕ)) → (if first then None else answer) ≡ Some value → (if second then None else (if first then None else answer)) ≡ None → (if second then None else answer) ≡ None
hidden-second first true answer value some none = refl
hidden-second true false answer value some none = absurd (let clash : None ≡ Some value = some in cc)
hidden-second false false answer value some none = none

shown : (same : Bool) (answer : Known) → same ≡ false → answer ≢ None → (if same then None else answer) ≢ None
shown true answer e known none = cc
shown false answer e known none = known none

without-extends : (view : View) (place : Place) → Extends (without view place) view
without-extends view place = record { rights = refl; known = λ other readable. hidden (same_place other place) (view.known other) }

without-both : (view : View) (first second : Place) → Extends (without (without view first) second) (without view second)
without-both view first second = record {
  rights = refl;
  known = λ other readable. hidden-both (same_place other first) (same_place other second) (view.known other);
}

-- a run wants something or is decided
record Wanting (run : Run) : Type 0 where
  table : TableId
  key : List ℕ
  used : ℕ
  is : run ≡ Wants table key used

wants-or-not : (run : Run) → Wanting run ⊎ (outcome_of run ≢ None)
wants-or-not (Done reply writes used) = inr (λ e. cc)
wants-or-not (Trapped trap used) = inr (λ e. cc)
wants-or-not Spent = inr (λ e. cc)
wants-or-not (Wants table key used) = inl (record { table = table; key = key; used = used; is = refl })

same-units : (table table' : TableId) (key key' : List ℕ) (used used' : ℕ) → Wants table key used ≡ Wants table' key' used' → used ≡ used'
same-units table table' key key' used used' e = cc

abbrev Apart : ℕ → ℕ → Type 0
Apart first second = (first + 16 ≤ second) ⊎ (second + 16 ≤ first)

lt-eqb : (m n : ℕ) → m < n → eqb m n ≡ false
lt-eqb m n less = grind (arith, nat_tests)

gt-eqb : (m n : ℕ) → n < m → eqb m n ≡ false
gt-eqb m n less = grind (arith, nat_tests)

distinct-none : IsDistinct eqb []
unfolding IsDistinct
distinct-none = tt

first-or-later : {P : Type 0} (first later : Bool) → (first || later) ≡ true → (first ≡ true → P) → (later ≡ true → P) → P
first-or-later true later found one other = one refl
first-or-later false later found one other = other found

module _ (program : Program) (args : List ℕ) (budget : ℕ) (view : View) where
  abbrev Asks : Place → Type 0
  Asks place = AsksRecord program args budget view place

  abbrev run_on : View → Run
  run_on other = mean program args budget other

  -- of two places that are asked, the one is asked 16 units or more behind the other
  apart-at : (p q : Place) → same_place p q ≡ false → (a : Asks p) (b : Asks q) → (w : Wanting (run_on (without (without view p) q))) → (answer : Known) → (without view p).known (place_in w.table w.key) ≡ answer → Apart a.used b.used
  apart-at p q differ a b w None unknown =
      let both = without (without view p) q in
      let same = persist program args budget both (without view p) w.table w.key w.used (without-extends (without view p) q) w.is unknown in
      inl (next-want program args budget both (without view q) (record { 0 = p.table }) (record { 0 = q.table }) p.key q.key a.used b.used
      (without-both view p q) (shown (same_place p q) (view.known p) differ a.known) (sym same ∙ a.wanted) b.wanted)
  apart-at p q differ a b w (Some value) known =
      let both = without (without view p) q in
      let place = place_in w.table w.key in
      let due = are-due program args budget both w.table w.key w.used w.is in
      let later : w.used + 16 ≤ a.used =
      next-want program args budget both (without view p) w.table (record { 0 = p.table }) w.key p.key w.used a.used
      (without-extends (without view p) q) (λ none. let clash : Some value ≡ None = sym known ∙ none in cc) w.is a.wanted in
      let unknown = hidden-second (same_place place p) (same_place place q) (view.known place) value known due.unknown in
      let same = persist program args budget both (without view q) w.table w.key w.used (without-both view p q) w.is unknown in
      let units = same-units w.table (record { 0 = q.table }) w.key q.key w.used b.used (sym w.is ∙ sym same ∙ b.wanted) in
      inr (omega arith)

  apart : (p q : Place) → same_place p q ≡ false → (a : Asks p) (b : Asks q) → Apart a.used b.used
  apart p q differ a b =
      let both = without (without view p) q in
      elim (wants-or-not (run_on both)) [
        | inl w ↦ apart-at p q differ a b w ((without view p).known (place_in w.table w.key)) refl
        | inr decided ↦ absurd (decided (ap outcome_of
            (sym (known-records program args budget both (without view p) (without-extends (without view p) q) decided) ∙ a.wanted)))
      ]

  asked-due : (p : Place) (a : Asks p) → 16 ≤ a.used
  asked-due p a = (are-due program args budget (without view p) (record { 0 = p.table }) p.key a.used a.wanted).paid

  asked-before : (p : Place) (a : Asks p) (table : TableId) (key : List ℕ) (used : ℕ) → run_on view ≡ Wants table key used → a.used + 16 ≤ used
  asked-before p a table key used wants =
      next-want program args budget (without view p) view (record { 0 = p.table }) table p.key key a.used used (without-extends view p) a.known a.wanted wants

  -- which sixteen units each place was asked in, from 0
  turn_of : (p : Place) → Asks p → ℕ
  turn_of p a = a.used / 16 - 1

  turns_of : (places : List Place) → AllByRecursion Asks places → List ℕ
  turns_of [] asks = []
  turns_of (p ∷ places) asks = turn_of p asks.0 ∷ turns_of places asks.1

  length-turns : (places : List Place) (asks : AllByRecursion Asks places) → length (turns_of places asks) ≡ length places
  unfolding turns_of
  length-turns [] asks = refl
  length-turns (p ∷ places) asks = ap suc (length-turns places asks.1)

  turns-differ : (p q : Place) (a : Asks p) (b : Asks q) → same_place p q ≡ false → eqb (turn_of p a) (turn_of q b) ≡ false
  unfolding turn_of
  turns-differ p q a b differ =
      let first = asked-due p a in
      let second = asked-due q b in
      elim (apart p q differ a b) [
        | inl before ↦ lt-eqb (a.used / 16 - 1) (b.used / 16 - 1) (omega arith)
        | inr behind ↦ gt-eqb (a.used / 16 - 1) (b.used / 16 - 1) (omega arith)
      ]

  turns-differ-all : (p : Place) (a : Asks p) (places : List Place) (asks : AllByRecursion Asks places) → AllByRecursion (λ q. same_place p q ≡ false) places → AllByRecursion (λ turn. eqb (turn_of p a) turn ≡ false) (turns_of places asks)
  unfolding turns_of
  turns-differ-all p a [] asks differ = tt
  turns-differ-all p a (q ∷ places) asks differ = (turns-differ p q a asks.0 differ.0, turns-differ-all p a places asks.1 differ.1)

  turns-distinct : (places : List Place) (asks : AllByRecursion Asks places) → IsDistinct same_place places → IsDistinct eqb (turns_of places asks)
  unfolding turns_of
  turns-distinct [] asks distinct = distinct-none
  turns-distinct (p ∷ places) asks distinct =
      IsDistinct-cons eqb (turn_of p asks.0) (turns_of places asks.1)
      (turns-differ-all p asks.0 places asks.1 (IsDistinct-head same_place p places distinct))
      (turns-distinct places asks.1 (IsDistinct-tail same_place p places distinct))

  turns-below : (table : TableId) (key : List ℕ) (used : ℕ) → run_on view ≡ Wants table key used → (places : List Place) (asks : AllByRecursion Asks places) → (turn : ℕ) → list_any (eqb turn) (turns_of places asks) ≡ true → turn < used / 16 - 1
  unfolding turns_of turn_of
  turns-below table key used wants [] asks turn found = absurd (let clash : false ≡ true = found in cc)
  turns-below table key used wants (p ∷ places) asks turn found =
      let due = asked-due p asks.0 in
      let before = asked-before p asks.0 table key used wants in
      first-or-later (eqb turn (turn_of p asks.0)) (list_any (eqb turn) (turns_of places asks.1)) found
      (λ e. let same = eqb-true turn (asks.0.used / 16 - 1) e in omega arith)
      (turns-below table key used wants places asks.1 turn)

pub known-cost : KnownRecordsCost
known-cost program args budget view places table key used distinct asks wants =
    let all = recursion_from_All (AsksRecord program args budget view) places asks in
    let turns = turns_of program args budget view places all in
    let few : length turns ≤ used / 16 - 1 =
    length-le_from_distinct_below turns (used / 16 - 1) (turns-distinct program args budget view places all distinct)
    (turns-below program args budget view table key used wants places all) in
    let many : length turns ≡ length places = length-turns program args budget view places all in
    let due = (are-due program args budget view table key used wants).paid in
    omega (arith, few, many, due)
