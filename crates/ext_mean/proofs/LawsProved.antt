-- The laws of the meaning.
use Rattle.std.proofs.Common.{◌≡◌, ◌⊎◌, inl, inr, ℕ, ◌≤◌, List, length, Option, Some, None, refl, sym, ap, ◌∙◌, subst, arith}
use Rattle.std.specs.Prelude.{IsTrue}
use Rattle.sp_base.specs.Places.{Place}
use Rattle.sp_base.specs.RightsList.{can_read}
use Rattle.ext_mean.specs.declared.run.Run.{Run}
use Rattle.ext_mean.specs.declared.run.Run.TheVariants.{Spent, Wants}
use Rattle.ext_mean.specs.declared.tree.Program.{Program}
use Rattle.ext_mean.specs.declared.state.Value.{Value}
use Rattle.ext_mean.specs.Views.{View, Extends}
use Rattle.ext_mean.specs.Outcomes.{outcome_of}
use Rattle.ext_mean.specs.Laws.{GreaterBudgetsMeanTheSame, KnownRecordsDecide}
use Rattle.ext_mean.specs.Meaning.{mean, main_of, start, ended}
use Rattle.ext_mean.specs.Work.{World, Step}
use Rattle.ext_mean.proofs.Agreement.{Mark, Going, mark, grown, Grows, Same}
use Rattle.ext_mean.proofs.AgreeingPrograms.{main-agrees}

abbrev pub world_of : List ℕ → ℕ → View → World
world_of args budget view = record { args = args; budget = budget; view = view }

abbrev pub run_of : Program → World → Step Value
run_of program world = main_of world program.functions (length program.functions) start

pub mean-ended : (program : Program) (args : List ℕ) (budget : ℕ) (view : View) → mean program args budget view ≡ ended (run_of program (world_of args budget view))
unfolding mean
mean-ended program args budget view = refl

-- where the first run's stop is not free, the two runs end alike
pub same-end : (free : Run → Mark → Type 0) (first second : Step Value) → Same free first second → ((m : Mark) → free (ended first) m → ⊥) → ended second ≡ ended first
same-end free first second same excluded = elim same [
  | inl e ↦ ap ended e
  | inr f ↦ absurd (excluded (mark second) (subst (λ run. free run (mark second)) (ap ended f.stopped) f.allowed))
]

abbrev spent_free : Run → Mark → Type 0
spent_free run m = run ≡ Spent

greater-grows : (args : List ℕ) (budget greater : ℕ) (view : View) → budget ≤ greater → Grows spent_free (world_of args budget view) greater view.known
greater-grows args budget greater view fits = record {
  fits = fits;
  spends = inr (λ m reach. refl);
  knows = λ place readable. inl refl;
  closed = λ run used m free owes. free;
}

pub greater-budgets : GreaterBudgetsMeanTheSame
greater-budgets program args budget greater view fits unspent =
    let small = world_of args budget view in
    let agree = main-agrees spent_free small greater view.known (greater-grows args budget greater view fits) program.functions (length program.functions) start in
    mean-ended program args greater view
    ∙ same-end spent_free (run_of program small) (run_of program (world_of args greater view)) agree.same
    (λ m free. unspent (mean-ended program args budget view ∙ free))
    ∙ sym (mean-ended program args budget view)

abbrev want_free : Run → Mark → Type 0
want_free run m = outcome_of run ≡ None

known-grows : (args : List ℕ) (budget : ℕ) (small large : View) → Extends small large → Grows want_free (world_of args budget small) budget large.known
known-grows args budget small large extends = record {
  fits = omega arith;
  spends = inl refl;
  knows = λ place readable. knows-at place readable (small.known place) refl;
  closed = λ run used m free owes. free;
}
  where
    knows-at : (place : Place) → IsTrue (can_read small.rights place.table) → (answer : Option (Option (List ℕ))) → small.known place ≡ answer → (large.known place ≡ small.known place) ⊎ ((small.known place ≡ None) × ((used : ℕ) → want_free (Wants (record { 0 = place.table }) place.key used) (Going used)))
    knows-at place readable (Some value) e = inl (extends.known place readable (λ none. let f : Some value ≡ None = sym e ∙ none in cc))
    knows-at place readable None e = inr (e, λ used. refl)

pub known-records : KnownRecordsDecide
known-records program args budget small large extends decided =
    let world = world_of args budget small in
    let agree = main-agrees want_free world budget large.known (known-grows args budget small large extends) program.functions (length program.functions) start in
    let same-rights : run_of program (world_of args budget large) ≡ run_of program (grown world budget large.known) =
    ap (λ rights. run_of program (world_of args budget (record { rights = rights; known = large.known }))) extends.rights in
    mean-ended program args budget large
    ∙ ap ended same-rights
    ∙ same-end want_free (run_of program world) (run_of program (grown world budget large.known)) agree.same
    (λ m free. decided (ap outcome_of (mean-ended program args budget small) ∙ free))
    ∙ sym (mean-ended program args budget small)
