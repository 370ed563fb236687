-- What runs use, and what their wants cost.
use Rattle.std.proofs.Common.{◌≡◌, ◌≢◌, ◌⊎◌, inl, inr, ℕ, ◌+◌, ◌≤◌, List, length, Option, Some, None, refl, sym, ap, ◌∙◌, subst, arith, nat_le}
use Rattle.std.specs.Prelude.{IsTrue}
use Rattle.std.proofs.lemmas.Bool.{leb-true}
use Rattle.sp_base.specs.declared.numbers.TableId.{TableId}
use Rattle.sp_base.specs.Limits.{IsKey}
use Rattle.sp_base.specs.Places.{Place}
use Rattle.sp_base.specs.RightsList.{can_read}
use Rattle.ext_mean.specs.declared.run.Run.{Run}
use Rattle.ext_mean.specs.declared.run.Run.TheVariants.{Done, Trapped, Spent, Wants}
use Rattle.ext_mean.specs.declared.tree.Program.{Program}
use Rattle.ext_mean.specs.declared.state.Value.{Value}
use Rattle.ext_mean.specs.Views.{View, Extends}
use Rattle.ext_mean.specs.Laws.{RunsStayWithinBudgets, IsWithin, WantsAreDue, WantsCost, NoneYet, OneMore, place_in}
use Rattle.ext_mean.specs.Meaning.{mean, start, ended}
use Rattle.ext_mean.specs.MeaningValues.{is_key}
use Rattle.ext_mean.specs.Work.{World, Step, Next, Ends}
use Rattle.ext_mean.proofs.Agreement.{Mark, Going, mark, Uses, Asks, Owes, owes-later, uses-none, Grows}
use Rattle.ext_mean.proofs.AgreeingPrograms.{main-agrees}
use Rattle.ext_mean.proofs.LawsProved.{world_of, run_of, mean-ended}
use Rattle.ext_mean.proofs.Pieces.{and-both}

-- nothing is free
abbrev pub none_free : Run → Mark → Type 0
none_free run m = ⊥

pub alone : (world : World) → Grows none_free world world.budget world.view.known
alone world = record {
  fits = omega arith;
  spends = inl refl;
  knows = λ place readable. inl refl;
  closed = λ run used m free owes. free;
}

-- what the run of a program owes
owed : (program : Program) (world : World) → Owes world 0 (mark (run_of program world))
owed program world =
    (main-agrees none_free world world.budget world.view.known (alone world) program.functions (length program.functions) start).owes

within-step : (world : World) (step : Step Value) → Owes world 0 (mark step) → IsWithin world.budget (ended step)
within-step world (Next value state) owes = owes.within (omega arith)
within-step world (Ends (Done reply writes used)) owes = owes.within (omega arith)
within-step world (Ends (Trapped trap used)) owes = owes.within (omega arith)
within-step world (Ends Spent) owes = tt
within-step world (Ends (Wants table key used)) owes = owes.within (omega arith)

pub stay-within : RunsStayWithinBudgets
stay-within program args budget view =
    let world = world_of args budget view in
    subst (IsWithin budget) (sym (mean-ended program args budget view)) (within-step world (run_of program world) (owed program world))

-- only a stop ends in a want
pub wants-ends : (step : Step Value) (table : TableId) (key : List ℕ) (used : ℕ) → ended step ≡ Wants table key used → step ≡ Ends (Wants table key used)
wants-ends (Next value state) table key used e = absurd (cc)
wants-ends (Ends run) table key used e = ap Ends e

-- what a want owes
pub asked : (program : Program) (args : List ℕ) (budget : ℕ) (view : View) (table : TableId) (key : List ℕ) (used : ℕ) → mean program args budget view ≡ Wants table key used → run_of program (world_of args budget view) ≡ Ends (Wants table key used)
asked program args budget view table key used e =
    wants-ends (run_of program (world_of args budget view)) table key used (sym (mean-ended program args budget view) ∙ e)

pub key-tested : (key : List ℕ) → IsTrue (is_key key) → IsKey key
key-tested key test =
    let parts = and-both (nat_le 1 (length key)) (nat_le (length key) 64) test in
    record { some = leb-true 1 (length key) parts.0; short = leb-true (length key) 64 parts.1 }

pub are-due : WantsAreDue
are-due program args budget view table key used e =
    let world = world_of args budget view in
    let owes : Asks world 0 table key used = subst (λ step. Owes world 0 (mark step)) (asked program args budget view table key used e) (owed program world) in
    record { paid = omega arith; unknown = owes.unknown; readable = owes.readable; sized = key-tested key owes.sized }

-- a want is free, and what the second run still does is owed behind it
abbrev behind_free : World → Run → Mark → Type 0
behind_free world (Done reply writes used) m = ⊥
behind_free world (Trapped trap used) m = ⊥
behind_free world Spent m = ⊥
behind_free world (Wants table key used) m = Owes world used m

behind-closed : (world : World) (run : Run) (used : ℕ) (m : Mark) → behind_free world run (Going used) → Owes world used m → behind_free world run m
behind-closed world (Done reply writes before) used m free owes = free
behind-closed world (Trapped trap before) used m free owes = free
behind-closed world Spent used m free owes = free
behind-closed world (Wants table key before) used m free owes = owes-later world before used m free owes

-- the view that knows what another knows, with the rights of the first
abbrev pub knowing : View → View → View
knowing small large = record { rights = small.rights; known = large.known }

behind-grows : (args : List ℕ) (budget : ℕ) (small large : View) → Extends small large → Grows (behind_free (world_of args budget (knowing small large))) (world_of args budget small) budget large.known
behind-grows args budget small large extends = record {
  fits = omega arith;
  spends = inl refl;
  knows = λ place readable. knows-at place readable (small.known place) refl;
  closed = behind-closed (world_of args budget (knowing small large));
}
  where
    knows-at : (place : Place) → IsTrue (can_read small.rights place.table) → (answer : Option (Option (List ℕ))) → small.known place ≡ answer → (large.known place ≡ small.known place) ⊎ ((small.known place ≡ None) × ((used : ℕ) → Uses (world_of args budget (knowing small large)) used used))
    knows-at place readable (Some value) e = inl (extends.known place readable (λ none. let f : Some value ≡ None = sym e ∙ none in cc))
    knows-at place readable None e = inr (e, uses-none (world_of args budget (knowing small large)))

pub same-meaning : (program : Program) (args : List ℕ) (budget : ℕ) (small large : View) → Extends small large → mean program args budget large ≡ mean program args budget (knowing small large)
same-meaning program args budget small large extends =
    ap (λ rights. mean program args budget (record { rights = rights; known = large.known })) extends.rights

-- where the record that was wanted is known, the next want comes at least 16 units later
pub next-want : (program : Program) (args : List ℕ) (budget : ℕ) (small large : View) (table next-table : TableId) (key next-key : List ℕ) (used next-used : ℕ)
    → Extends small large → large.known (place_in table key) ≢ None
    → mean program args budget small ≡ Wants table key used → mean program args budget large ≡ Wants next-table next-key next-used
    → used + 16 ≤ next-used
next-want program args budget small large table next-table key next-key used next-used extends answered first second =
    let world = world_of args budget (knowing small large) in
    let free = behind_free world in
    let next-stop : Step Value = Ends (Wants next-table next-key next-used) in
    let agree = main-agrees free (world_of args budget small) budget large.known (behind-grows args budget small large extends) program.functions (length program.functions) start in
    let first-run = asked program args budget small table key used first in
    let second-run = asked program args budget (knowing small large) next-table next-key next-used (sym (same-meaning program args budget small large extends) ∙ second) in
    elim agree.same [
      | inl e ↦
          (let again : run_of program world ≡ Ends (Wants table key used) = e ∙ first-run in
          let owes : Asks world 0 table key used = subst (λ step. Owes world 0 (mark step)) again agree.owes in
          absurd (answered owes.unknown))
      | inr f ↦
          (let stopped : f.run ≡ Wants table key used = ap ended (f.stopped ∙ first-run) in
          let owes : Asks world used next-table next-key next-used =
          subst (λ run. free run (mark next-stop)) stopped
          (subst (λ step. free f.run (mark step)) second-run f.allowed) in
          owes.cost)
    ]

-- each want of the chain comes 16 units behind the one before it
pub cost : WantsCost
cost program args budget view count table key used (NoneYet view') e =
    let due = are-due program args budget view table key used e in omega (arith, due.paid)
cost program args budget view count table key used (OneMore small large before first-table first-key first-used chain first extends answered) e =
    let earlier = cost program args budget small before first-table first-key first-used chain first in
    let later = next-want program args budget small large first-table table first-key key first-used used extends answered first e in
    omega (arith, earlier, later)
