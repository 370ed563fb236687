-- A run is the same with any number of units that holds those it used.
use Rattle.std.proofs.Common.{◌≡◌, ◌≢◌, inl, inr, ℕ, ◌+◌, ◌≤◌, List, length, refl, sym, ap, ◌∙◌, arith, nat_le, Bool, true, false}
use Rattle.std.proofs.lemmas.Bool.{leb-true, leb-false}
use Rattle.ext_mean.specs.declared.run.Run.{Run}
use Rattle.ext_mean.specs.declared.run.Run.TheVariants.{Done, Trapped, Spent, Wants}
use Rattle.ext_mean.specs.declared.state.Value.{Value}
use Rattle.ext_mean.specs.declared.tree.Program.{Program}
use Rattle.ext_mean.specs.Laws.{UsedUnitsSuffice}
use Rattle.ext_mean.specs.Meaning.{mean, start, ended}
use Rattle.ext_mean.specs.Outcomes.{units_of}
use Rattle.ext_mean.specs.Views.{View}
use Rattle.ext_mean.specs.Work.{World, Step, Next, Ends}
use Rattle.ext_mean.proofs.Agreement.{Mark, Going, mark, Owes, Reaches, owes-reaches, reaches-less, Grows, Same}
use Rattle.ext_mean.proofs.AgreeingPrograms.{main-agrees}
use Rattle.ext_mean.proofs.LawsProved.{world_of, run_of, mean-ended, greater-budgets}

-- the smaller run may be spent where the greater one has used more units than it has
abbrev over_free : ℕ → Run → Mark → Type 0
over_free units run m = (run ≡ Spent) × Reaches (units + 1) m

over-closed : (world : World) (units : ℕ) (run : Run) (used : ℕ) (m : Mark) → over_free units run (Going used) → Owes world used m → over_free units run m
over-closed world units run used m free owes =
    (free.0, reaches-less (units + 1) used m free.1 (owes-reaches world used m owes))

fewer-grows : (args : List ℕ) (units budget : ℕ) (view : View) → units ≤ budget → Grows (over_free units) (world_of args units view) budget view.known
fewer-grows args units budget view fits = record {
  fits = fits;
  spends = inr (λ m reach. (refl, reach));
  knows = λ place readable. inl refl;
  closed = over-closed (world_of args budget view) units;
}

-- a run does not both use more than some units and no more than them
not-over : (budget units : ℕ) (step : Step Value) → ended step ≢ Spent → Reaches (units + 1) (mark step) → units_of budget (ended step) ≤ units → ⊥
not-over budget units (Next value state) unspent reach fits = omega arith
not-over budget units (Ends (Done reply writes used)) unspent reach fits = omega arith
not-over budget units (Ends (Trapped trap used)) unspent reach fits = omega arith
not-over budget units (Ends Spent) unspent reach fits = unspent refl
not-over budget units (Ends (Wants table key used)) unspent reach fits = omega arith

same-run : (budget units : ℕ) (first second : Step Value) → Same (over_free units) first second → ended second ≢ Spent
    → units_of budget (ended second) ≤ units → ended first ≡ ended second
same-run budget units first second same unspent fits = elim same [
  | inl e ↦ ap ended (sym e)
  | inr f ↦ absurd (not-over budget units second unspent f.allowed.1 fits)
]

fewer : (program : Program) (args : List ℕ) (budget units : ℕ) (view : View) → units ≤ budget → mean program args budget view ≢ Spent
    → units_of budget (mean program args budget view) ≤ units → mean program args units view ≡ mean program args budget view
fewer program args budget units view less unspent fits =
    let small = world_of args units view in
    let large = world_of args budget view in
    let agree = main-agrees (over_free units) small budget view.known (fewer-grows args units budget view less) program.functions (length program.functions) start in
    let is : mean program args budget view ≡ ended (run_of program large) = mean-ended program args budget view in
    mean-ended program args units view
    ∙ same-run budget units (run_of program small) (run_of program large) agree.same
    (λ spent. unspent (is ∙ spent)) (rw is at fits)
    ∙ sym is

either-way : (program : Program) (args : List ℕ) (budget units : ℕ) (view : View) (less : Bool) → nat_le units budget ≡ less
    → mean program args budget view ≢ Spent → units_of budget (mean program args budget view) ≤ units
    → mean program args units view ≡ mean program args budget view
either-way program args budget units view true is unspent fits =
    fewer program args budget units view (leb-true units budget is) unspent fits
either-way program args budget units view false is unspent fits =
    let more = leb-false units budget is in
    greater-budgets program args budget units view (omega arith) unspent

pub used-suffice : UsedUnitsSuffice
used-suffice program args budget units view unspent fits =
    either-way program args budget units view (nat_le units budget) refl unspent fits
