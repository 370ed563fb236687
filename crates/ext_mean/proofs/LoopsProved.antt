-- A loop is one turn with the loop behind it.
use Rattle.std.proofs.Common.{◌≡◌, ℕ, zero, suc, ◌+◌, ◌≤◌, Bool, true, false, Option, Some, None, refl, sym, arith, nat_le, if◌then◌else◌}
use Rattle.std.proofs.lemmas.Bool.{leb-true}
use Rattle.ext_mean.specs.declared.run.Run.TheVariants.{Spent}
use Rattle.ext_mean.specs.declared.state.State.{State}
use Rattle.ext_mean.specs.declared.state.Value.{Value}
use Rattle.ext_mean.specs.Loops.{turn, LoopsUnroll}
use Rattle.ext_mean.specs.Work.{World, Step, Next, Ends, Work, after, ◌>>=◌, give}
use Rattle.ext_mean.specs.MeaningExpressions.{evaluate}
use Rattle.ext_mean.specs.MeaningValues.{truth_of}
use Rattle.ext_mean.specs.MeaningStatements.{Course, behind, run_block, turns}
use Rattle.ext_mean.specs.Meaning.{call_below}
use Rattle.ext_mean.proofs.Agreement.{mark, Owes, Owing}
use Rattle.ext_mean.proofs.AgreeingExpressions.{evaluate-agrees}
use Rattle.ext_mean.proofs.AgreeingStatements.{run_block-agrees}
use Rattle.ext_mean.proofs.AgreeingPrograms.{calls-agree}
use Rattle.ext_mean.proofs.WantsProved.{none_free, alone}

-- what stands behind a step is asked only for the states that it reaches
same-behind : {A B : Type 0} (world : World) (before : ℕ) (step : Step A) (k k' : A → Work B) → Owes world before (mark step) → ((value : A) (state : State) → before ≤ state.used → k value state ≡ k' value state) → after step k ≡ after step k'
same-behind world before (Next value state) k k' owes same = same value state owes.grows
same-behind world before (Ends run) k k' owes same = refl

module _ (world : World) (test : Work Value) (body : Course) (test-owes : Owing world test) (body-owes : Owing world body) where
  loop : ℕ → Course
  loop left = turns world left test body

  abbrev paid : State → State
  paid state = record state { used = state.used + 1 }

  spent-step : (fits : Bool) (state : State) (k : Unit {0} → Course) → nat_le (state.used + 1) world.budget ≡ fits → world.budget ≤ state.used → after (if fits then Next (tt {0}) (paid state) else Ends Spent) k ≡ Ends Spent
  spent-step true state k fits low = absurd (let high = leb-true (state.used + 1) world.budget fits in omega arith)
  spent-step false state k fits low = refl

  pay-step : (fits : Bool) (state : State) (k k' : Unit {0} → Course) → k tt (paid state) ≡ k' tt (paid state) → after (if fits then Next (tt {0}) (paid state) else Ends Spent) k ≡ after (if fits then Next (tt {0}) (paid state) else Ends Spent) k'
  pay-step true state k k' same = same
  pay-step false state k k' same = refl

  branch-step : (truth : Bool) (one one' : Course) (state : State) → one state ≡ one' state → (if truth then one else give None) state ≡ (if truth then one' else give None) state
  branch-step true one one' state same = same
  branch-step false one one' state same = refl

  behind-step : (rest rest' : Course) (returned : Option Value) (state : State) → rest state ≡ rest' state → behind rest returned state ≡ behind rest' returned state
  behind-step rest rest' (Some value) state same = refl
  behind-step rest rest' None state same = same

  -- one turn more changes nothing where the budget bounds the turns
  steady : (left : ℕ) (state : State) → world.budget ≤ state.used + left → turns world (suc left) test body state ≡ turns world left test body state
  steady zero state bound = spent-step (nat_le (state.used + 1) world.budget) state _ refl (omega arith)
  steady (suc left) state bound =
      pay-step (nat_le (state.used + 1) world.budget) state _ _
      (same-behind world (state.used + 1) (test (paid state)) _ _ (test-owes (paid state)) (λ truth tested low.
      branch-step (truth_of truth) (body >>= behind (turns world (suc left) test body)) (body >>= behind (turns world left test body)) tested
      (same-behind world tested.used (body tested) _ _ (body-owes tested) (λ returned later less.
      behind-step (turns world (suc left) test body) (turns world left test body) returned later
      (steady left later (omega arith))))))

  unrolled : (state : State) → turns world world.budget test body state ≡ turn world test body (turns world world.budget test body) state
  unrolled state = sym (steady world.budget state (omega arith))

pub loops-unroll : LoopsUnroll
loops-unroll world functions count test block state =
    let calls = call_below world functions count in
    unrolled world (evaluate world test) (run_block world calls block)
    (λ s. (evaluate-agrees none_free world world.budget world.view.known (alone world) test s).owes)
    (λ s. (run_block-agrees none_free world world.budget world.view.known (alone world) calls calls
    (calls-agree none_free world world.budget world.view.known (alone world) functions count) block s).owes)
    state
