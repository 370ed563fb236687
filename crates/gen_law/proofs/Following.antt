-- The machine follows a piece of work: from where it stands, so many turns bring it to where the work
-- hands on its value, or the run is over as the work ends it. The turns are paid for by the units used.
use Rattle.std.proofs.Common.{◌≡◌, ℕ, zero, suc, ◌+◌, ◌*◌, ◌≤◌, refl, ap, ◌∙◌, arith, suc-add, zero-add, mul-add, mul-one, mul-le-mul_left}
use Rattle.ext_mean.specs.declared.run.Run.{Run}
use Rattle.ext_mean.specs.declared.state.State.{State}
use Rattle.ext_mean.specs.Work.{World, Step, Next, Ends, Work, after}
use Rattle.gen_code.specs.declared.code.Code.{Code}
use Rattle.gen_code.specs.Machine.{Progress, Over, once, steps}

-- a machine: its code, its world, and how many turns each unit pays for
pub record Machine : Type 0 where
  pub code : Code
  pub world : World
  pub cost : ℕ
  pub some : 1 ≤ cost

-- so many turns lead from one place to another, where so many units are used
pub record Continues (m : Machine) (before slack : ℕ) (from to : Progress) (used : ℕ) : Type 0 where
  pub count : ℕ
  pub arrives : steps m.code m.world count from ≡ to
  pub cheap : count + m.cost * before ≤ m.cost * used + slack
  pub grows : before ≤ used
  pub within : used ≤ m.world.budget

-- so many turns lead to the end of the run
pub record Finishes (m : Machine) (before slack : ℕ) (from : Progress) (run : Run) : Type 0 where
  pub count : ℕ
  pub arrives : steps m.code m.world count from ≡ Over run
  pub cheap : count + m.cost * before ≤ m.cost * m.world.budget + m.cost + slack

abbrev FollowFact : {A : Type 0} → Machine → ℕ → ℕ → Progress → (A → State → Type 0) → (A → State → Progress) → Step A → Type 0
FollowFact m before slack from P K (Next value state) = Continues m before slack from (K value state) state.used × P value state
FollowFact m before slack from P K (Ends run) = Finishes m before slack from run

-- The machine follows a step of work that began with so many units used: where the step hands on a value
-- it stands at `K`, and `P` holds there. It makes at most `slack` turns more than the units pay for.
pub record Follow {A : Type 0} (m : Machine) (before slack : ℕ) (from : Progress) (P : A → State → Type 0) (K : A → State → Progress) (step : Step A) : Type 0 where
  pub fact : FollowFact m before slack from P K step

pub steps-over : (code : Code) (world : World) (count : ℕ) (run : Run) → steps code world count (Over run) ≡ Over run
steps-over code world zero run = refl
steps-over code world (suc count) run = steps-over code world count run

pub steps-add : (code : Code) (world : World) (first more : ℕ) (p : Progress) → steps code world (first + more) p ≡ steps code world more (steps code world first p)
steps-add code world zero more p = ap (λ n. steps code world n p) (zero-add more)
steps-add code world (suc first) more p = ap (λ n. steps code world n p) (suc-add first more) ∙ steps-add code world first more (once code world p)

module _ (m : Machine) where
  -- the machine stands where the value is handed on
  pub arrived : {A : Type 0} {P : A → State → Type 0} {K : A → State → Progress} (value : A) (state : State) (slack : ℕ) → state.used ≤ m.world.budget → P value state → Follow m state.used slack (K value state) P K (Next value state)
  arrived value state slack fits holds =
      record { fact = (record { count = 0; arrives = refl; cheap = omega arith; grows = omega arith; within = fits }, holds) }

  -- the run is over where the work ends it
  pub over : {A : Type 0} {P : A → State → Type 0} {K : A → State → Progress} (run : Run) (before slack : ℕ) → before ≤ m.world.budget → Follow m before slack (Over run) P K (Ends run)
  over run before slack fits =
      record { fact = record { count = 0; arrives = refl; cheap = (let more = mul-le-mul_left m.cost fits in omega arith) } }

  -- one turn leads to the end of the run
  pub ended : {A : Type 0} {P : A → State → Type 0} {K : A → State → Progress} (before slack : ℕ) (from : Progress) (run : Run)
      → once m.code m.world from ≡ Over run → before ≤ m.world.budget → Follow m before slack from P K (Ends run)
  ended before slack from run turn fits =
      let some = m.some in
      record { fact = record { count = 1; arrives = turn; cheap = (let more = mul-le-mul_left m.cost fits in omega arith) } }

  -- a turn, and what follows from where it leads
  turned-step : {A : Type 0} (P : A → State → Type 0) (K : A → State → Progress) (before slack slack' : ℕ) (from there : Progress) (step : Step A)
      → once m.code m.world from ≡ there → slack + 1 ≤ slack' → FollowFact m before slack there P K step → FollowFact m before slack' from P K step
  turned-step P K before slack slack' from there (Next value state) turn more fact = (
    record {
      count = suc fact.0.count;
      arrives = ap (λ p. steps m.code m.world fact.0.count p) turn ∙ fact.0.arrives;
      cheap = (let cheap = fact.0.cheap in omega arith);
      grows = fact.0.grows;
      within = fact.0.within;
    },
    fact.1,
  )
  turned-step P K before slack slack' from there (Ends run) turn more fact =
      record {
        count = suc fact.count;
        arrives = ap (λ p. steps m.code m.world fact.count p) turn ∙ fact.arrives;
        cheap = (let cheap = fact.cheap in omega arith);
      }

  pub turned : {A : Type 0} {P : A → State → Type 0} {K : A → State → Progress} (before slack slack' : ℕ) (from there : Progress) (step : Step A)
      → once m.code m.world from ≡ there → slack + 1 ≤ slack' → Follow m before slack there P K step → Follow m before slack' from P K step
  turned {P = P} {K = K} before slack slack' from there step turn more follow =
      record { fact = turned-step P K before slack slack' from there step turn more follow.fact }

  -- with more slack
  wider-step : {A : Type 0} (P : A → State → Type 0) (K : A → State → Progress) (before slack slack' : ℕ) (from : Progress) (step : Step A)
      → slack ≤ slack' → FollowFact m before slack from P K step → FollowFact m before slack' from P K step
  wider-step P K before slack slack' from (Next value state) more fact =
      (record { count = fact.0.count; arrives = fact.0.arrives; cheap = (let cheap = fact.0.cheap in omega arith); grows = fact.0.grows; within = fact.0.within }, fact.1)
  wider-step P K before slack slack' from (Ends run) more fact =
      record { count = fact.count; arrives = fact.arrives; cheap = (let cheap = fact.cheap in omega arith) }

  pub wider : {A : Type 0} {P : A → State → Type 0} {K : A → State → Progress} (before slack slack' : ℕ) (from : Progress) (step : Step A)
      → slack ≤ slack' → Follow m before slack from P K step → Follow m before slack' from P K step
  wider {P = P} {K = K} before slack slack' from step more follow = record { fact = wider-step P K before slack slack' from step more follow.fact }

  -- turns that lead to a place, and what follows from there
  joined : {B : Type 0} (P : B → State → Type 0) (K : B → State → Progress) (before used slack1 slack2 slack : ℕ) (from middle : Progress) (step : Step B)
      → slack1 + slack2 ≤ slack → Continues m before slack1 from middle used → FollowFact m used slack2 middle P K step → FollowFact m before slack from P K step
  joined P K before used slack1 slack2 slack from middle (Next value state) sum first second = (
    record {
      count = first.count + second.0.count;
      arrives = steps-add m.code m.world first.count second.0.count from
          ∙ ap (λ p. steps m.code m.world second.0.count p) first.arrives ∙ second.0.arrives;
      cheap = (let one = first.cheap in let other = second.0.cheap in omega arith);
      grows = (let one = first.grows in let other = second.0.grows in omega arith);
      within = second.0.within;
    },
    second.1,
  )
  joined P K before used slack1 slack2 slack from middle (Ends run) sum first second =
      record {
        count = first.count + second.count;
        arrives = steps-add m.code m.world first.count second.count from
            ∙ ap (λ p. steps m.code m.world second.count p) first.arrives ∙ second.arrives;
        cheap = (let one = first.cheap in let other = second.cheap in omega arith);
      }

  finished : (before slack1 slack2 slack : ℕ) (from : Progress) (run : Run) → slack1 + slack2 ≤ slack → Finishes m before slack1 from run → Finishes m before slack from run
  finished before slack1 slack2 slack from run sum first =
      record { count = first.count; arrives = first.arrives; cheap = (let cheap = first.cheap in omega arith) }

  bind-step : {A B : Type 0} (P : A → State → Type 0) (K : A → State → Progress) (P' : B → State → Type 0) (K' : B → State → Progress)
      (before slack1 slack2 slack : ℕ) (from : Progress) (step : Step A) (more : A → Work B)
      → slack1 + slack2 ≤ slack → FollowFact m before slack1 from P K step
      → ((value : A) (state : State) → before ≤ state.used → state.used ≤ m.world.budget → P value state → Follow m state.used slack2 (K value state) P' K' (more value state))
      → FollowFact m before slack from P' K' (after step more)
  bind-step P K P' K' before slack1 slack2 slack from (Next value state) more sum fact rest =
      joined P' K' before state.used slack1 slack2 slack from (K value state) (more value state) sum fact.0
      (rest value state fact.0.grows fact.0.within fact.1).fact
  bind-step P K P' K' before slack1 slack2 slack from (Ends run) more sum fact rest =
      finished before slack1 slack2 slack from run sum fact

  -- one piece of work, and what follows behind it
  pub bind : {A B : Type 0} (P : A → State → Type 0) (K : A → State → Progress) {P' : B → State → Type 0} {K' : B → State → Progress}
      (before slack1 slack2 slack : ℕ) (from : Progress) (step : Step A) (more : A → Work B)
      → slack1 + slack2 ≤ slack → Follow m before slack1 from P K step
      → ((value : A) (state : State) → before ≤ state.used → state.used ≤ m.world.budget → P value state → Follow m state.used slack2 (K value state) P' K' (more value state))
      → Follow m before slack from P' K' (after step more)
  bind P K {P' = P'} {K' = K'} before slack1 slack2 slack from step more sum follow rest =
      record { fact = bind-step P K P' K' before slack1 slack2 slack from step more sum follow.fact rest }

  -- units that were used pay for turns
  refunded-step : {A : Type 0} (P : A → State → Type 0) (K : A → State → Progress) (before later slack slack' : ℕ) (from : Progress) (step : Step A)
      → before ≤ later → slack + m.cost * before ≤ m.cost * later + slack' → FollowFact m later slack from P K step → FollowFact m before slack' from P K step
  refunded-step P K before later slack slack' from (Next value state) low pays fact =
      (record { count = fact.0.count; arrives = fact.0.arrives; cheap = (let cheap = fact.0.cheap in omega arith); grows = (let grows = fact.0.grows in omega arith); within = fact.0.within }, fact.1)
  refunded-step P K before later slack slack' from (Ends run) low pays fact =
      record { count = fact.count; arrives = fact.arrives; cheap = (let cheap = fact.cheap in omega arith) }

  -- more units are used from here on, and they pay for so many turns
  pub refunded : {A : Type 0} {P : A → State → Type 0} {K : A → State → Progress} (before later slack slack' : ℕ) (from : Progress) (step : Step A)
      → before + 1 ≤ later → slack ≤ m.cost + slack' → Follow m later slack from P K step → Follow m before slack' from P K step
  refunded {P = P} {K = K} before later slack slack' from step low pays follow =
      let more = mul-le-mul_left m.cost low in
      let one = mul-add m.cost before 1 in
      let single = mul-one m.cost in
      record { fact = refunded-step P K before later slack slack' from step (omega arith) (omega arith) follow.fact }

  -- as many units, or more, are used from here on
  pub raised : {A : Type 0} {P : A → State → Type 0} {K : A → State → Progress} (before later slack : ℕ) (from : Progress) (step : Step A)
      → before ≤ later → Follow m later slack from P K step → Follow m before slack from P K step
  raised {P = P} {K = K} before later slack from step low follow =
      let more = mul-le-mul_left m.cost low in
      record { fact = refunded-step P K before later slack slack from step low (omega arith) follow.fact }
