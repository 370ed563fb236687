-- The machine follows statements and blocks: each goes on behind itself, or has returned to the caller.
use Rattle.std.proofs.Common.{◌≡◌, ℕ, ◌+◌, ◌≤◌, List, [], ◌∷◌, ◌++◌, length, Option, Some, None, refl, arith}
use Rattle.ext_mean.specs.declared.state.State.{State}
use Rattle.ext_mean.specs.declared.state.Value.{Value}
use Rattle.ext_mean.specs.declared.tree.Param.{Param}
use Rattle.ext_mean.specs.MeaningStatements.{Course, behind, scoped, goes_on}
use Rattle.ext_mean.specs.Work.{Work, after, ◌>>=◌, give, charge}
use Rattle.gen_code.specs.declared.op.Op.{Op}
use Rattle.gen_code.specs.declared.op.Op.TheVariants as op
use Rattle.gen_code.specs.Codes.{Coder, ◌▸◌, emit}
use Rattle.gen_code.specs.Machine as machine
use Rattle.gen_code.specs.Machine.{Progress, Going, op_at}
use Rattle.gen_law.proofs.Following.{Machine, Follow, arrived, bind}
use Rattle.gen_law.proofs.Standing as standing
use Rattle.gen_law.proofs.Standing.{Here, InScope, at, config, HasAt, values}

-- where a course leads: behind itself, or back to the caller with the value that it returned
abbrev pub onto : Here → ℕ → List Value → Option Value → State → Progress
onto here stop stack None state = at here stop stack state
onto here stop stack (Some value) state = machine.back here.frames value state.used state.reply state.writes

-- the variables in scope behind a course that did not return
abbrev pub Leaves : List Param → Option Value → State → Type 0
Leaves scope None state = InScope scope state.locals
Leaves scope (Some value) state = Unit {0}

-- behind work that hands on no value
abbrev pub Behind : List Param → Unit {0} → State → Type 0
Behind scope value state = InScope scope state.locals

abbrev pub reached : Here → ℕ → List Value → Unit {0} → State → Progress
reached here stop stack value state = at here stop stack state

module _ (m : Machine) (here : Here) where
  abbrev Has : ℕ → List Op → Type 0
  Has base ops = HasAt m.code here.function base ops

  -- The instructions follow a course that declares these variables. So many turns are not paid for, and
  -- a unit pays for the instructions and so many turns.
  abbrev pub Matches : (ℕ → ℕ) → ℕ → Coder → List Param → Course → Type 0
  Matches slack room coder declares course =
      (scope : List Param) (base stop : ℕ) (stack : List Value) (state : State)
      → Has base (coder scope base) → base + length (coder scope base) ≡ stop
      → length (coder scope base) + room ≤ m.cost
      → InScope scope state.locals → state.used ≤ m.world.budget
      → Follow m state.used (slack (length (coder scope base))) (at here base stack state) (Leaves (scope ++ declares)) (onto here stop stack) (course state)

  -- a statement, whose unit pays for it
  abbrev pub Statement : Coder → List Param → Course → Type 0
  Statement coder declares course = Matches (λ many. 0) 3 coder declares course

  -- a block, at whose end variables are dropped
  abbrev pub Block : Coder → Course → Type 0
  Block coder course = Matches (λ many. 1) 3 coder [] course

  -- a form of statement, behind its unit
  abbrev pub Form : Coder → List Param → Course → Type 0
  Form coder declares course = Matches (λ many. many + 3) 4 coder declares course

  -- work that hands on no value
  abbrev pub Works : Coder → List Param → Work (Unit {0}) → Type 0
  Works coder declares work =
      (scope : List Param) (base stop : ℕ) (stack : List Value) (state : State)
      → Has base (coder scope base) → base + length (coder scope base) ≡ stop
      → InScope scope state.locals → state.used ≤ m.world.budget
      → Follow m state.used (length (coder scope base) + 3) (at here base stack state) (Behind (scope ++ declares)) (reached here stop stack) (work state)

  -- work that only goes on
  pub works-form : (coder : Coder) (declares : List Param) (work : Work (Unit {0})) → Works coder declares work → Form coder declares (goes_on work)
  works-form coder declares work works scope base stop stack state has ends room scoped fits =
      bind m (Behind (scope ++ declares)) (reached here stop stack) state.used (length (coder scope base) + 3) 0 (length (coder scope base) + 3) (at here base stack state) (work state) (λ _. give None) (omega arith)
      (works scope base stop stack state has ends scoped fits)
      (λ value later grows within scoped'. arrived m {P = Leaves (scope ++ declares)} {K = onto here stop stack} None later 0 within scoped')

  -- a form behind its unit
  pub form-statement : (coder : Coder) (declares : List Param) (course : Course) → Form coder declares course
      → Statement (emit (op.Charge 1 ∷ []) ▸ coder) declares (charge m.world 1 >>= (λ _. course))
  form-statement coder declares course form scope base stop stack state has ends room scoped fits =
      let rest = coder scope (base + 1) in
      standing.charged m here (length rest + 3) base stack state course has.0 fits (omega arith)
      (λ within. form scope (base + 1) stop stack (record state { used = state.used + 1 }) has.1 (omega (arith, ends)) (omega (arith, room)) scoped within)

  -- behind one statement the others, unless it returned
  pub behind-matches : (slack : ℕ) (rest : Course) (scope : List Param) (stop stop' : ℕ) (stack : List Value) (out : List Param) (returned : Option Value) (later : State)
      → later.used ≤ m.world.budget → Leaves scope returned later
      → (InScope scope later.locals → Follow m later.used slack (at here stop stack later) (Leaves out) (onto here stop' stack) (rest later))
      → Follow m later.used slack (onto here stop stack returned later) (Leaves out) (onto here stop' stack) (behind rest returned later)
  behind-matches slack rest scope stop stop' stack out None later within leaves follow = follow leaves
  behind-matches slack rest scope stop stop' stack out (Some value) later within leaves follow =
      arrived m {P = Leaves out} {K = onto here stop' stack} (Some value) later slack within tt

  -- a course and what follows behind it, unless it returned
  pub then-course : (slack : ℕ) (coder : Coder) (declares : List Param) (course rest : Course) (scope : List Param) (base slack' slack'' : ℕ) (stop' : ℕ) (stack : List Value) (out : List Param) (state : State)
      → Matches (λ many. slack) 3 coder declares course
      → Has base (coder scope base) → length (coder scope base) + 3 ≤ m.cost → InScope scope state.locals → state.used ≤ m.world.budget
      → slack + slack' ≤ slack''
      → ((later : State) → state.used ≤ later.used → later.used ≤ m.world.budget → InScope (scope ++ declares) later.locals
      → Follow m later.used slack' (at here (base + length (coder scope base)) stack later) (Leaves out) (onto here stop' stack) (rest later))
      → Follow m state.used slack'' (at here base stack state) (Leaves out) (onto here stop' stack) (after (course state) (behind rest))
  then-course slack coder declares course rest scope base slack' slack'' stop' stack out state matches has cost scoped fits sum follow =
      bind m (Leaves (scope ++ declares)) (onto here (base + length (coder scope base)) stack) state.used slack slack' slack'' (at here base stack state) (course state) (behind rest) sum
      (matches scope base (base + length (coder scope base)) stack state has refl cost scoped fits)
      (λ returned later grows within leaves.
      behind-matches slack' rest (scope ++ declares) (base + length (coder scope base)) stop' stack out returned later within leaves
      (λ scoped'. follow later grows within scoped'))
