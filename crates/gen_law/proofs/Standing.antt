-- Where the machine stands with the state of a run: at an instruction of a function, with the values of
-- the variables in its slots.
use Rattle.std.proofs.Common.{◌≡◌, ℕ, ◌+◌, ◌≤◌, Bool, true, false, List, [], ◌∷◌, ◌++◌, length, refl, sym, ap, subst, arith, if◌then◌else◌, nat_le}
use Rattle.std.proofs.lemmas.Bool.{leb-true}
use Rattle.sp_base.specs.declared.outcomes.Trap.{Trap}
use Rattle.ext_mean.specs.declared.run.Run.TheVariants.{Trapped, Spent}
use Rattle.ext_mean.specs.declared.state.Local.{Local}
use Rattle.ext_mean.specs.declared.state.State.{State}
use Rattle.ext_mean.specs.declared.state.Value.{Value}
use Rattle.ext_mean.specs.declared.tree.Param.{Param}
use Rattle.ext_mean.specs.Work.{Step, Next, Ends, Work, after, charge, require}
use Rattle.gen_code.specs.declared.code.Code.{Code}
use Rattle.gen_code.specs.declared.op.Op.{Op}
use Rattle.gen_code.specs.declared.op.Op.TheVariants as op
use Rattle.gen_code.specs.Machine as machine
use Rattle.gen_code.specs.Machine.{Config, Frame, Progress, Going, Over, Working, Reading, once, steps, perform, op_at}
use Rattle.gen_law.proofs.Following.{Machine, Follow, arrived, over, ended, turned, refunded}

-- the values of variables, in their order
abbrev pub values : List Local → List Value
values [] = []
values (first ∷ rest) = first.value ∷ values rest

-- the variables have the names of those in scope
abbrev pub InScope : List Param → List Local → Type 0
InScope [] [] = Unit {0}
InScope [] (local ∷ locals) = ⊥
InScope (param ∷ scope) [] = ⊥
InScope (param ∷ scope) (local ∷ locals) = (param.name ≡ local.name) × InScope scope locals

-- a function that runs, and its callers
pub record Here : Type 0 where
  pub function : ℕ
  pub frames : List Frame

-- the machine works at an instruction
abbrev pub config : Here → ℕ → List Value → State → Config
config here pc stack state = record {
  function = here.function;
  pc = pc;
  slots = values state.locals;
  stack = stack;
  frames = here.frames;
  doing = Working;
  used = state.used;
  reply = state.reply;
  writes = state.writes;
}

abbrev pub at : Here → ℕ → List Value → State → Progress
at here pc stack state = Going (config here pc stack state)

-- these instructions stand in a function from a number on
abbrev pub HasAt : Code → ℕ → ℕ → List Op → Type 0
HasAt code function base [] = Unit {0}
HasAt code function base (first ∷ rest) = (op_at code function base ≡ first) × HasAt code function (base + 1) rest

pub has-split : (code : Code) (function base : ℕ) (first rest : List Op) → HasAt code function base (first ++ rest)
    → HasAt code function base first × HasAt code function (base + length first) rest
has-split code function base [] rest has = (tt, subst (λ n. HasAt code function n rest) (omega arith) has)
has-split code function base (one ∷ first) rest has =
    let later = has-split code function (base + 1) first rest has.1 in
    ((has.0, later.0), subst (λ n. HasAt code function n rest) (omega arith) later.1)

-- an expression hands on a value, which is then the last one
abbrev pub Scoped : {A : Type 0} → List Param → A → State → Type 0
Scoped scope value state = InScope scope state.locals

abbrev pub pushed : Here → ℕ → List Value → Value → State → Progress
pushed here stop stack value state = at here stop (value ∷ stack) state

module _ (m : Machine) (here : Here) where
  abbrev pub Has : ℕ → List Op → Type 0
  Has base ops = HasAt m.code here.function base ops

  pub split : (base : ℕ) (first rest : List Op) → Has base (first ++ rest) → Has base first × Has (base + length first) rest
  split = has-split m.code here.function

  -- one instruction, and what follows from where it leads
  pub instructed : {A : Type 0} {P : A → State → Type 0} {K : A → State → Progress} (before slack slack' pc : ℕ) (stack : List Value) (state : State) (instruction : Op) (step : Step A)
      → op_at m.code here.function pc ≡ instruction → slack + 1 ≤ slack'
      → Follow m before slack (perform m.code m.world instruction (config here pc stack state)) P K step
      → Follow m before slack' (at here pc stack state) P K step
  instructed before slack slack' pc stack state instruction step is more follow =
      turned m before slack slack' (at here pc stack state) (perform m.code m.world instruction (config here pc stack state)) step
      (ap (λ o. perform m.code m.world o (config here pc stack state)) is) more follow

  -- a value is handed on where the machine stands
  pub valued : (scope : List Param) (pc stop slack : ℕ) (stack : List Value) (value : Value) (state : State)
      → pc ≡ stop → InScope scope state.locals → state.used ≤ m.world.budget
      → Follow m state.used slack (at here pc (value ∷ stack) state) (Scoped scope) (pushed here stop stack) (Next value state)
  valued scope pc stop slack stack value state ends scoped fits =
      subst (λ n. Follow m state.used slack (at here pc (value ∷ stack) state) (Scoped scope) (pushed here n stack) (Next value state)) ends
      (arrived m {P = Scoped scope} {K = pushed here pc stack} value state slack fits scoped)

  -- a state that has used so many units
  abbrev pub with_used : ℕ → State → State
  with_used used state = record state { used = used }

  -- what a charge leads to
  abbrev pub charging : Bool → ℕ → ℕ → List Value → State → Progress
  charging fits units pc stack state =
      machine.behind (config here pc stack state) (λ _ later. machine.goes_to (later.pc + 1) later)
      (if fits then Next (tt {0}) (with_used (state.used + units) (machine.state_of (config here pc stack state))) else Ends Spent)

  charge-cases : {A : Type 0} {P : A → State → Type 0} {K : A → State → Progress} (fits : Bool) (slack pc : ℕ) (stack : List Value) (state : State) (more : Work A)
      → once m.code m.world (at here pc stack state) ≡ charging fits 1 pc stack state
      → state.used ≤ m.world.budget → slack + 1 ≤ m.cost
      → (fits ≡ true → Follow m (state.used + 1) slack (at here (pc + 1) stack (with_used (state.used + 1) state)) P K (more (with_used (state.used + 1) state)))
      → Follow m state.used 0 (at here pc stack state) P K (after (if fits then Next (tt {0}) (with_used (state.used + 1) state) else Ends Spent) (λ _. more))
  charge-cases true slack pc stack state more turn low pays rest =
      refunded m state.used (state.used + 1) (slack + 1) 0 (at here pc stack state) (more (with_used (state.used + 1) state)) (omega arith) (omega arith)
      (turned m (state.used + 1) slack (slack + 1) (at here pc stack state) (at here (pc + 1) stack (with_used (state.used + 1) state)) (more (with_used (state.used + 1) state)) turn (omega arith) (rest refl))
  charge-cases false slack pc stack state more turn low pays rest =
      ended m state.used 0 (at here pc stack state) Spent turn low

  -- a charge of one unit pays for the turns behind it
  pub charged : {A : Type 0} {P : A → State → Type 0} {K : A → State → Progress} (slack pc : ℕ) (stack : List Value) (state : State) (more : Work A)
      → op_at m.code here.function pc ≡ op.Charge 1 → state.used ≤ m.world.budget → slack + 1 ≤ m.cost
      → (state.used + 1 ≤ m.world.budget → Follow m (state.used + 1) slack (at here (pc + 1) stack (with_used (state.used + 1) state)) P K (more (with_used (state.used + 1) state)))
      → Follow m state.used 0 (at here pc stack state) P K (after (charge m.world 1 state) (λ _. more))
  charged slack pc stack state more is low pays rest =
      let fits = nat_le (state.used + 1) m.world.budget in
      charge-cases fits slack pc stack state more
      (ap (λ o. perform m.code m.world o (config here pc stack state)) is) low pays
      (λ yes. rest (leb-true (state.used + 1) m.world.budget yes))

  -- a test that the machine and the work both make
  pub tested : {A : Type 0} {P : A → State → Type 0} {K : A → State → Progress} (test : Bool) (trap : Trap) (slack : ℕ) (there : Config) (go : Unit {0} → Config → Progress) (state : State) (more : Work A)
      → there.used ≡ state.used → state.used ≤ m.world.budget
      → (test ≡ true → Follow m state.used slack (go tt (there)) P K (more state))
      → Follow m state.used slack (machine.does there (require test trap) go) P K (after (require test trap state) (λ _. more))
  tested true trap slack there go state more same low rest = rest refl
  tested {P = P} {K = K} false trap slack there go state more same low rest =
      subst (λ n. Follow m state.used slack (Over (Trapped trap n)) P K (Ends (Trapped trap state.used))) (sym same)
      (over m (Trapped trap state.used) state.used slack low)
