-- The machine follows expressions: each operand leaves its value, and what is done behind them follows.
use Rattle.std.proofs.Common.{◌≡◌, ℕ, ◌+◌, ◌≤◌, List, [], ◌∷◌, ◌++◌, length, refl, arith, length-append}
use Rattle.ext_mean.specs.declared.state.State.{State}
use Rattle.ext_mean.specs.declared.state.Value.{Value}
use Rattle.ext_mean.specs.declared.tree.Param.{Param}
use Rattle.ext_mean.specs.Work.{Work, after, ◌>>=◌}
use Rattle.gen_code.specs.declared.op.Op.{Op}
use Rattle.gen_code.specs.Codes.{Coder, ◌▸◌, emit}
use Rattle.gen_code.specs.Machine.{Progress}
use Rattle.gen_law.proofs.Following.{Machine, Follow, bind}
use Rattle.gen_law.proofs.Standing as standing
use Rattle.gen_law.proofs.Standing.{Here, InScope, Scoped, at, pushed, HasAt}

module _ (m : Machine) (here : Here) where
  abbrev Has : ℕ → List Op → Type 0
  Has base ops = HasAt m.code here.function base ops

  -- Instructions give the value of a work: from the first of them, with any values that wait, the
  -- machine comes behind the last, with one more.
  abbrev pub Gives : Coder → Work Value → Type 0
  Gives coder work =
      (scope : List Param) (base stop : ℕ) (stack : List Value) (state : State)
      → Has base (coder scope base) → base + length (coder scope base) ≡ stop
      → InScope scope state.locals → state.used ≤ m.world.budget
      → Follow m state.used (length (coder scope base)) (at here base stack state) (Scoped scope) (pushed here stop stack) (work state)

  -- an operand, and what follows behind it
  pub operand : {A : Type 0} {P : A → State → Type 0} {K : A → State → Progress} (coder : Coder) (work : Work Value) (more : Value → Work A)
      → Gives coder work → (scope : List Param) (base slack slack' : ℕ) (stack : List Value) (state : State)
      → Has base (coder scope base) → InScope scope state.locals → state.used ≤ m.world.budget
      → length (coder scope base) + slack ≤ slack'
      → ((value : Value) (later : State) → state.used ≤ later.used → InScope scope later.locals → later.used ≤ m.world.budget
      → Follow m later.used slack (at here (base + length (coder scope base)) (value ∷ stack) later) P K (more value later))
      → Follow m state.used slack' (at here base stack state) P K (after (work state) more)
  operand coder work more gives scope base slack slack' stack state has scoped fits sum rest =
      bind m (Scoped scope) (pushed here (base + length (coder scope base)) stack) state.used (length (coder scope base)) slack slack' (at here base stack state) (work state) more sum
      (gives scope base (base + length (coder scope base)) stack state has refl scoped fits)
      (λ value later grows within scoped'. rest value later grows scoped' within)

  -- what the last instructions make of the values of the operands
  abbrev pub Makes : List Op → List Value → Work Value → Type 0
  Makes ops taken work =
      (scope : List Param) (base stop : ℕ) (stack : List Value) (state : State)
      → Has base ops → base + length ops ≡ stop → InScope scope state.locals → state.used ≤ m.world.budget
      → Follow m state.used (length ops) (at here base (taken ++ stack) state) (Scoped scope) (pushed here stop stack) (work state)

  pub one-operand : (coder : Coder) (ops : List Op) (work : Work Value) (more : Value → Work Value)
      → Gives coder work → ((value : Value) → Makes ops (value ∷ []) (more value)) → Gives (coder ▸ emit ops) (work >>= more)
  one-operand coder ops work more gives makes scope base stop stack state has ends scoped fits =
      let first = coder scope base in
      let parts = standing.split m here base first ops has in
      let many = length-append first ops in
      operand coder work more gives scope base (length ops) (length (first ++ ops)) stack state parts.0 scoped fits (omega (arith, many))
      (λ value later grows scoped' within. makes value scope (base + length first) stop stack later parts.1 (omega (arith, many, ends)) scoped' within)

  pub two-operands : (left right : Coder) (ops : List Op) (work work' : Work Value) (more : Value → Value → Work Value)
      → Gives left work → Gives right work' → ((value other : Value) → Makes ops (other ∷ value ∷ []) (more value other))
      → Gives (left ▸ (right ▸ emit ops)) (work >>= (λ value. work' >>= more value))
  two-operands left right ops work work' more gives gives' makes scope base stop stack state has ends scoped fits =
      let first = left scope base in
      let next = right scope (base + length first) in
      let parts = standing.split m here base first (next ++ ops) has in
      let parts' = standing.split m here (base + length first) next ops parts.1 in
      let many = length-append first (next ++ ops) in
      let many' = length-append next ops in
      operand left work (λ value. work' >>= more value) gives scope base (length next + length ops) (length (first ++ (next ++ ops))) stack state parts.0 scoped fits (omega (arith, many, many'))
      (λ value later grows scoped' within.
      operand right work' (more value) gives' scope (base + length first) (length ops) (length next + length ops) (value ∷ stack) later parts'.0 scoped' within (omega arith)
      (λ other last grows' scoped'' within'. makes value other scope (base + length first + length next) stop stack last parts'.1 (omega (arith, many, many', ends)) scoped'' within'))

  pub three-operands : (left middle right : Coder) (ops : List Op) (work work' work'' : Work Value) (more : Value → Value → Value → Work Value)
      → Gives left work → Gives middle work' → Gives right work''
      → ((value other third : Value) → Makes ops (third ∷ other ∷ value ∷ []) (more value other third))
      → Gives (left ▸ (middle ▸ (right ▸ emit ops))) (work >>= (λ value. work' >>= (λ other. work'' >>= more value other)))
  three-operands left middle right ops work work' work'' more gives gives' gives'' makes scope base stop stack state has ends scoped fits =
      let first = left scope base in
      let next = middle scope (base + length first) in
      let last = right scope (base + length first + length next) in
      let parts = standing.split m here base first (next ++ (last ++ ops)) has in
      let parts' = standing.split m here (base + length first) next (last ++ ops) parts.1 in
      let parts'' = standing.split m here (base + length first + length next) last ops parts'.1 in
      let many = length-append first (next ++ (last ++ ops)) in
      let many' = length-append next (last ++ ops) in
      let many'' = length-append last ops in
      operand left work (λ value. work' >>= (λ other. work'' >>= more value other)) gives scope base (length next + (length last + length ops)) (length (first ++ (next ++ (last ++ ops)))) stack state parts.0 scoped fits (omega (arith, many, many', many''))
      (λ value later grows scoped' within.
      operand middle work' (λ other. work'' >>= more value other) gives' scope (base + length first) (length last + length ops) (length next + (length last + length ops)) (value ∷ stack) later parts'.0 scoped' within (omega arith)
      (λ other later' grows' scoped'' within'.
      operand right work'' (more value other) gives'' scope (base + length first + length next) (length ops) (length last + length ops) (other ∷ value ∷ stack) later' parts''.0 scoped'' within' (omega arith)
      (λ third later'' grows'' scoped''' within''. makes value other third scope (base + length first + length next + length last) stop stack later'' parts''.1 (omega (arith, many, many', many'', ends)) scoped''' within'')))
