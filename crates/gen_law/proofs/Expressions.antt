-- The machine follows expressions.
use Rattle.std.proofs.Common.{◌≡◌, ℕ, ◌+◌, ◌≤◌, Bool, true, false, not, List, [], ◌∷◌, ◌++◌, length, refl, sym, subst, subst₂, arith, if◌then◌else◌, length-append}
use Rattle.ext_mean.specs.declared.expr.BinOp.{BinOp}
use Rattle.ext_mean.specs.declared.expr.BinOp.TheVariants as operator
use Rattle.ext_mean.specs.declared.expr.Expr.{Expr}
use Rattle.ext_mean.specs.declared.expr.Expr.TheViews.{roll-Expr}
use Rattle.ext_mean.specs.declared.expr.Expr.TheOpen.{Expr-F}
use Rattle.ext_mean.specs.declared.expr.Expr.TheFolds.{ind-Expr, map-Expr, fold-roll-Expr}
use Rattle.ext_mean.specs.declared.state.State.{State}
use Rattle.ext_mean.specs.declared.state.Value.{Value}
use Rattle.ext_mean.specs.declared.state.Value.TheVariants as value
use Rattle.ext_mean.specs.declared.statement.Kind.{Kind}
use Rattle.ext_mean.specs.declared.tree.Param.{Param}
use Rattle.ext_mean.specs.MeaningValues.{truth_of, buffer_of, value_of}
use Rattle.ext_mean.specs.MeaningExpressions as meaning
use Rattle.ext_mean.specs.MeaningExpressions.{evaluate, expression_form, operate, binary}
use Rattle.ext_mean.specs.Work.{Next, Work, ◌>>=◌, give}
use Rattle.ext_mean.proofs.Equations.{evaluate-roll}
use Rattle.gen_code.specs.declared.op.Op.{Op}
use Rattle.gen_code.specs.declared.op.Op.TheVariants as op
use Rattle.gen_code.specs.Codes as codes
use Rattle.gen_code.specs.Codes.{Coder, ◌▸◌, emit, on_slot, slot_of, ExpressionCode, expression_code, and_code, or_code, binary_code, operator_ops, value_ops}
use Rattle.gen_code.specs.Machine.{perform, slot, op_at}
use Rattle.gen_law.proofs.Following.{Machine, Follow, bind}
use Rattle.gen_law.proofs.Standing as standing
use Rattle.gen_law.proofs.Standing.{Here, InScope, Scoped, at, config, pushed, values}
use Rattle.gen_law.proofs.Slots.{slot-value}
use Rattle.gen_law.proofs.Operands as operands
use Rattle.gen_law.proofs.Making as making

pub expression_code-roll : (form : Expr-F Expr) → expression_code (roll-Expr form) ≡ codes.expression_form (map-Expr Expr ExpressionCode expression_code form)
unfolding expression_code
expression_code-roll form = fold-roll-Expr ExpressionCode codes.expression_form form

module _ (m : Machine) (here : Here) where
  abbrev Gives : Coder → Work Value → Type 0
  Gives coder work = operands.Gives m here coder work

  -- an expression with no operand
  leaf : (instruction : Op) (made : Value)
      → ((pc : ℕ) (stack : List Value) (state : State) → perform m.code m.world instruction (config here pc stack state) ≡ at here (pc + 1) (made ∷ stack) state)
      → Gives (emit (instruction ∷ [])) (give made)
  leaf instruction made same scope base stop stack state has ends scoped fits =
      making.makes m here instruction [] made same scope base stop stack state has ends scoped fits

  -- a variable
  load-given : (name : List ℕ) → Gives (on_slot op.Load name) (meaning.variable name)
  load-given name scope base stop stack state has ends scoped fits =
      standing.instructed m here state.used 0 1 base stack state (op.Load (slot_of scope name)) (meaning.variable name state) has.0 (omega arith)
      (subst (λ v. Follow m state.used 0 (at here (base + 1) (slot (values state.locals) (slot_of scope name) ∷ stack) state) (Scoped scope) (pushed here stop stack) (Next v state)) (slot-value scope state.locals name scoped)
      (standing.valued m here scope (base + 1) stop 0 stack (slot (values state.locals) (slot_of scope name)) state ends scoped fits))

  view-given : (name : List ℕ) → Gives (on_slot op.View name) (meaning.variable name >>= (λ buffer. give (value.Slice (buffer_of buffer))))
  view-given name scope base stop stack state has ends scoped fits =
      let own = slot (values state.locals) (slot_of scope name) in
      standing.instructed m here state.used 0 1 base stack state (op.View (slot_of scope name)) (Next (value.Slice (buffer_of (value_of name state.locals))) state) has.0 (omega arith)
      (subst (λ v. Follow m state.used 0 (at here (base + 1) (value.Slice (buffer_of own) ∷ stack) state) (Scoped scope) (pushed here stop stack) (Next (value.Slice (buffer_of v)) state)) (slot-value scope state.locals name scoped)
      (standing.valued m here scope (base + 1) stop 0 stack (value.Slice (buffer_of own)) state ends scoped fits))

  -- behind the left side of `&&`
  and-cases : (truth : Bool) (left : Value) (right : Coder) (work : Work Value) (scope : List Param) (pc stop : ℕ) (stack : List Value) (state : State)
      → Gives right work → state.used ≤ m.world.budget → InScope scope state.locals
      → standing.Has m here (pc + 1) (right scope (pc + 1) ++ op.Not ∷ op.Not ∷ op.Jump (pc + 1 + length (right scope (pc + 1)) + 3 + 1) ∷ op.Truth false ∷ [])
      → pc + 1 + length (right scope (pc + 1)) + 4 ≡ stop
      → Follow m state.used (length (right scope (pc + 1)) + 3) (at here (if truth then (pc + 1) else (pc + 1 + length (right scope (pc + 1)) + 3)) stack state) (Scoped scope) (pushed here stop stack)
      ((if not truth then give (value.Bool truth) else (work >>= operate operator.And left)) state)
  and-cases true left right work scope pc stop stack state gives fits scoped has ends =
      let first = right scope (pc + 1) in
      let next = pc + 1 + length first in
      let parts = standing.split m here (pc + 1) first (op.Not ∷ op.Not ∷ op.Jump (next + 3 + 1) ∷ op.Truth false ∷ []) has in
      operands.operand m here right work (operate operator.And left) gives scope (pc + 1) 3 (length first + 3) stack state parts.0 scoped fits (omega arith)
      (λ taken later grows scoped' within.
      let truth = value.Bool (truth_of taken) in
      bind m (Scoped scope) (pushed here (next + 1 + 1) stack) later.used 2 1 3 (at here next (taken ∷ stack) later) (Next truth later) give (omega arith)
      (making.truth-made m here taken scope next (next + 1 + 1) stack later (parts.1.0, (parts.1.1.0, tt)) (omega arith) scoped' within)
      (λ made last grows' within' scoped''.
      standing.instructed m here last.used 0 1 (next + 1 + 1) (made ∷ stack) last (op.Jump (next + 3 + 1)) (Next made last) parts.1.1.1.0 (omega arith)
      (standing.valued m here scope (next + 3 + 1) stop 0 stack made last (omega (arith, ends)) scoped'' within')))
  and-cases false left right work scope pc stop stack state gives fits scoped has ends =
      let first = right scope (pc + 1) in
      let next = pc + 1 + length first in
      let parts = standing.split m here (pc + 1) first (op.Not ∷ op.Not ∷ op.Jump (next + 3 + 1) ∷ op.Truth false ∷ []) has in
      let there : op_at m.code here.function (next + 3) ≡ op.Truth false = subst (λ n. op_at m.code here.function n ≡ op.Truth false) (omega arith) parts.1.1.1.1.0 in
      standing.instructed m here state.used 0 (length first + 3) (next + 3) stack state (op.Truth false) (Next (value.Bool false) state) there (omega arith)
      (standing.valued m here scope (next + 3 + 1) stop 0 stack (value.Bool false) state (omega (arith, ends)) scoped fits)

  and-given : (left right : Coder) (work work' : Work Value) → Gives left work → Gives right work' → Gives (and_code left right) (binary operator.And work work')
  and-given left right work work' gives gives' scope base stop stack state has ends scoped fits =
      let first = left scope base in
      let pc = base + length first in
      let second = right scope (pc + 1) in
      let behind : List Op = op.Not ∷ op.Not ∷ op.Jump (pc + 1 + length second + 3 + 1) ∷ op.Truth false ∷ [] in
      let jump = op.JumpFalse (pc + 1 + length second + 3) in
      let rest : List Op = jump ∷ (second ++ behind) in
      let parts = standing.split m here base first rest has in
      let many = length-append first rest in
      let many' = length-append second behind in
      operands.operand m here left work (λ taken. if meaning.decides operator.And taken then give (value.Bool (truth_of taken)) else (work' >>= operate operator.And taken)) gives
      scope base (length second + 4) (length (first ++ rest)) stack state parts.0 scoped fits (omega (arith, many, many'))
      (λ taken later grows scoped' within.
      standing.instructed m here later.used (length second + 3) (length second + 4) pc (taken ∷ stack) later jump _ parts.1.0 (omega arith)
      (and-cases (truth_of taken) taken right work' scope pc stop stack later gives' within scoped' parts.1.1 (omega (arith, many, many', ends))))

  -- behind the left side of `||`
  or-cases : (truth : Bool) (left : Value) (right : Coder) (work : Work Value) (scope : List Param) (pc stop : ℕ) (stack : List Value) (state : State)
      → Gives right work → state.used ≤ m.world.budget → InScope scope state.locals
      → standing.Has m here (pc + 1) (op.Truth true ∷ op.Jump (pc + 3 + length (right scope (pc + 3)) + 2) ∷ (right scope (pc + 3) ++ op.Not ∷ op.Not ∷ []))
      → pc + 3 + length (right scope (pc + 3)) + 2 ≡ stop
      → Follow m state.used (length (right scope (pc + 3)) + 2) (at here (if truth then (pc + 1) else (pc + 3)) stack state) (Scoped scope) (pushed here stop stack)
      ((if truth then give (value.Bool truth) else (work >>= operate operator.Or left)) state)
  or-cases true left right work scope pc stop stack state gives fits scoped has ends =
      let second = right scope (pc + 3) in
      let target = pc + 3 + length second + 2 in
      standing.instructed m here state.used 1 (length second + 2) (pc + 1) stack state (op.Truth true) (Next (value.Bool true) state) has.0 (omega arith)
      (standing.instructed m here state.used 0 1 (pc + 1 + 1) (value.Bool true ∷ stack) state (op.Jump target) (Next (value.Bool true) state) has.1.0 (omega arith)
      (standing.valued m here scope target stop 0 stack (value.Bool true) state ends scoped fits))
  or-cases false left right work scope pc stop stack state gives fits scoped has ends =
      let second = right scope (pc + 3) in
      let behind : List Op = op.Not ∷ op.Not ∷ [] in
      let there : standing.Has m here (pc + 3) (second ++ behind) = subst (λ n. standing.Has m here n (second ++ behind)) (omega arith) has.1.1 in
      let parts = standing.split m here (pc + 3) second behind there in
      operands.operand m here right work (operate operator.Or left) gives scope (pc + 3) 2 (length second + 2) stack state parts.0 scoped fits (omega arith)
      (λ taken later grows scoped' within.
      making.truth-made m here taken scope (pc + 3 + length second) stop stack later parts.1 ends scoped' within)

  or-given : (left right : Coder) (work work' : Work Value) → Gives left work → Gives right work' → Gives (or_code left right) (binary operator.Or work work')
  or-given left right work work' gives gives' scope base stop stack state has ends scoped fits =
      let first = left scope base in
      let pc = base + length first in
      let second = right scope (pc + 3) in
      let behind : List Op = op.Not ∷ op.Not ∷ [] in
      let jump = op.JumpFalse (pc + 3) in
      let rest : List Op = jump ∷ op.Truth true ∷ op.Jump (pc + 3 + length second + 2) ∷ (second ++ behind) in
      let parts = standing.split m here base first rest has in
      let many = length-append first rest in
      let many' = length-append second behind in
      operands.operand m here left work (λ taken. if meaning.decides operator.Or taken then give (value.Bool (truth_of taken)) else (work' >>= operate operator.Or taken)) gives
      scope base (length second + 3) (length (first ++ rest)) stack state parts.0 scoped fits (omega (arith, many, many'))
      (λ taken later grows scoped' within.
      standing.instructed m here later.used (length second + 2) (length second + 3) pc (taken ∷ stack) later jump _ parts.1.0 (omega arith)
      (or-cases (truth_of taken) taken right work' scope pc stop stack later gives' within scoped' parts.1.1 (omega (arith, many, many', ends))))

  -- an operator that looks at both sides
  both-given : (ops : Kind → List Op) (left right : ExpressionCode) (work work' : Work Value) (more : Value → Value → Work Value)
      → Gives left.ops work → Gives right.ops work' → ((type : Kind) (value other : Value) → operands.Makes m here (ops type) (other ∷ value ∷ []) (more value other))
      → Gives (λ scope. (left.ops ▸ (right.ops ▸ emit (ops (left.type scope)))) scope) (work >>= (λ value. work' >>= more value))
  both-given ops left right work work' more gives gives' makes scope =
      operands.two-operands m here left.ops right.ops (ops (left.type scope)) work work' more gives gives' (makes (left.type scope)) scope

  binary-given : (other : BinOp) (left right : ExpressionCode) (work work' : Work Value) → Gives left.ops work → Gives right.ops work' → Gives (binary_code other left right) (binary other work work')
  binary-given operator.Or left right work work' gives gives' = or-given left.ops right.ops work work' gives gives'
  binary-given operator.And left right work work' gives gives' = and-given left.ops right.ops work work' gives gives'
  binary-given operator.Equal left right work work' gives gives' = both-given (operator_ops operator.Equal) left right work work' (operate operator.Equal) gives gives' (making.operator-made m here operator.Equal)
  binary-given operator.NotEqual left right work work' gives gives' = both-given (operator_ops operator.NotEqual) left right work work' (operate operator.NotEqual) gives gives' (making.operator-made m here operator.NotEqual)
  binary-given operator.Less left right work work' gives gives' = both-given (operator_ops operator.Less) left right work work' (operate operator.Less) gives gives' (making.operator-made m here operator.Less)
  binary-given operator.LessEqual left right work work' gives gives' = both-given (operator_ops operator.LessEqual) left right work work' (operate operator.LessEqual) gives gives' (making.operator-made m here operator.LessEqual)
  binary-given operator.Greater left right work work' gives gives' = both-given (operator_ops operator.Greater) left right work work' (operate operator.Greater) gives gives' (making.operator-made m here operator.Greater)
  binary-given operator.GreaterEqual left right work work' gives gives' = both-given (operator_ops operator.GreaterEqual) left right work work' (operate operator.GreaterEqual) gives gives' (making.operator-made m here operator.GreaterEqual)
  binary-given operator.Add left right work work' gives gives' = both-given (operator_ops operator.Add) left right work work' (operate operator.Add) gives gives' (making.operator-made m here operator.Add)
  binary-given operator.Subtract left right work work' gives gives' = both-given (operator_ops operator.Subtract) left right work work' (operate operator.Subtract) gives gives' (making.operator-made m here operator.Subtract)
  binary-given operator.Multiply left right work work' gives gives' = both-given (operator_ops operator.Multiply) left right work work' (operate operator.Multiply) gives gives' (making.operator-made m here operator.Multiply)
  binary-given operator.Divide left right work work' gives gives' = both-given (operator_ops operator.Divide) left right work work' (operate operator.Divide) gives gives' (making.operator-made m here operator.Divide)
  binary-given operator.Remainder left right work work' gives gives' = both-given (operator_ops operator.Remainder) left right work work' (operate operator.Remainder) gives gives' (making.operator-made m here operator.Remainder)

  -- the machine follows an expression
  abbrev pub Given : Expr → Type 0
  Given expression = Gives (expression_code expression).ops (evaluate m.world expression)

  abbrev plain : Expr-F ((e : Expr) × Given e) → Expr-F Expr
  plain form = map-Expr _ Expr (λ e. e.0) form

  form-given : (form : Expr-F ((e : Expr) × Given e))
      → Gives (codes.expression_form (map-Expr Expr ExpressionCode expression_code (plain form))).ops (expression_form m.world (map-Expr Expr (Work Value) (evaluate m.world) (plain form)))
  form-given (Expr-F.Number number) = leaf (op.Num number) (value.Int number) (λ pc stack state. refl)
  form-given (Expr-F.Str bytes) = leaf (op.Str bytes) (value.Slice bytes) (λ pc stack state. refl)
  form-given (Expr-F.Truth truth) = leaf (op.Truth truth) (value.Bool truth) (λ pc stack state. refl)
  form-given (Expr-F.Var name) = load-given name
  form-given Expr-F.Args = leaf op.Args (value.Slice m.world.args) (λ pc stack state. refl)
  form-given (Expr-F.Len bytes) = operands.one-operand m here _ _ _ _ bytes.1 (λ whole. making.makes m here op.Len (whole ∷ []) _ (λ pc stack state. refl))
  form-given (Expr-F.View name) = view-given name
  form-given (Expr-F.Temp size) = operands.one-operand m here _ _ _ _ size.1 (making.temp-made m here)
  form-given (Expr-F.Byte bytes place) = operands.two-operands m here _ _ _ _ _ _ bytes.1 place.1 (making.byte-made m here)
  form-given (Expr-F.Word bytes place) = operands.two-operands m here _ _ _ _ _ _ bytes.1 place.1 (making.word-made m here)
  form-given (Expr-F.Sub bytes from count) = operands.three-operands m here _ _ _ _ _ _ _ _ bytes.1 from.1 count.1 (making.sub-made m here)
  form-given (Expr-F.Alloc table key size) = operands.three-operands m here _ _ _ _ _ _ _ _ table.1 key.1 size.1 (making.alloc-made m here)
  form-given (Expr-F.Not test) = operands.one-operand m here _ _ _ _ test.1 (λ truth. making.makes m here op.Not (truth ∷ []) _ (λ pc stack state. refl))
  form-given (Expr-F.Bin other left right) = binary-given other _ _ _ _ left.1 right.1

  pub expression-given : (expression : Expr) → Given expression
  expression-given = ind-Expr Given (λ x y is.
      subst (λ z. Given (roll-Expr z)) is
      (let z = plain y in
      subst₂ (λ coder work. Gives coder.ops work) (sym (expression_code-roll z)) (sym (evaluate-roll m.world z)) (form-given y)))
