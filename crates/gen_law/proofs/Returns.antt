-- The machine follows `return`.
use Rattle.std.proofs.Common.{◌≡◌, ℕ, ◌+◌, ◌≤◌, List, [], ◌∷◌, ◌++◌, length, Some, sym, ap, subst, subst₂, arith, slice_set, length-append}
use Rattle.ext_mean.specs.declared.expr.Expr.{Expr}
use Rattle.ext_mean.specs.declared.expr.Expr.TheViews.{roll-Expr}
use Rattle.ext_mean.specs.declared.expr.Expr.TheOpen.{Expr-F}
use Rattle.ext_mean.specs.declared.expr.Expr.TheFolds.{ind-Expr, map-Expr}
use Rattle.ext_mean.specs.declared.state.State.{State}
use Rattle.ext_mean.specs.declared.state.Value.{Value}
use Rattle.ext_mean.specs.declared.tree.Param.{Param}
use Rattle.ext_mean.specs.MeaningValues.{nothing, value_of}
use Rattle.ext_mean.specs.MeaningExpressions.{evaluate, expression_form, variable}
use Rattle.ext_mean.specs.MeaningStatements.{Course}
use Rattle.ext_mean.specs.Work.{Next, Work, ◌>>=◌, give}
use Rattle.ext_mean.proofs.Equations.{evaluate-roll}
use Rattle.gen_code.specs.declared.op.Op.{Op}
use Rattle.gen_code.specs.declared.op.Op.TheVariants as op
use Rattle.gen_code.specs.Codes as codes
use Rattle.gen_code.specs.Codes.{Coder, ◌▸◌, emit, on_slot, slot_of, ExpressionCode, expression_code}
use Rattle.gen_code.specs.Machine.{Going, op_at, perform, slot}
use Rattle.gen_law.proofs.Following.{Machine, Follow, arrived, turned}
use Rattle.gen_law.proofs.Standing as standing
use Rattle.gen_law.proofs.Standing.{Here, InScope, Scoped, at, config, HasAt, values}
use Rattle.gen_law.proofs.Slots.{slot-value}
use Rattle.gen_law.proofs.Operands as operands
use Rattle.gen_law.proofs.Expressions as expressions
use Rattle.gen_law.proofs.Courses as courses
use Rattle.gen_law.proofs.Courses.{onto, Leaves}

-- a course that returns the value of a work
abbrev pub returning : Work Value → Course
returning work = work >>= (λ result. give (Some result))

module _ (m : Machine) (here : Here) where
  -- a value that waits is returned
  returned : (scope : List Param) (slack pc stop : ℕ) (stack waiting slots : List Value) (own : Value) (state : State)
      → op_at m.code here.function pc ≡ op.Return → state.used ≤ m.world.budget → 1 ≤ slack
      → Follow m state.used slack (Going (record (config here pc (own ∷ waiting) state) { slots = slots })) (Leaves scope) (onto here stop stack) (Next (Some own) state)
  returned scope slack pc stop stack waiting slots own state is fits some =
      let there = record (config here pc (own ∷ waiting) state) { slots = slots } in
      turned m state.used 0 slack (Going there) (perform m.code m.world op.Return there) (Next (Some own) state)
      (ap (λ o. perform m.code m.world o there) is) (omega (arith, some))
      (arrived m {P = Leaves scope} {K = onto here stop stack} (Some own) state 0 fits tt)

  -- `return` of a value that is made anew
  made-returned : (coder : Coder) (work : Work Value) → operands.Gives m here coder work → courses.Form m here (coder ▸ emit (op.Return ∷ [])) [] (returning work)
  made-returned coder work gives scope base stop stack state has ends room scoped fits =
      let first = coder scope base in
      let last : List Op = op.Return ∷ [] in
      let parts = standing.split m here base first last has in
      let many = length-append first last in
      operands.operand m here coder work (λ result. give (Some result)) gives scope base 1 (length (first ++ last) + 3) stack state parts.0 scoped fits (omega (arith, many))
      (λ own later grows scoped' within.
      returned (scope ++ []) 1 (base + length first) stop stack stack (values later.locals) own later parts.1.0 within (omega arith))

  -- `return` of a variable, whose value is moved
  moved-returned : (name : List ℕ) → courses.Form m here (on_slot op.Move name ▸ emit (op.Return ∷ [])) [] (returning (variable name))
  moved-returned name scope base stop stack state has ends room scoped fits =
      let own = slot (values state.locals) (slot_of scope name) in
      let slots = slice_set (values state.locals) (slot_of scope name) nothing in
      standing.instructed m here state.used 1 5 base stack state (op.Move (slot_of scope name)) (Next (Some (value_of name state.locals)) state) has.0 (omega arith)
      (subst (λ v. Follow m state.used 1 (Going (record (config here (base + 1) (own ∷ stack) state) { slots = slots })) (Leaves (scope ++ [])) (onto here stop stack) (Next (Some v) state)) (slot-value scope state.locals name scoped)
      (returned (scope ++ []) 1 (base + 1) stop stack stack slots own state has.1.0 fits (omega arith)))

  abbrev Returned : Expr → Type 0
  Returned expression = courses.Form m here ((expression_code expression).moved ▸ emit (op.Return ∷ [])) [] (returning (evaluate m.world expression))

  -- the forms of an expression, with its code and its meaning
  given-form : (form : Expr-F Expr) → operands.Gives m here (codes.expression_form (map-Expr Expr ExpressionCode expression_code form)).ops (expression_form m.world (map-Expr Expr (Work Value) (evaluate m.world) form))
  given-form form =
      subst₂ (λ coder work. operands.Gives m here coder.ops work) (expressions.expression_code-roll form) (evaluate-roll m.world form) (expressions.expression-given m here (roll-Expr form))

  made-form : (form : Expr-F Expr) → courses.Form m here ((codes.expression_form (map-Expr Expr ExpressionCode expression_code form)).ops ▸ emit (op.Return ∷ [])) []
      (returning (expression_form m.world (map-Expr Expr (Work Value) (evaluate m.world) form)))
  made-form form =
      made-returned (codes.expression_form (map-Expr Expr ExpressionCode expression_code form)).ops (expression_form m.world (map-Expr Expr (Work Value) (evaluate m.world) form)) (given-form form)

  returned-form : (form : Expr-F Expr) → courses.Form m here ((codes.expression_form (map-Expr Expr ExpressionCode expression_code form)).moved ▸ emit (op.Return ∷ [])) []
      (returning (expression_form m.world (map-Expr Expr (Work Value) (evaluate m.world) form)))
  returned-form (Expr-F.Number number) = made-form (Expr-F.Number number)
  returned-form (Expr-F.Str bytes) = made-form (Expr-F.Str bytes)
  returned-form (Expr-F.Truth truth) = made-form (Expr-F.Truth truth)
  returned-form (Expr-F.Var name) = moved-returned name
  returned-form Expr-F.Args = made-form Expr-F.Args
  returned-form (Expr-F.Len bytes) = made-form (Expr-F.Len bytes)
  returned-form (Expr-F.View name) = made-form (Expr-F.View name)
  returned-form (Expr-F.Temp size) = made-form (Expr-F.Temp size)
  returned-form (Expr-F.Byte bytes place) = made-form (Expr-F.Byte bytes place)
  returned-form (Expr-F.Word bytes place) = made-form (Expr-F.Word bytes place)
  returned-form (Expr-F.Sub bytes from count) = made-form (Expr-F.Sub bytes from count)
  returned-form (Expr-F.Alloc table key size) = made-form (Expr-F.Alloc table key size)
  returned-form (Expr-F.Not test) = made-form (Expr-F.Not test)
  returned-form (Expr-F.Bin other left right) = made-form (Expr-F.Bin other left right)

  -- `return`
  pub return-form : (expression : Expr) → Returned expression
  return-form = ind-Expr Returned (λ x y is.
      subst₂ (λ code work. courses.Form m here (code.moved ▸ emit (op.Return ∷ [])) [] (returning work)) (sym (expressions.expression_code-roll x)) (sym (evaluate-roll m.world x)) (returned-form x))
