-- The machine follows calls, where it follows the functions that are called.
use Rattle.std.proofs.Common.{◌≡◌, ℕ, suc, ◌+◌, ◌≤◌, List, [], ◌∷◌, ◌++◌, length, take, drop, reverse, map, refl, sym, ap, ◌∙◌, subst, arith, length-append, append_assoc}
use Rattle.std.proofs.Math.Seq.{take-append_seam}
use Rattle.std.proofs.lemmas.List.{reverse-append, reverse-reverse, length-reverse}
use Rattle.ext_mean.specs.declared.expr.Expr.{Expr}
use Rattle.ext_mean.specs.declared.state.State.{State}
use Rattle.ext_mean.specs.declared.state.Value.{Value}
use Rattle.ext_mean.specs.declared.tree.Param.{Param}
use Rattle.ext_mean.specs.MeaningExpressions.{evaluate}
use Rattle.ext_mean.specs.MeaningStatements.{declare}
use Rattle.ext_mean.specs.Work.{Next, Work, ◌>>=◌, give, in_order}
use Rattle.gen_code.specs.declared.op.Op.{Op}
use Rattle.gen_code.specs.declared.op.Op.TheVariants as op
use Rattle.gen_code.specs.Codes.{◌▸◌, emit, on_next, all_values, value_ops}
use Rattle.gen_code.specs.Machine as machine
use Rattle.gen_code.specs.Machine.{Frame, Progress, Going, Working, op_at, perform, function_at}
use Rattle.gen_law.proofs.Following.{Machine, Follow, arrived, bind, turned}
use Rattle.gen_law.proofs.Standing as standing
use Rattle.gen_law.proofs.Standing.{Here, InScope, at, config, values}
use Rattle.gen_law.proofs.Operands as operands
use Rattle.gen_law.proofs.Expressions as expressions
use Rattle.gen_law.proofs.Courses as courses
use Rattle.gen_law.proofs.Courses.{Behind, reached}
use Rattle.gen_law.proofs.Acts as acts

-- values that wait, the last one first, above others
abbrev pub stacked : List Value → List Value → List Value
stacked [] stack = stack
stacked (first ∷ rest) stack = stacked rest (first ∷ stack)

stacked-is : (own stack : List Value) → stacked own stack ≡ reverse own ++ stack
stacked-is [] stack = refl
stacked-is (first ∷ rest) stack =
    stacked-is rest (first ∷ stack) ∙ sym (append_assoc (reverse rest) (first ∷ []) stack)
    ∙ ap (λ l. l ++ stack) (sym (reverse-append (first ∷ []) rest))

drop-seam : (first rest : List Value) → drop (length first) (first ++ rest) ≡ rest
drop-seam [] rest = refl
drop-seam (one ∷ first) rest = drop-seam first rest

pub taken-back : (own stack : List Value) → reverse (take (length own) (stacked own stack)) ≡ own
taken-back own stack =
    ap (λ l. reverse (take (length own) l)) (stacked-is own stack)
    ∙ ap (λ n. reverse (take n (reverse own ++ stack))) (sym (length-reverse own))
    ∙ ap reverse (take-append_seam (reverse own) stack)
    ∙ reverse-reverse own

pub left-below : (own stack : List Value) → drop (length own) (stacked own stack) ≡ stack
left-below own stack =
    ap (drop (length own)) (stacked-is own stack)
    ∙ ap (λ n. drop n (reverse own ++ stack)) (sym (length-reverse own))
    ∙ drop-seam (reverse own) stack

-- a function begins with its arguments
abbrev pub entering : ℕ → List Value → List Frame → State → Progress
entering number own frames state = Going (record {
  function = number;
  pc = 0;
  slots = own;
  stack = [];
  frames = frames;
  doing = Working;
  used = state.used;
  reply = state.reply;
  writes = state.writes;
})

-- the caller's variables are in scope again
abbrev pub Kept : State → Value → State → Type 0
Kept before own state = state.locals ≡ before.locals

abbrev pub backed : List Frame → Value → State → Progress
backed frames own state = machine.back frames own state.used state.reply state.writes

-- The machine follows the calls of a function with these arguments: it comes back to the caller.
abbrev pub Comes : Machine → ℕ → (List Value → Work Value) → ℕ → Type 0
Comes m number call count =
    (own : List Value) → length own ≡ count → (frames : List Frame) (state : State) → state.used ≤ m.world.budget
    → Follow m state.used 3 (entering number own frames state) (Kept state) (backed frames) (call own state)

-- a function that is called: how many parameters it has, and that the machine follows it
pub record IsCalled (m : Machine) (number : ℕ) (call : List Value → Work Value) (count : ℕ) : Type 0 where
  pub params : (function_at m.code number).params ≡ count
  pub comes : Comes m number call count

module _ (m : Machine) (here : Here) where
  abbrev Has : ℕ → List Op → Type 0
  Has base ops = standing.Has m here base ops

  -- arguments, one after another
  abbrev Counted : List Param → ℕ → List Value → State → Type 0
  Counted scope count own state = (length own ≡ count) × InScope scope state.locals

  abbrev waited : ℕ → List Value → List Value → State → Progress
  waited stop stack own state = at here stop (stacked own stack) state

  arguments-follow : (args : List Expr) (scope : List Param) (base stop : ℕ) (stack : List Value) (state : State)
      → Has base (all_values args scope base) → base + length (all_values args scope base) ≡ stop → InScope scope state.locals → state.used ≤ m.world.budget
      → Follow m state.used (length (all_values args scope base)) (at here base stack state) (Counted scope (length args)) (waited stop stack) (in_order (map (evaluate m.world) args) state)
  arguments-follow [] scope base stop stack state has ends names fits =
      subst (λ n. Follow m state.used 0 (at here base stack state) (Counted scope 0) (waited n stack) (Next [] state)) (omega (arith, ends))
      (arrived m {P = Counted scope 0} {K = waited base stack} [] state 0 fits (refl, names))
  arguments-follow (arg ∷ args) scope base stop stack state has ends names fits =
      let first = value_ops arg scope base in
      let next = base + length first in
      let rest = all_values args scope next in
      let parts = standing.split m here base first rest has in
      let many = length-append first rest in
      operands.operand m here (value_ops arg) (evaluate m.world arg) (λ own. in_order (map (evaluate m.world) args) >>= (λ others. give (own ∷ others))) (expressions.expression-given m here arg)
      scope base (length rest) (length (first ++ rest)) stack state parts.0 names fits (omega (arith, many))
      (λ own later grows names' within.
      bind m (Counted scope (length args)) (waited stop (own ∷ stack)) later.used (length rest) 0 (length rest) (at here next (own ∷ stack) later) (in_order (map (evaluate m.world) args) later) (λ others. give (own ∷ others)) (omega arith)
      (arguments-follow args scope next stop (own ∷ stack) later parts.1 (omega (arith, many, ends)) names' within)
      (λ others last grows' within' counted.
      arrived m {P = Counted scope (length (arg ∷ args))} {K = waited stop stack} (own ∷ others) last 0 within' (ap suc counted.0, counted.1)))

  -- a call with arguments that wait
  call-follows : (number : ℕ) (call : List Value → Work Value) (count : ℕ) (scope : List Param) (pc : ℕ) (stack own : List Value) (state : State)
      → IsCalled m number call count → op_at m.code here.function pc ≡ op.Call number → length own ≡ count → state.used ≤ m.world.budget
      → Follow m state.used 4 (at here pc (stacked own stack) state) (Kept state) (λ result later. backed (record { function = here.function; pc = pc + 1; slots = values state.locals; stack = stack } ∷ here.frames) result later) (call own state)
  call-follows number call count scope pc stack own state is-called is counted fits =
      let params : (function_at m.code number).params ≡ length own = is-called.params ∙ sym counted in
      let frames : List Frame = record { function = here.function; pc = pc + 1; slots = values state.locals; stack = stack } ∷ here.frames in
      let entered : List Value → List Value → Progress = λ slots below. entering number slots (record { function = here.function; pc = pc + 1; slots = values state.locals; stack = below } ∷ here.frames) state in
      turned m state.used 3 4 (at here pc (stacked own stack) state) (entered own stack) (call own state)
      (ap (λ o. perform m.code m.world o (config here pc (stacked own stack) state)) is
      ∙ ap (λ n. entered (reverse (take n (stacked own stack))) (drop n (stacked own stack))) params
      ∙ ap (λ slots. entered slots (drop (length own) (stacked own stack))) (taken-back own stack)
      ∙ ap (λ below. entered own below) (left-below own stack))
      (omega arith)
      (is-called.comes own counted frames state fits)

  -- `let` with a call
  pub call-form : (param : Param) (number : ℕ) (call : List Value → Work Value) (args : List Expr) → IsCalled m number call (length args)
      → courses.Works m here (all_values args ▸ (emit (op.Call number ∷ []) ▸ on_next op.Store)) (param ∷ [])
      (in_order (map (evaluate m.world) args) >>= (λ own. call own >>= (λ result. declare param.name result)))
  call-form param number call args is-called scope base stop stack state has ends names fits =
      let first = all_values args scope base in
      let pc = base + length first in
      let last : List Op = op.Call number ∷ op.Store (length scope) ∷ [] in
      let parts = standing.split m here base first last has in
      let many = length-append first last in
      bind m (Counted scope (length args)) (waited pc stack) state.used (length first) 5 (length (first ++ last) + 3) (at here base stack state) (in_order (map (evaluate m.world) args) state) (λ own. call own >>= (λ result. declare param.name result)) (omega (arith, many))
      (arguments-follow args scope base pc stack state parts.0 refl names fits)
      (λ own later grows within counted.
      bind m (Kept later) (λ result last. backed (record { function = here.function; pc = pc + 1; slots = values later.locals; stack = stack } ∷ here.frames) result last) later.used 4 1 5 (at here pc (stacked own stack) later) (call own later) (λ result. declare param.name result) (omega arith)
      (call-follows number call (length args) scope pc stack own later is-called parts.1.0 counted.0 within)
      (λ result last' grows' within' kept.
      subst (λ locals. Follow m last'.used 1 (Going (record (config here (pc + 1) (result ∷ stack) last') { slots = values locals })) (Behind (scope ++ param ∷ [])) (reached here stop stack) (declare param.name result last')) kept
      (acts.store-declares m here param scope 1 (pc + 1) stop stack result last' parts.1.1.0 (omega (arith, many, ends)) within' (subst (λ locals. InScope scope locals) (sym kept) counted.1) (omega arith))))
