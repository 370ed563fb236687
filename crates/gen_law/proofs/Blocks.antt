-- The machine follows statements one after another, and blocks.
use Rattle.std.proofs.Common.{◌≡◌, ℕ, ◌+◌, ◌≤◌, List, [], ◌∷◌, ◌++◌, length, take, Option, Some, None, refl, sym, ap, ◌∙◌, subst, arith, length-append, append-nil, append_assoc}
use Rattle.ext_mean.specs.declared.state.State.{State}
use Rattle.ext_mean.specs.declared.state.Value.{Value}
use Rattle.ext_mean.specs.declared.tree.Param.{Param}
use Rattle.ext_mean.specs.MeaningStatements.{Course, one_by_one, scoped, forget}
use Rattle.ext_mean.specs.Work.{Next, ◌>>=◌, give}
use Rattle.gen_code.specs.declared.op.Op.TheVariants as op
use Rattle.gen_code.specs.Codes.{Coder, ◌▸◌, StatementCode, in_order, all_declared, dropped}
use Rattle.gen_code.specs.Machine as machine
use Rattle.gen_code.specs.Machine.{Progress, Going, op_at}
use Rattle.gen_law.proofs.Following.{Machine, Follow, arrived, bind}
use Rattle.gen_law.proofs.Standing as standing
use Rattle.gen_law.proofs.Standing.{Here, InScope, at, config, HasAt, values}
use Rattle.gen_law.proofs.Slots.{locals-length, take-in-scope, take-all-in-scope, values-take}
use Rattle.gen_law.proofs.Courses as courses
use Rattle.gen_law.proofs.Courses.{onto, Leaves, Behind, reached}

-- a statement's code and its course
pub record Piece : Type 0 where
  pub code : StatementCode
  pub course : Course

abbrev pub codes_of : List Piece → List StatementCode
codes_of [] = []
codes_of (first ∷ rest) = first.code ∷ codes_of rest

abbrev pub courses_of : List Piece → List Course
courses_of [] = []
courses_of (first ∷ rest) = first.course ∷ courses_of rest

module _ (m : Machine) (here : Here) where
  -- each piece is followed
  abbrev pub AllMatch : List Piece → Type 0
  AllMatch [] = Unit {0}
  AllMatch (first ∷ rest) = courses.Statement m here first.code.ops first.code.declares first.course × AllMatch rest

  -- the machine has come where a course goes on
  pub goes-on : (slack pc stop : ℕ) (stack : List Value) (scope : List Param) (state : State) → pc ≡ stop → state.used ≤ m.world.budget → InScope scope state.locals
      → Follow m state.used slack (at here pc stack state) (Leaves scope) (onto here stop stack) (Next None state)
  goes-on slack pc stop stack scope state ends fits scoped =
      subst (λ n. Follow m state.used slack (at here pc stack state) (Leaves scope) (onto here n stack) (Next None state)) ends
      (arrived m {P = Leaves scope} {K = onto here pc stack} None state slack fits scoped)

  pub in-order : (pieces : List Piece) → AllMatch pieces
      → courses.Matches m here (λ many. 0) 3 (in_order (codes_of pieces)) (all_declared (codes_of pieces)) (one_by_one (courses_of pieces))
  in-order [] all scope base stop stack state has ends cost scoped fits =
      goes-on 0 base stop stack (scope ++ []) state (omega (arith, ends)) fits (subst (λ s. InScope s state.locals) (sym (append-nil scope)) scoped)
  in-order (first ∷ rest) all scope base stop stack state has ends cost scoped fits =
      let ops = first.code.ops scope base in
      let more = in_order (codes_of rest) (scope ++ first.code.declares) (base + length ops) in
      let parts = standing.split m here base ops more has in
      let many = length-append ops more in
      let names = append_assoc scope first.code.declares (all_declared (codes_of rest)) in
      courses.then-course m here 0 first.code.ops first.code.declares first.course (one_by_one (courses_of rest)) scope base 0 0 stop stack (scope ++ (first.code.declares ++ all_declared (codes_of rest))) state
      all.0 parts.0 (omega (arith, many, cost)) scoped fits (omega arith)
      (λ later grows within scoped'.
      subst (λ out. Follow m later.used 0 (at here (base + length ops) stack later) (Leaves out) (onto here stop stack) (one_by_one (courses_of rest) later)) names
      (in-order rest all.1 (scope ++ first.code.declares) (base + length ops) stop stack later parts.1 (omega (arith, many, ends)) (omega (arith, many, cost)) scoped' within))

  -- the state whose later variables are forgotten
  abbrev pub forgotten : ℕ → State → State
  forgotten depth state = record state { locals = take depth state.locals }

  -- variables are dropped from the slots
  pub drops : (scope more : List Param) (slack pc stop depth : ℕ) (stack : List Value) (state : State)
      → op_at m.code here.function pc ≡ op.Drop (length scope) → pc + 1 ≡ stop → depth ≡ length scope
      → state.used ≤ m.world.budget → InScope (scope ++ more) state.locals → 1 ≤ slack
      → Follow m state.used slack (at here pc stack state) (Leaves scope) (onto here stop stack) (Next None (forgotten depth state))
  drops scope more slack pc stop depth stack state is ends same fits scoped some =
      let later = forgotten (length scope) state in
      standing.instructed m here state.used 0 slack pc stack state (op.Drop (length scope)) (Next None (forgotten depth state)) is (omega (arith, some))
      (subst (λ n. Follow m state.used 0 (machine.goes_to (pc + 1) (record (config here pc stack state) { slots = take (length scope) (values state.locals) })) (Leaves scope) (onto here stop stack) (Next None (forgotten n state))) (sym same)
      (subst (λ slots. Follow m state.used 0 (machine.goes_to (pc + 1) (record (config here pc stack state) { slots = slots })) (Leaves scope) (onto here stop stack) (Next None later)) (values-take (length scope) state.locals)
      (goes-on 0 (pc + 1) stop stack scope later ends fits (take-in-scope scope more state.locals scoped))))

  -- the end of a block
  block-end : (declares : List Param) (scope : List Param) (base stop depth : ℕ) (stack : List Value) (state : State)
      → standing.Has m here base (dropped declares scope base) → base + length (dropped declares scope base) ≡ stop → depth ≡ length scope
      → state.used ≤ m.world.budget → InScope (scope ++ declares) state.locals
      → Follow m state.used 1 (at here base stack state) (Leaves scope) (onto here stop stack) (Next None (forgotten depth state))
  block-end [] scope base stop depth stack state has ends same fits scoped =
      let own = subst (λ s. InScope s state.locals) (append-nil scope) scoped in
      subst (λ locals. Follow m state.used 1 (at here base stack state) (Leaves scope) (onto here stop stack) (Next None (record state { locals = locals })))
      (sym (ap (λ n. take n state.locals) same ∙ take-all-in-scope scope state.locals own))
      (goes-on 1 base stop stack scope state (omega (arith, ends)) fits own)
  block-end (first ∷ rest) scope base stop depth stack state has ends same fits scoped =
      drops scope (first ∷ rest) 1 base stop depth stack state has.0 ends same fits scoped (omega arith)

  pub block-returned : (declares : List Param) (scope : List Param) (base stop depth : ℕ) (stack : List Value) (returned : Option Value) (state : State)
      → standing.Has m here base (dropped declares scope base) → base + length (dropped declares scope base) ≡ stop → depth ≡ length scope
      → state.used ≤ m.world.budget → Leaves (scope ++ declares) returned state
      → Follow m state.used 1 (onto here base stack returned state) (Leaves scope) (onto here stop stack) (Next returned (forgotten depth state))
  block-returned declares scope base stop depth stack None state has ends same fits leaves =
      block-end declares scope base stop depth stack state has ends same fits leaves
  block-returned declares scope base stop depth stack (Some value) state has ends same fits leaves =
      arrived m {P = Leaves scope} {K = onto here stop stack} (Some value) (forgotten depth state) 1 fits tt

  -- a block whose statements are followed
  pub block-matches : (coder : Coder) (declares : List Param) (course : Course) → courses.Matches m here (λ many. 0) 3 coder declares course
      → courses.Block m here (coder ▸ dropped declares) (scoped course)
  block-matches coder declares course matches scope base stop stack state has ends cost names fits =
      let ops = coder scope base in
      let next = base + length ops in
      let last = dropped declares scope next in
      let parts = standing.split m here base ops last has in
      let many = length-append ops last in
      let depth = length state.locals in
      subst (λ out. Follow m state.used 1 (at here base stack state) (Leaves out) (onto here stop stack) (scoped course state)) (sym (append-nil scope))
      (bind m (Leaves (scope ++ declares)) (onto here next stack) state.used 0 1 1 (at here base stack state) (course state) (λ returned. forget depth >>= (λ _. give returned)) (omega arith)
      (matches scope base next stack state parts.0 refl (omega (arith, many, cost)) names fits)
      (λ returned later grows within leaves.
      block-returned declares scope next stop depth stack returned later parts.1 (omega (arith, many, ends)) (locals-length scope state.locals names) within leaves))
