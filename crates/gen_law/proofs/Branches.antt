-- The machine follows `if` and `while`.
use Rattle.std.proofs.Common.{◌≡◌, ℕ, zero, suc, ◌+◌, ◌≤◌, Bool, true, false, List, [], ◌∷◌, ◌++◌, length, Option, Some, None, refl, sym, ap, ◌∙◌, subst, arith, if◌then◌else◌, nat_le, length-append, append-nil}
use Rattle.std.proofs.lemmas.Bool.{leb-true}
use Rattle.ext_mean.specs.declared.run.Run.TheVariants.{Spent}
use Rattle.ext_mean.specs.declared.state.State.{State}
use Rattle.ext_mean.specs.declared.state.Value.{Value}
use Rattle.ext_mean.specs.declared.tree.Param.{Param}
use Rattle.ext_mean.specs.MeaningValues.{truth_of}
use Rattle.ext_mean.specs.MeaningStatements.{Course, behind, branch, turns}
use Rattle.ext_mean.specs.Work.{Step, Next, Ends, Work, after, ◌>>=◌, give}
use Rattle.gen_code.specs.declared.op.Op.{Op}
use Rattle.gen_code.specs.declared.op.Op.TheVariants as op
use Rattle.gen_code.specs.Codes.{Coder, if_code, while_code}
use Rattle.gen_code.specs.Machine.{Progress, Over, op_at, perform}
use Rattle.gen_law.proofs.Following.{Machine, Follow, arrived, ended, bind, wider}
use Rattle.gen_law.proofs.Standing as standing
use Rattle.gen_law.proofs.Standing.{Here, InScope, at, config, HasAt}
use Rattle.gen_law.proofs.Operands as operands
use Rattle.gen_law.proofs.Courses as courses
use Rattle.gen_law.proofs.Courses.{onto, Leaves}
use Rattle.gen_law.proofs.Blocks as blocks

module _ (m : Machine) (here : Here) where
  pub same-scope : (scope : List Param) (slack : ℕ) (from : Progress) (before stop : ℕ) (stack : List Value) (step : Step (Option Value))
      → Follow m before slack from (Leaves scope) (onto here stop stack) step → Follow m before slack from (Leaves (scope ++ [])) (onto here stop stack) step
  same-scope scope slack from before stop stack step follow =
      subst (λ out. Follow m before slack from (Leaves out) (onto here stop stack) step) (sym (append-nil scope)) follow

  -- a course, and a jump behind it
  jumps : (scope : List Param) (returned : Option Value) (later : State) (next target : ℕ) (stack : List Value) → later.used ≤ m.world.budget → op_at m.code here.function next ≡ op.Jump target → Leaves scope returned later
      → Follow m later.used 1 (onto here next stack returned later) (Leaves scope) (onto here target stack) (Next returned later)
  jumps scope None later next target stack within is leaves =
      standing.instructed m here later.used 0 1 next stack later (op.Jump target) (Next None later) is (omega arith)
      (arrived m {P = Leaves scope} {K = onto here target stack} None later 0 within leaves)
  jumps scope (Some own) later next target stack within is leaves = arrived m {P = Leaves scope} {K = onto here target stack} (Some own) later 1 within tt

  after-give : (step : Step (Option Value)) → after step give ≡ step
  after-give (Next value later) = refl
  after-give (Ends run) = refl

  pub then-jump : (scope : List Param) (slack before next target : ℕ) (stack : List Value) (from : Progress) (step : Step (Option Value))
      → op_at m.code here.function next ≡ op.Jump target
      → Follow m before slack from (Leaves scope) (onto here next stack) step
      → Follow m before (slack + 1) from (Leaves scope) (onto here target stack) step
  then-jump scope slack before next target stack from step is follow =
      subst (λ s. Follow m before (slack + 1) from (Leaves scope) (onto here target stack) s) (after-give step)
      (bind m (Leaves scope) (onto here next stack) before slack 1 (slack + 1) from step give (omega arith) follow
      (λ returned later grows within leaves. jumps scope returned later next target stack within is leaves))

  -- a block, and a jump behind it
  pub block-then-jump : (coder : Coder) (course : Course) (scope : List Param) (base target : ℕ) (stack : List Value) (state : State)
      → courses.Block m here coder course → standing.Has m here base (coder scope base)
      → op_at m.code here.function (base + length (coder scope base)) ≡ op.Jump target
      → length (coder scope base) + 3 ≤ m.cost → InScope scope state.locals → state.used ≤ m.world.budget
      → Follow m state.used 2 (at here base stack state) (Leaves scope) (onto here target stack) (course state)
  block-then-jump coder course scope base target stack state block has is cost scoped fits =
      let next = base + length (coder scope base) in
      then-jump scope 1 state.used next target stack (at here base stack state) (course state) is
      (subst (λ out. Follow m state.used 1 (at here base stack state) (Leaves out) (onto here next stack) (course state)) (append-nil scope)
      (block scope base next stack state has refl cost scoped fits))

  -- the block of an `if` that is chosen
  if-cases : (truth : Bool) (first second : Coder) (one other : Course) (scope : List Param) (pc stop : ℕ) (stack : List Value) (state : State)
      → courses.Block m here first one → courses.Block m here second other
      → standing.Has m here (pc + 1) (first scope (pc + 1) ++ op.Jump (pc + 1 + length (first scope (pc + 1)) + 1 + length (second scope (pc + 1 + length (first scope (pc + 1)) + 1))) ∷ second scope (pc + 1 + length (first scope (pc + 1)) + 1))
      → pc + 1 + length (first scope (pc + 1)) + 1 + length (second scope (pc + 1 + length (first scope (pc + 1)) + 1)) ≡ stop
      → length (first scope (pc + 1)) + length (second scope (pc + 1 + length (first scope (pc + 1)) + 1)) + 3 ≤ m.cost
      → InScope scope state.locals → state.used ≤ m.world.budget
      → Follow m state.used 2 (at here (if truth then (pc + 1) else (pc + 1 + length (first scope (pc + 1)) + 1)) stack state) (Leaves scope) (onto here stop stack) ((if truth then one else other) state)
  if-cases true first second one other scope pc stop stack state block block' has ends cost scoped fits =
      let ops = first scope (pc + 1) in
      let next = pc + 1 + length ops + 1 in
      let target = next + length (second scope next) in
      let parts = standing.split m here (pc + 1) ops (op.Jump target ∷ second scope next) has in
      subst (λ n. Follow m state.used 2 (at here (pc + 1) stack state) (Leaves scope) (onto here n stack) (one state)) ends
      (block-then-jump first one scope (pc + 1) target stack state block parts.0 parts.1.0 (omega (arith, cost)) scoped fits)
  if-cases false first second one other scope pc stop stack state block block' has ends cost scoped fits =
      let ops = first scope (pc + 1) in
      let next = pc + 1 + length ops + 1 in
      let target = next + length (second scope next) in
      let parts = standing.split m here (pc + 1) ops (op.Jump target ∷ second scope next) has in
      wider m state.used 1 2 (at here next stack state) (other state) (omega arith)
      (subst (λ out. Follow m state.used 1 (at here next stack state) (Leaves out) (onto here stop stack) (other state)) (append-nil scope)
      (block' scope next stop stack state parts.1.1 ends (omega (arith, cost)) scoped fits))

  -- `if`
  pub if-form : (test first second : Coder) (work : Work Value) (one other : Course) → operands.Gives m here test work → courses.Block m here first one → courses.Block m here second other
      → courses.Form m here (if_code test first second) [] (work >>= branch one other)
  if-form test first second work one other gives block block' scope base stop stack state has ends room scoped fits =
      let tested = test scope base in
      let pc = base + length tested in
      let yes_ops = first scope (pc + 1) in
      let next = pc + 1 + length yes_ops + 1 in
      let no_ops = second scope next in
      let rest : List Op = op.Jump (next + length no_ops) ∷ no_ops in
      let jump : Op = op.JumpFalse next in
      let parts = standing.split m here base tested (jump ∷ (yes_ops ++ rest)) has in
      let many = length-append tested (jump ∷ (yes_ops ++ rest)) in
      let many' = length-append yes_ops rest in
      same-scope scope (length (if_code test first second scope base) + 3) (at here base stack state) state.used stop stack _
      (operands.operand m here test work (branch one other) gives scope base 3 (length (if_code test first second scope base) + 3) stack state parts.0 scoped fits (omega (arith, many, many'))
      (λ taken later grows scoped' within.
      standing.instructed m here later.used 2 3 pc (taken ∷ stack) later jump (branch one other taken later) parts.1.0 (omega arith)
      (if-cases (truth_of taken) first second one other scope pc stop stack later block block' parts.1.1 (omega (arith, many, many', ends)) (omega (arith, many, many', room)) scoped' within)))

  -- a turn of a `while` behind its test, and the turns behind it
  turn-cases : (truth : Bool) (body : Coder) (course loop : Course) (scope : List Param) (pc start stop : ℕ) (stack : List Value) (state : State)
      → courses.Block m here body course
      → standing.Has m here (pc + 1) (body scope (pc + 1) ++ op.Jump start ∷ [])
      → pc + 1 + length (body scope (pc + 1)) + 1 ≡ stop
      → length (body scope (pc + 1)) + 3 ≤ m.cost
      → InScope scope state.locals → state.used ≤ m.world.budget
      → ((later : State) → state.used ≤ later.used → later.used ≤ m.world.budget → InScope scope later.locals → Follow m later.used 0 (at here start stack later) (Leaves scope) (onto here stop stack) (loop later))
      → Follow m state.used 2 (at here (if truth then (pc + 1) else (pc + 1 + length (body scope (pc + 1)) + 1)) stack state) (Leaves scope) (onto here stop stack) ((if truth then (course >>= behind loop) else give None) state)
  turn-cases true body course loop scope pc start stop stack state block has ends cost scoped fits again =
      let ops = body scope (pc + 1) in
      let parts = standing.split m here (pc + 1) ops (op.Jump start ∷ []) has in
      bind m (Leaves scope) (onto here start stack) state.used 2 0 2 (at here (pc + 1) stack state) (course state) (behind loop) (omega arith)
      (block-then-jump body course scope (pc + 1) start stack state block parts.0 parts.1.0 cost scoped fits)
      (λ returned later grows within leaves.
      courses.behind-matches m here 0 loop scope start stop stack scope returned later within leaves
      (λ scoped'. again later grows within scoped'))
  turn-cases false body course loop scope pc start stop stack state block has ends cost scoped fits again =
      blocks.goes-on m here 2 (pc + 1 + length (body scope (pc + 1)) + 1) stop stack scope state ends fits scoped

  -- a charge that does not fit
  not-paid : (enough : Bool) (base : ℕ) (stack : List Value) (state : State) → nat_le (state.used + 1) m.world.budget ≡ enough → m.world.budget ≤ state.used + 0
      → standing.charging m here enough 1 base stack state ≡ Over Spent
  not-paid true base stack state is bound = absurd (let high = leb-true (state.used + 1) m.world.budget is in omega (arith, high, bound))
  not-paid false base stack state is bound = refl

  out-of-units : (enough : Bool) (scope : List Param) (base stop : ℕ) (stack : List Value) (state : State) → nat_le (state.used + 1) m.world.budget ≡ enough
      → op_at m.code here.function base ≡ op.Charge 1 → state.used ≤ m.world.budget → m.world.budget ≤ state.used + 0
      → Follow m state.used 0 (at here base stack state) (Leaves scope) (onto here stop stack) (Ends Spent)
  out-of-units enough scope base stop stack state is there fits bound =
      let paying : Bool → Progress = λ b. standing.charging m here b 1 base stack state in
      ended m state.used 0 (at here base stack state) Spent
      (ap (λ o. perform m.code m.world o (config here base stack state)) there ∙ ap paying is ∙ not-paid enough base stack state is bound) fits

  -- the turns of a `while`
  turns-follow : (left : ℕ) (test body : Coder) (work : Work Value) (course : Course) (scope : List Param) (base stop : ℕ) (stack : List Value) (state : State)
      → operands.Gives m here test work → courses.Block m here body course
      → standing.Has m here base (while_code test body scope base) → base + length (while_code test body scope base) ≡ stop
      → length (while_code test body scope base) + 4 ≤ m.cost
      → InScope scope state.locals → state.used ≤ m.world.budget → m.world.budget ≤ state.used + left
      → Follow m state.used 0 (at here base stack state) (Leaves scope) (onto here stop stack) (turns m.world left work course state)
  turns-follow zero test body work course scope base stop stack state gives block has ends cost scoped fits bound =
      out-of-units (nat_le (state.used + 1) m.world.budget) scope base stop stack state refl has.0 fits bound
  turns-follow (suc left) test body work course scope base stop stack state gives block has ends cost scoped fits bound =
      let tested = test scope (base + 1) in
      let pc = base + 1 + length tested in
      let turn = body scope (pc + 1) in
      let rest : List Op = op.Jump base ∷ [] in
      let jump : Op = op.JumpFalse (pc + 1 + length turn + 1) in
      let parts = standing.split m here (base + 1) tested (jump ∷ (turn ++ rest)) has.1 in
      let many = length-append tested (jump ∷ (turn ++ rest)) in
      let many' = length-append turn rest in
      let loop = turns m.world left work course in
      standing.charged m here (length tested + 3) base stack state (work >>= branch (course >>= behind loop) (give None)) has.0 fits (omega (arith, many, many', cost))
      (λ within.
      let paid : State = record state { used = state.used + 1 } in
      operands.operand m here test work (branch (course >>= behind loop) (give None)) gives scope (base + 1) 3 (length tested + 3) stack paid parts.0 scoped within (omega arith)
      (λ taken later grows scoped' within'.
      standing.instructed m here later.used 2 3 pc (taken ∷ stack) later jump (branch (course >>= behind loop) (give None) taken later) parts.1.0 (omega arith)
      (turn-cases (truth_of taken) body course loop scope pc base stop stack later block parts.1.1 (omega (arith, many, many', ends)) (omega (arith, many, many', cost)) scoped' within'
      (λ again grows' within'' scoped''.
      turns-follow left test body work course scope base stop stack again gives block has ends cost scoped'' within'' (omega (arith, grows, grows', bound))))))

  -- `while`
  pub while-form : (test body : Coder) (work : Work Value) (course : Course) → operands.Gives m here test work → courses.Block m here body course
      → courses.Form m here (while_code test body) [] (turns m.world m.world.budget work course)
  while-form test body work course gives block scope base stop stack state has ends room scoped fits =
      same-scope scope (length (while_code test body scope base) + 3) (at here base stack state) state.used stop stack _
      (wider m state.used 0 (length (while_code test body scope base) + 3) (at here base stack state) (turns m.world m.world.budget work course state) (omega arith)
      (turns-follow m.world.budget test body work course scope base stop stack state gives block has ends room scoped fits (omega arith)))
