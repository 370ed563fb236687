-- The machine follows every statement and block of a typed program, by the tree.
use Rattle.std.proofs.Common.{◌≡◌, ℕ, List, [], ◌∷◌, ◌++◌, length, map, Some, refl, sym, ap, subst, subst₂}
use Rattle.ext_mean.specs.declared.expr.Expr.{Expr}
use Rattle.ext_mean.specs.declared.statement.Statement.{Statement}
use Rattle.ext_mean.specs.declared.statement.Block.{Block}
use Rattle.ext_mean.specs.declared.statement.Statement.TheViews.{roll-Statement, roll-Block}
use Rattle.ext_mean.specs.declared.statement.Statement.TheOpen.{Statement-F, Block-F}
use Rattle.ext_mean.specs.declared.statement.Statement.TheFolds.{ind-Block, map-Statement, map-Block, fold-roll-Statement, fold-roll-Block}
use Rattle.ext_mean.specs.declared.tree.Function.{Function}
use Rattle.ext_mean.specs.declared.tree.Param.{Param}
use Rattle.ext_mean.specs.MeaningStatements as meaning
use Rattle.ext_mean.specs.MeaningStatements.{Course, Calls, execute, run_block, statement_form, one_by_one}
use Rattle.ext_mean.specs.TypesOfItems.{Setting, statement_code, function_named}
use Rattle.ext_mean.specs.Typing as typing
use Rattle.ext_mean.specs.Typing.{Checked, Codes, checked, block_codes, inner_codes, declared_by}
use Rattle.ext_mean.proofs.Equations.{execute-roll, run_block-roll}
use Rattle.gen_code.specs.Codes as codes
use Rattle.gen_code.specs.declared.op.Op.TheVariants as op
use Rattle.gen_code.specs.Codes.{◌▸◌, on_slot, StatementCode, BlockCode, number_below, statement_ops, block_form}
use Rattle.gen_law.proofs.Following.{Machine}
use Rattle.gen_law.proofs.Standing.{Here}
use Rattle.gen_law.proofs.Expressions as expressions
use Rattle.gen_law.proofs.Courses as courses
use Rattle.gen_law.proofs.Blocks as blocks
use Rattle.gen_law.proofs.Blocks.{Piece, codes_of, courses_of}
use Rattle.gen_law.proofs.Acts as acts
use Rattle.gen_law.proofs.Returns as returns
use Rattle.gen_law.proofs.Branches as branches
use Rattle.gen_law.proofs.Gets as gets
use Rattle.gen_law.proofs.MultiGets as multi_gets
use Rattle.gen_law.proofs.Calls as called
use Rattle.gen_law.proofs.TypedCalls.{NoFault, no-fault-split, call-fits, Fits}

statement_code-roll : (functions : List Function) (count : ℕ) (form : Statement-F Statement Block) → codes.statement_code functions count (roll-Statement form)
    ≡ codes.statement_form functions count (map-Statement Statement Block StatementCode BlockCode (codes.statement_code functions count) (codes.block_code functions count) form)
unfolding codes.statement_code codes.block_code
statement_code-roll functions count form = fold-roll-Statement StatementCode BlockCode (codes.statement_form functions count) block_form form

block_code-roll : (functions : List Function) (count : ℕ) (form : Block-F Statement Block) → codes.block_code functions count (roll-Block form)
    ≡ block_form (map-Block Statement Block StatementCode BlockCode (codes.statement_code functions count) (codes.block_code functions count) form)
unfolding codes.statement_code codes.block_code
block_code-roll functions count form = fold-roll-Block StatementCode BlockCode (codes.statement_form functions count) block_form form

checked-roll : (setting : Setting) (form : Statement-F Statement Block) → checked setting (roll-Statement form) ≡ typing.statement_step setting (map-Statement Statement Block Checked Codes (checked setting) (block_codes setting) form)
unfolding checked block_codes
checked-roll setting form = fold-roll-Statement Checked Codes (typing.statement_step setting) typing.block_step form

block_codes-roll : (setting : Setting) (form : Block-F Statement Block) → block_codes setting (roll-Block form) ≡ typing.block_step (map-Block Statement Block Checked Codes (checked setting) (block_codes setting) form)
unfolding checked block_codes
block_codes-roll setting form = fold-roll-Block Checked Codes (typing.statement_step setting) typing.block_step form

-- the machine follows the functions that may be called
abbrev pub CallsFollow : Machine → List Function → ℕ → List Function → Calls → Type 0
CallsFollow m functions count before calls =
    (name : List ℕ) (target : Function) → function_named name before ≡ Some target
    → called.IsCalled m (number_below functions count name) (calls name) (length target.params)

module _ (m : Machine) (here : Here) (functions : List Function) (count : ℕ) (setting : Setting) (calls : Calls) (follow : CallsFollow m functions count setting.before calls) where
  -- where a statement has no fault in some scope, the machine follows it
  abbrev StatementFollowed : Statement → Type 0
  StatementFollowed statement =
      (scope : List Param) → NoFault ((checked setting statement).codes scope)
      → courses.Statement m here (codes.statement_code functions count statement).ops (codes.statement_code functions count statement).declares (execute m.world calls statement)

  abbrev BlockFollowed : Block → Type 0
  BlockFollowed block =
      (scope : List Param) → NoFault (block_codes setting block scope)
      → courses.Block m here (codes.block_code functions count block).ops (run_block m.world calls block)

  abbrev Inner : Type 0
  Inner = Statement-F ((s : Statement) × StatementFollowed s) ((b : Block) × BlockFollowed b)

  abbrev plain : Inner → Statement-F Statement Block
  plain form = map-Statement _ _ Statement Block (λ e. e.0) (λ e. e.0) form

  abbrev coded : Inner → Statement-F StatementCode BlockCode
  coded form = map-Statement Statement Block StatementCode BlockCode (codes.statement_code functions count) (codes.block_code functions count) (plain form)

  abbrev meant : Inner → Statement-F Course Course
  meant form = map-Statement Statement Block Course Course (execute m.world calls) (run_block m.world calls) (plain form)

  abbrev typed : Inner → Statement-F Checked Codes
  typed form = map-Statement Statement Block Checked Codes (checked setting) (block_codes setting) (plain form)

  given : (expression : Expr) → expressions.Given m here expression
  given = expressions.expression-given m here

  -- one form, behind its unit
  form-followed : (form : Inner) (scope : List Param) → NoFault (statement_code setting scope (typed form) ∷ inner_codes scope (typed form))
      → courses.Form m here (statement_ops functions count (coded form)) (declared_by (coded form)) (statement_form m.world calls (meant form))
  form-followed (Statement-F.Let name kind expression) scope fault =
      courses.works-form m here _ _ _ (acts.let-works m here (record { name = name; kind = kind }) _ _ (given expression))
  form-followed (Statement-F.LetCall name kind function args) scope fault =
      let fits : Fits setting function args = call-fits setting scope name kind function args fault.0 in
      courses.works-form m here _ _ _ (called.call-form m here (record { name = name; kind = kind }) (number_below functions count function) (calls function) args
      (subst (λ n. called.IsCalled m (number_below functions count function) (calls function) n) (sym fits.counted) (follow function fits.target fits.named)))
  form-followed (Statement-F.Assign name expression) scope fault =
      courses.works-form m here _ _ _ (acts.assign-works m here name _ _ (given expression))
  form-followed (Statement-F.If test one other) scope fault =
      let inner = no-fault-split (block_codes setting one.0 scope) (block_codes setting other.0 scope) fault.1 in
      branches.if-form m here _ _ _ _ _ _ (given test) (one.1 scope inner.0) (other.1 scope inner.1)
  form-followed (Statement-F.While test body) scope fault =
      branches.while-form m here _ _ _ _ (given test) (body.1 scope fault.1)
  form-followed (Statement-F.Get table key name one other) scope fault =
      let inner = no-fault-split (block_codes setting one.0 (scope ++ typing.arm_name name)) (block_codes setting other.0 scope) fault.1 in
      gets.get-form m here name _ _ _ _ _ _ _ _ (given table) (given key) (one.1 (scope ++ typing.arm_name name) inner.0) (other.1 scope inner.1)
  form-followed (Statement-F.Multi table keys width name one other) scope fault =
      let inner = no-fault-split (block_codes setting one.0 (scope ++ typing.arm_name name)) (block_codes setting other.0 scope) fault.1 in
      multi_gets.multi-form m here name _ _ _ _ _ _ _ _ _ _ (given table) (given keys) (given width) (one.1 (scope ++ typing.arm_name name) inner.0) (other.1 scope inner.1)
  form-followed (Statement-F.Set name place expression) scope fault =
      courses.works-form m here _ _ _ (acts.set-works m here name _ _ _ _ (given place) (given expression))
  form-followed (Statement-F.Set8 name place expression) scope fault =
      courses.works-form m here _ _ _ (acts.set8-works m here name _ _ _ _ (given place) (given expression))
  form-followed (Statement-F.Copy name place source) scope fault =
      courses.works-form m here _ _ _ (acts.copy-works m here name _ _ _ _ (given place) (given source))
  form-followed (Statement-F.Put name) scope fault = courses.works-form m here (on_slot op.Put name) _ _ (acts.put-works m here name)
  form-followed (Statement-F.Del table key) scope fault =
      courses.works-form m here _ _ _ (acts.del-works m here _ _ _ _ (given table) (given key))
  form-followed (Statement-F.Resp expression) scope fault =
      courses.works-form m here _ _ _ (acts.resp-works m here _ _ (given expression))
  form-followed (Statement-F.Return expression) scope fault = returns.return-form m here expression

  statement-case : (x : Statement-F Statement Block) (y : Inner) → plain y ≡ x → StatementFollowed (roll-Statement x)
  statement-case x y is =
      subst (λ z. StatementFollowed (roll-Statement z)) is (λ scope fault.
      subst₂ (λ code course. courses.Statement m here code.ops code.declares course)
      (sym (statement_code-roll functions count (plain y))) (sym (execute-roll m.world calls (plain y)))
      (courses.form-statement m here _ _ _ (form-followed y scope (subst (λ z. NoFault (z.codes scope)) (checked-roll setting (plain y)) fault))))

  abbrev InnerBlock : Type 0
  InnerBlock = Block-F ((s : Statement) × StatementFollowed s) ((b : Block) × BlockFollowed b)

  abbrev plain-block : InnerBlock → Block-F Statement Block
  plain-block form = map-Block _ _ Statement Block (λ e. e.0) (λ e. e.0) form

  -- the statements of a block, with their codes and courses
  abbrev pieces : List ((s : Statement) × StatementFollowed s) → List Piece
  pieces [] = []
  pieces (item ∷ items) = record { code = codes.statement_code functions count item.0; course = execute m.world calls item.0 } ∷ pieces items

  pieces-codes : (items : List ((s : Statement) × StatementFollowed s)) → codes_of (pieces items) ≡ map (codes.statement_code functions count) (map (λ e. e.0) items)
  pieces-codes [] = refl
  pieces-codes (item ∷ items) = ap (λ rest. codes.statement_code functions count item.0 ∷ rest) (pieces-codes items)

  pieces-courses : (items : List ((s : Statement) × StatementFollowed s)) → courses_of (pieces items) ≡ map (execute m.world calls) (map (λ e. e.0) items)
  pieces-courses [] = refl
  pieces-courses (item ∷ items) = ap (λ rest. execute m.world calls item.0 ∷ rest) (pieces-courses items)

  pieces-match : (items : List ((s : Statement) × StatementFollowed s)) (scope : List Param) → NoFault (typing.in_order (map (checked setting) (map (λ e. e.0) items)) scope) → blocks.AllMatch m here (pieces items)
  pieces-match [] scope fault = tt
  pieces-match (item ∷ items) scope fault =
      let checks = checked setting item.0 in
      let parts = no-fault-split (checks.codes scope) (typing.in_order (map (checked setting) (map (λ e. e.0) items)) (scope ++ checks.declares)) fault in
      (item.1 scope parts.0, pieces-match items (scope ++ checks.declares) parts.1)

  block-case : (x : Block-F Statement Block) (y : InnerBlock) → plain-block y ≡ x → BlockFollowed (roll-Block x)
  block-case x y is =
      subst (λ z. BlockFollowed (roll-Block z)) is (λ scope fault.
      let items = y.items in
      let clean = subst (λ (z : Codes). NoFault (z scope)) (block_codes-roll setting (plain-block y)) fault in
      subst₂ (λ code course. courses.Block m here code.ops course)
      (sym (block_code-roll functions count (plain-block y))) (sym (run_block-roll m.world calls (plain-block y)))
      (subst₂ (λ (cs : List StatementCode) (ws : List Course). courses.Block m here (codes.in_order cs ▸ codes.dropped (codes.all_declared cs)) (meaning.scoped (one_by_one ws)))
      (pieces-codes items) (pieces-courses items)
      (blocks.block-matches m here (codes.in_order (codes_of (pieces items))) (codes.all_declared (codes_of (pieces items))) (one_by_one (courses_of (pieces items)))
      (blocks.in-order m here (pieces items) (pieces-match items scope clean)))))

  pub block-followed : (block : Block) → BlockFollowed block
  block-followed = ind-Block StatementFollowed BlockFollowed statement-case block-case
