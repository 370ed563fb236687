-- The equations of the two recursions on the tree: one form at a time.
use Rattle.std.proofs.Common.{◌≡◌, ℕ, Bool, List, map, sym, ap, ◌∙◌}
use Rattle.ext_mean.specs.declared.expr.BinOp.{BinOp}
use Rattle.ext_mean.specs.declared.expr.Expr.TheVariants as e
use Rattle.ext_mean.specs.declared.statement.Statement.TheVariants as s
use Rattle.ext_mean.specs.declared.statement.Kind.{Kind}
use Rattle.ext_mean.specs.declared.state.State.{State}
use Rattle.ext_mean.specs.declared.expr.Expr.{Expr}
use Rattle.ext_mean.specs.declared.expr.Expr.TheViews.{roll-Expr}
use Rattle.ext_mean.specs.declared.expr.Expr.TheOpen.{Expr-F}
use Rattle.ext_mean.specs.declared.expr.Expr.TheFolds.{fold-roll-Expr, map-Expr}
use Rattle.ext_mean.specs.declared.state.Value.{Value}
use Rattle.ext_mean.specs.declared.statement.Statement.{Statement}
use Rattle.ext_mean.specs.declared.statement.Block.{Block}
use Rattle.ext_mean.specs.declared.statement.Statement.TheViews.{roll-Statement, roll-Block}
use Rattle.ext_mean.specs.declared.statement.Statement.TheOpen.{Statement-F, Block-F}
use Rattle.ext_mean.specs.declared.statement.Statement.TheFolds.{fold-roll-Statement, fold-roll-Block, map-Statement, map-Block}
use Rattle.ext_mean.specs.Work.{World, Work}
use Rattle.ext_mean.specs.MeaningExpressions.{evaluate, expression_form}
use Rattle.ext_mean.specs.MeaningStatements.{Calls, Course, execute, run_block, statement_step, block_step, scoped, one_by_one}

pub evaluate-roll : (world : World) (form : Expr-F Expr) → evaluate world (roll-Expr form) ≡ expression_form world (map-Expr Expr (Work Value) (evaluate world) form)
unfolding evaluate
evaluate-roll world form = fold-roll-Expr (Work Value) (expression_form world) form

pub execute-roll : (world : World) (calls : Calls) (form : Statement-F Statement Block) → execute world calls (roll-Statement form) ≡ statement_step world calls (map-Statement Statement Block Course Course (execute world calls) (run_block world calls) form)
unfolding execute run_block
execute-roll world calls form = fold-roll-Statement Course Course (statement_step world calls) block_step form

pub run_block-roll : (world : World) (calls : Calls) (form : Block-F Statement Block) → run_block world calls (roll-Block form) ≡ block_step (map-Block Statement Block Course Course (execute world calls) (run_block world calls) form)
unfolding execute run_block
run_block-roll world calls form = fold-roll-Block Course Course (statement_step world calls) block_step form

-- each form of an expression, from a state
pub evaluate-Number : (world : World) (number : ℕ) (state : State) → evaluate world (e.Number number) state ≡ expression_form world (Expr-F.Number number) state
evaluate-Number world number state = ap (λ f. f state) (ap (evaluate world) (sym (e.rolls-Number number)) ∙ evaluate-roll world (Expr-F.Number number))

pub evaluate-Str : (world : World) (bytes : List ℕ) (state : State) → evaluate world (e.Str bytes) state ≡ expression_form world (Expr-F.Str bytes) state
evaluate-Str world bytes state = ap (λ f. f state) (ap (evaluate world) (sym (e.rolls-Str bytes)) ∙ evaluate-roll world (Expr-F.Str bytes))

pub evaluate-Truth : (world : World) (truth : Bool) (state : State) → evaluate world (e.Truth truth) state ≡ expression_form world (Expr-F.Truth truth) state
evaluate-Truth world truth state = ap (λ f. f state) (ap (evaluate world) (sym (e.rolls-Truth truth)) ∙ evaluate-roll world (Expr-F.Truth truth))

pub evaluate-Var : (world : World) (name : List ℕ) (state : State) → evaluate world (e.Var name) state ≡ expression_form world (Expr-F.Var name) state
evaluate-Var world name state = ap (λ f. f state) (ap (evaluate world) (sym (e.rolls-Var name)) ∙ evaluate-roll world (Expr-F.Var name))

pub evaluate-Args : (world : World) (state : State) → evaluate world e.Args state ≡ expression_form world Expr-F.Args state
evaluate-Args world state = ap (λ f. f state) (ap (evaluate world) (sym e.rolls-Args) ∙ evaluate-roll world Expr-F.Args)

pub evaluate-Len : (world : World) (bytes : Expr) (state : State) → evaluate world (e.Len bytes) state ≡ expression_form world (Expr-F.Len (evaluate world bytes)) state
evaluate-Len world bytes state = ap (λ f. f state) (ap (evaluate world) (sym (e.rolls-Len bytes)) ∙ evaluate-roll world (Expr-F.Len bytes))

pub evaluate-View : (world : World) (name : List ℕ) (state : State) → evaluate world (e.View name) state ≡ expression_form world (Expr-F.View name) state
evaluate-View world name state = ap (λ f. f state) (ap (evaluate world) (sym (e.rolls-View name)) ∙ evaluate-roll world (Expr-F.View name))

pub evaluate-Temp : (world : World) (size : Expr) (state : State) → evaluate world (e.Temp size) state ≡ expression_form world (Expr-F.Temp (evaluate world size)) state
evaluate-Temp world size state = ap (λ f. f state) (ap (evaluate world) (sym (e.rolls-Temp size)) ∙ evaluate-roll world (Expr-F.Temp size))

pub evaluate-Byte : (world : World) (bytes place : Expr) (state : State) → evaluate world (e.Byte bytes place) state ≡ expression_form world (Expr-F.Byte (evaluate world bytes) (evaluate world place)) state
evaluate-Byte world bytes place state = ap (λ f. f state) (ap (evaluate world) (sym (e.rolls-Byte bytes place)) ∙ evaluate-roll world (Expr-F.Byte bytes place))

pub evaluate-Word : (world : World) (bytes place : Expr) (state : State) → evaluate world (e.Word bytes place) state ≡ expression_form world (Expr-F.Word (evaluate world bytes) (evaluate world place)) state
evaluate-Word world bytes place state = ap (λ f. f state) (ap (evaluate world) (sym (e.rolls-Word bytes place)) ∙ evaluate-roll world (Expr-F.Word bytes place))

pub evaluate-Sub : (world : World) (bytes from count : Expr) (state : State) → evaluate world (e.Sub bytes from count) state ≡ expression_form world (Expr-F.Sub (evaluate world bytes) (evaluate world from) (evaluate world count)) state
evaluate-Sub world bytes from count state = ap (λ f. f state) (ap (evaluate world) (sym (e.rolls-Sub bytes from count)) ∙ evaluate-roll world (Expr-F.Sub bytes from count))

pub evaluate-Alloc : (world : World) (table key size : Expr) (state : State) → evaluate world (e.Alloc table key size) state ≡ expression_form world (Expr-F.Alloc (evaluate world table) (evaluate world key) (evaluate world size)) state
evaluate-Alloc world table key size state = ap (λ f. f state) (ap (evaluate world) (sym (e.rolls-Alloc table key size)) ∙ evaluate-roll world (Expr-F.Alloc table key size))

pub evaluate-Not : (world : World) (test : Expr) (state : State) → evaluate world (e.Not test) state ≡ expression_form world (Expr-F.Not (evaluate world test)) state
evaluate-Not world test state = ap (λ f. f state) (ap (evaluate world) (sym (e.rolls-Not test)) ∙ evaluate-roll world (Expr-F.Not test))

pub evaluate-Bin : (world : World) (operator : BinOp) (left right : Expr) (state : State) → evaluate world (e.Bin operator left right) state ≡ expression_form world (Expr-F.Bin operator (evaluate world left) (evaluate world right)) state
evaluate-Bin world operator left right state = ap (λ f. f state) (ap (evaluate world) (sym (e.rolls-Bin operator left right)) ∙ evaluate-roll world (Expr-F.Bin operator left right))

pub execute-Let : (world : World) (calls : Calls) (name : List ℕ) (kind : Kind) (expression : Expr) (state : State) → execute world calls (s.Let name kind expression) state ≡ statement_step world calls (Statement-F.Let name kind expression) state
execute-Let world calls name kind expression state = ap (λ f. f state) (ap (execute world calls) (sym (s.rolls-Let name kind expression)) ∙ execute-roll world calls (Statement-F.Let name kind expression))

pub execute-LetCall : (world : World) (calls : Calls) (name : List ℕ) (kind : Kind) (function : List ℕ) (args : List Expr) (state : State) → execute world calls (s.LetCall name kind function args) state ≡ statement_step world calls (Statement-F.LetCall name kind function args) state
execute-LetCall world calls name kind function args state = ap (λ f. f state) (ap (execute world calls) (sym (s.rolls-LetCall name kind function args)) ∙ execute-roll world calls (Statement-F.LetCall name kind function args))

pub execute-Assign : (world : World) (calls : Calls) (name : List ℕ) (expression : Expr) (state : State) → execute world calls (s.Assign name expression) state ≡ statement_step world calls (Statement-F.Assign name expression) state
execute-Assign world calls name expression state = ap (λ f. f state) (ap (execute world calls) (sym (s.rolls-Assign name expression)) ∙ execute-roll world calls (Statement-F.Assign name expression))

pub execute-If : (world : World) (calls : Calls) (test : Expr) (one other : Block) (state : State) → execute world calls (s.If test one other) state ≡ statement_step world calls (Statement-F.If test (run_block world calls one) (run_block world calls other)) state
execute-If world calls test one other state = ap (λ f. f state) (ap (execute world calls) (sym (s.rolls-If test one other)) ∙ execute-roll world calls (Statement-F.If test one other))

pub execute-While : (world : World) (calls : Calls) (test : Expr) (body : Block) (state : State) → execute world calls (s.While test body) state ≡ statement_step world calls (Statement-F.While test (run_block world calls body)) state
execute-While world calls test body state = ap (λ f. f state) (ap (execute world calls) (sym (s.rolls-While test body)) ∙ execute-roll world calls (Statement-F.While test body))

pub execute-Get : (world : World) (calls : Calls) (table key : Expr) (name : List ℕ) (one other : Block) (state : State) → execute world calls (s.Get table key name one other) state ≡ statement_step world calls (Statement-F.Get table key name (run_block world calls one) (run_block world calls other)) state
execute-Get world calls table key name one other state = ap (λ f. f state) (ap (execute world calls) (sym (s.rolls-Get table key name one other)) ∙ execute-roll world calls (Statement-F.Get table key name one other))

pub execute-Multi : (world : World) (calls : Calls) (table keys width : Expr) (name : List ℕ) (one other : Block) (state : State) → execute world calls (s.Multi table keys width name one other) state ≡ statement_step world calls (Statement-F.Multi table keys width name (run_block world calls one) (run_block world calls other)) state
execute-Multi world calls table keys width name one other state = ap (λ f. f state) (ap (execute world calls) (sym (s.rolls-Multi table keys width name one other)) ∙ execute-roll world calls (Statement-F.Multi table keys width name one other))

pub execute-Set : (world : World) (calls : Calls) (name : List ℕ) (place expression : Expr) (state : State) → execute world calls (s.Set name place expression) state ≡ statement_step world calls (Statement-F.Set name place expression) state
execute-Set world calls name place expression state = ap (λ f. f state) (ap (execute world calls) (sym (s.rolls-Set name place expression)) ∙ execute-roll world calls (Statement-F.Set name place expression))

pub execute-Set8 : (world : World) (calls : Calls) (name : List ℕ) (place expression : Expr) (state : State) → execute world calls (s.Set8 name place expression) state ≡ statement_step world calls (Statement-F.Set8 name place expression) state
execute-Set8 world calls name place expression state = ap (λ f. f state) (ap (execute world calls) (sym (s.rolls-Set8 name place expression)) ∙ execute-roll world calls (Statement-F.Set8 name place expression))

pub execute-Copy : (world : World) (calls : Calls) (name : List ℕ) (place source : Expr) (state : State) → execute world calls (s.Copy name place source) state ≡ statement_step world calls (Statement-F.Copy name place source) state
execute-Copy world calls name place source state = ap (λ f. f state) (ap (execute world calls) (sym (s.rolls-Copy name place source)) ∙ execute-roll world calls (Statement-F.Copy name place source))

pub execute-Put : (world : World) (calls : Calls) (name : List ℕ) (state : State) → execute world calls (s.Put name) state ≡ statement_step world calls (Statement-F.Put name) state
execute-Put world calls name state = ap (λ f. f state) (ap (execute world calls) (sym (s.rolls-Put name)) ∙ execute-roll world calls (Statement-F.Put name))

pub execute-Del : (world : World) (calls : Calls) (table key : Expr) (state : State) → execute world calls (s.Del table key) state ≡ statement_step world calls (Statement-F.Del table key) state
execute-Del world calls table key state = ap (λ f. f state) (ap (execute world calls) (sym (s.rolls-Del table key)) ∙ execute-roll world calls (Statement-F.Del table key))

pub execute-Resp : (world : World) (calls : Calls) (expression : Expr) (state : State) → execute world calls (s.Resp expression) state ≡ statement_step world calls (Statement-F.Resp expression) state
execute-Resp world calls expression state = ap (λ f. f state) (ap (execute world calls) (sym (s.rolls-Resp expression)) ∙ execute-roll world calls (Statement-F.Resp expression))

pub execute-Return : (world : World) (calls : Calls) (expression : Expr) (state : State) → execute world calls (s.Return expression) state ≡ statement_step world calls (Statement-F.Return expression) state
execute-Return world calls expression state = ap (λ f. f state) (ap (execute world calls) (sym (s.rolls-Return expression)) ∙ execute-roll world calls (Statement-F.Return expression))

pub run_block-items : (world : World) (calls : Calls) (items : List Statement) (state : State) → run_block world calls (roll-Block (record { items = items })) state ≡ scoped (one_by_one (map (execute world calls) items)) state
run_block-items world calls items state = ap (λ f. f state) (run_block-roll world calls (record { items = items }))

-- one step of the meaning of each form
pub ruleset equations = (evaluate-Number, evaluate-Str, evaluate-Truth, evaluate-Var, evaluate-Args, evaluate-Len, evaluate-View, evaluate-Temp, evaluate-Byte, evaluate-Word, evaluate-Sub, evaluate-Alloc, evaluate-Not, evaluate-Bin, execute-Let, execute-LetCall, execute-Assign, execute-If, execute-While, execute-Get, execute-Multi, execute-Set, execute-Set8, execute-Copy, execute-Put, execute-Del, execute-Resp, execute-Return, run_block-items)
