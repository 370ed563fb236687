-- The code of a program. Each piece of it is a list of instructions that begins at a given number of
-- its function's code, since jumps name numbers; the variables in scope are known with their types, and
-- each has the slot of its place among them.
use Rattle.std.specs.Prelude.{ℕ, zero, suc, ◌+◌, true, false, List, [], ◌∷◌, ◌++◌, length, slice_get, Option, Some, None, unwrap_or, if◌then◌else◌}
use Rattle.std.specs.Str.{bytes_eq}
use Rattle.ext_mean.specs.declared.expr.BinOp.{BinOp}
use Rattle.ext_mean.specs.declared.expr.BinOp.TheVariants as operator
use Rattle.ext_mean.specs.declared.expr.Expr.{Expr}
use Rattle.ext_mean.specs.declared.expr.Expr.TheOpen.{Expr-F}
use Rattle.ext_mean.specs.declared.expr.Expr.TheFolds.{fold-Expr}
use Rattle.ext_mean.specs.declared.statement.Kind.{Kind}
use Rattle.ext_mean.specs.declared.statement.Kind.TheVariants as kind
use Rattle.ext_mean.specs.declared.statement.Statement.{Statement}
use Rattle.ext_mean.specs.declared.statement.Block.{Block}
use Rattle.ext_mean.specs.declared.statement.Statement.TheOpen.{Statement-F, Block-F}
use Rattle.ext_mean.specs.declared.statement.Statement.TheFolds.{fold-Statement, fold-Block}
use Rattle.ext_mean.specs.declared.tree.Param.{Param}
use Rattle.ext_mean.specs.declared.tree.Function.{Function}
use Rattle.ext_mean.specs.declared.tree.Program.{Program}
use Rattle.ext_mean.specs.Types.{kind_of}
use Rattle.ext_mean.specs.Typing.{declared_by, arm_name}
use Rattle.ext_mean.specs.Meaning.{is_named}
use Rattle.gen_code.specs.declared.code.Code.{Code}
use Rattle.gen_code.specs.declared.code.CodeFn.{CodeFn}
use Rattle.gen_code.specs.declared.op.Op.{Op}
use Rattle.gen_code.specs.declared.op.Op.TheVariants as op

-- instructions by the variables in scope and the number of the first one
abbrev pub Coder : Type 0
Coder = List Param → ℕ → List Op

-- the same instructions everywhere
abbrev pub emit : List Op → Coder
emit ops scope base = ops

-- one piece, and the next behind it
infixl 10 ◌▸◌
abbrev pub ◌▸◌ : Coder → Coder → Coder
(first ▸ next) scope base = first scope base ++ next scope (base + length (first scope base))

-- The slot of a variable is its place among those in scope. A name that is not in scope, which no typed
-- program uses, has a slot that is never there.
abbrev pub slot_of : List Param → List ℕ → ℕ
slot_of [] name = 1
slot_of (first ∷ rest) name = if bytes_eq first.name name then 0 else (slot_of rest name + 1)

-- an instruction on the slot of a variable
abbrev pub on_slot : (ℕ → Op) → List ℕ → Coder
on_slot instruction name scope base = instruction (slot_of scope name) ∷ []

-- an instruction on the slot behind those in scope
abbrev pub on_next : (ℕ → Op) → Coder
on_next instruction scope base = instruction (length scope) ∷ []

-- An expression leaves its value: by its instructions, or by those that do for its last use, where a
-- variable's value is moved. Its type is known by its form.
pub record ExpressionCode : Type 0 where
  pub ops : Coder
  pub moved : Coder
  pub type : List Param → Kind

-- the equality of two values of a type
abbrev pub equality : Kind → Op
equality kind.Int = op.EqInt
equality kind.Bool = op.EqBool
equality kind.Slice = op.EqSlice
equality kind.Buf = op.EqSlice
equality kind.Temp = op.EqSlice

-- what an operator that looks at both sides does with their values
abbrev pub operator_ops : BinOp → Kind → List Op
operator_ops operator.Or type = op.Not ∷ op.Not ∷ []
operator_ops operator.And type = op.Not ∷ op.Not ∷ []
operator_ops operator.Equal type = equality type ∷ []
operator_ops operator.NotEqual type = equality type ∷ op.Not ∷ []
operator_ops operator.Less type = op.Less ∷ []
operator_ops operator.LessEqual type = op.LessEq ∷ []
operator_ops operator.Greater type = op.LessEq ∷ op.Not ∷ []
operator_ops operator.GreaterEqual type = op.Less ∷ op.Not ∷ []
operator_ops operator.Add type = op.Add ∷ []
operator_ops operator.Subtract type = op.Minus ∷ []
operator_ops operator.Multiply type = op.Times ∷ []
operator_ops operator.Divide type = op.Over ∷ []
operator_ops operator.Remainder type = op.Rest ∷ []

-- `left && right`: false where the left side is false, else the truth of the right one
abbrev pub and_code : Coder → Coder → Coder
and_code left right scope base =
    let first = left scope base in
    let at_right = base + length first + 1 in
    let second = right scope at_right in
    let at_false = at_right + length second + 3 in
    first ++ (op.JumpFalse at_false ∷ second
    ++ op.Not ∷ op.Not ∷ op.Jump (at_false + 1) ∷ op.Truth false ∷ [])

-- `left || right`: true where the left side is true, else the truth of the right one
abbrev pub or_code : Coder → Coder → Coder
or_code left right scope base =
    let first = left scope base in
    let at_right = base + length first + 3 in
    let second = right scope at_right in
    first ++ (op.JumpFalse at_right ∷ op.Truth true ∷ op.Jump (at_right + length second + 2) ∷ second
    ++ op.Not ∷ op.Not ∷ [])

abbrev pub binary_code : BinOp → ExpressionCode → ExpressionCode → Coder
binary_code operator.Or left right = or_code left.ops right.ops
binary_code operator.And left right = and_code left.ops right.ops
binary_code other left right =
    λ scope. (left.ops ▸ (right.ops ▸ emit (operator_ops other (left.type scope)))) scope

-- the type that an operator gives
abbrev pub operator_kind : BinOp → Kind
operator_kind operator.Add = kind.Int
operator_kind operator.Subtract = kind.Int
operator_kind operator.Multiply = kind.Int
operator_kind operator.Divide = kind.Int
operator_kind operator.Remainder = kind.Int
operator_kind _ = kind.Bool

-- an expression whose value is made anew
abbrev pub made : Kind → Coder → ExpressionCode
made type ops = record { ops = ops; moved = ops; type = λ scope. type }

-- one form, with the code of each operand in its place
abbrev pub expression_form : Expr-F ExpressionCode → ExpressionCode
expression_form (Expr-F.Number number) = made kind.Int (emit (op.Num number ∷ []))
expression_form (Expr-F.Str bytes) = made kind.Slice (emit (op.Str bytes ∷ []))
expression_form (Expr-F.Truth truth) = made kind.Bool (emit (op.Truth truth ∷ []))
expression_form (Expr-F.Var name) = record {
  ops = on_slot op.Load name;
  moved = on_slot op.Move name;
  type = λ scope. unwrap_or (kind_of scope name) kind.Int;
}
expression_form Expr-F.Args = made kind.Slice (emit (op.Args ∷ []))
expression_form (Expr-F.Len bytes) = made kind.Int (bytes.ops ▸ emit (op.Len ∷ []))
expression_form (Expr-F.View name) = made kind.Slice (on_slot op.View name)
expression_form (Expr-F.Temp size) = made kind.Temp (size.ops ▸ emit (op.Temp ∷ []))
expression_form (Expr-F.Byte bytes place) = made kind.Int (bytes.ops ▸ (place.ops ▸ emit (op.Byte ∷ [])))
expression_form (Expr-F.Word bytes place) = made kind.Int (bytes.ops ▸ (place.ops ▸ emit (op.Word ∷ [])))
expression_form (Expr-F.Sub bytes from count) =
    made kind.Slice (bytes.ops ▸ (from.ops ▸ (count.ops ▸ emit (op.Sub ∷ []))))
expression_form (Expr-F.Alloc table key size) =
    made kind.Buf (table.ops ▸ (key.ops ▸ (size.ops ▸ emit (op.Alloc ∷ []))))
expression_form (Expr-F.Not test) = made kind.Bool (test.ops ▸ emit (op.Not ∷ []))
expression_form (Expr-F.Bin operator left right) = made (operator_kind operator) (binary_code operator left right)

-- the code of an expression
unfoldable pub expression_code : Expr → ExpressionCode
expression_code = fold-Expr ExpressionCode expression_form

abbrev pub value_ops : Expr → Coder
value_ops expression = (expression_code expression).ops

-- expressions one after another, each with its value
abbrev pub all_values : List Expr → Coder
all_values [] = emit []
all_values (first ∷ rest) = value_ops first ▸ all_values rest

-- the number of the last of the first `count` functions that has a name, or 0 where none has
abbrev pub number_below : List Function → ℕ → List ℕ → ℕ
number_below functions zero name = 0
number_below functions (suc count) name =
    if is_named name (slice_get functions count) then count else number_below functions count name

-- A statement: its instructions, the variable that it declares, if it is a `let`, and how many variables
-- it declares in all, in its blocks too.
pub record StatementCode : Type 0 where
  pub ops : Coder
  pub declares : List Param
  pub locals : ℕ

-- a block, at whose end its own variables are gone
pub record BlockCode : Type 0 where
  pub ops : Coder
  pub locals : ℕ

-- `if`: past the first block where the test is false, and past the second one behind the first
abbrev pub if_code : Coder → Coder → Coder → Coder
if_code test true_block false_block scope base =
    let tested = test scope base in
    let at_true = base + length tested + 1 in
    let first = true_block scope at_true in
    let at_false = at_true + length first + 1 in
    let second = false_block scope at_false in
    tested ++ (op.JumpFalse at_false ∷ first
    ++ (op.Jump (at_false + length second) ∷ second))

-- `while`: a unit and the test, and the body with a jump back to the unit
abbrev pub while_code : Coder → Coder → Coder
while_code test body scope base =
    let tested = test scope (base + 1) in
    let at_body = base + 1 + length tested + 1 in
    let turn = body scope at_body in
    op.Charge 1 ∷ tested
    ++ (op.JumpFalse (at_body + length turn + 1) ∷ turn
    ++ op.Jump base ∷ [])

-- the arm of a record that is there: its bytes are a variable of the arm
abbrev pub found_code : List ℕ → Coder → Coder
found_code name block scope base =
    op.Store (length scope) ∷ block (scope ++ arm_name name) (base + 1)
    ++ op.Drop (length scope) ∷ []

-- `get`, behind its operands: past the first arm where the record is absent, and past the second one
-- behind the first
abbrev pub get_code : List ℕ → Coder → Coder → Coder
get_code name found_block none_block scope base =
    let first = found_code name found_block scope (base + 1) in
    let at_none = base + 1 + length first + 1 in
    let second = none_block scope at_none in
    op.Get at_none ∷ first
    ++ (op.Jump (at_none + length second) ∷ second)

-- `multiget`, behind its operands and the place of the first key: a turn for each key, with a jump back
-- behind each arm; the arm of an absent record forgets the value that stands for its bytes
abbrev pub multi_code : List ℕ → Coder → Coder → Coder
multi_code name found_block none_block scope base =
    let first = found_code name found_block scope (base + 2) in
    let at_none = base + 2 + length first + 1 in
    let second = none_block scope (at_none + 2) in
    op.Multi (at_none + 2 + length second + 1) ∷ op.JumpFalse at_none ∷ first
    ++ (op.Jump base ∷ op.Store (length scope) ∷ op.Drop (length scope) ∷ second
    ++ op.Jump base ∷ [])

-- one form of statement behind its unit, for a function that may call the first `count` functions
abbrev pub statement_ops : List Function → ℕ → Statement-F StatementCode BlockCode → Coder
statement_ops functions count (Statement-F.Let name kind expression) =
    value_ops expression ▸ on_next op.Store
statement_ops functions count (Statement-F.LetCall name kind function args) =
    all_values args ▸ (emit (op.Call (number_below functions count function) ∷ []) ▸ on_next op.Store)
statement_ops functions count (Statement-F.Assign name expression) =
    value_ops expression ▸ on_slot op.Store name
statement_ops functions count (Statement-F.If test true_block false_block) =
    if_code (value_ops test) true_block.ops false_block.ops
statement_ops functions count (Statement-F.While test body) = while_code (value_ops test) body.ops
statement_ops functions count (Statement-F.Get table key name found_block none_block) =
    value_ops table ▸ (value_ops key ▸ get_code name found_block.ops none_block.ops)
statement_ops functions count (Statement-F.Multi table keys width name found_block none_block) =
    value_ops table ▸ (value_ops keys ▸ (value_ops width
    ▸ (emit (op.Num 0 ∷ []) ▸ multi_code name found_block.ops none_block.ops)))
statement_ops functions count (Statement-F.Set name place expression) =
    value_ops place ▸ (value_ops expression ▸ on_slot op.Set name)
statement_ops functions count (Statement-F.Set8 name place expression) =
    value_ops place ▸ (value_ops expression ▸ on_slot op.Set8 name)
statement_ops functions count (Statement-F.Copy name place source) =
    value_ops place ▸ (value_ops source ▸ on_slot op.Copy name)
statement_ops functions count (Statement-F.Put name) = on_slot op.Put name
statement_ops functions count (Statement-F.Del table key) =
    value_ops table ▸ (value_ops key ▸ emit (op.Del ∷ []))
statement_ops functions count (Statement-F.Resp expression) = value_ops expression ▸ emit (op.Resp ∷ [])
statement_ops functions count (Statement-F.Return expression) =
    (expression_code expression).moved ▸ emit (op.Return ∷ [])

-- how many variables a statement declares, in its blocks too
abbrev pub statement_locals : Statement-F StatementCode BlockCode → ℕ
statement_locals (Statement-F.Let name kind expression) = 1
statement_locals (Statement-F.LetCall name kind function args) = 1
statement_locals (Statement-F.If test true_block false_block) = true_block.locals + false_block.locals
statement_locals (Statement-F.While test body) = body.locals
statement_locals (Statement-F.Get table key name found_block none_block) =
    1 + found_block.locals + none_block.locals
statement_locals (Statement-F.Multi table keys width name found_block none_block) =
    1 + found_block.locals + none_block.locals
statement_locals _ = 0

-- a statement costs 1 unit before its operands
abbrev pub statement_form : List Function → ℕ → Statement-F StatementCode BlockCode → StatementCode
statement_form functions count form = record {
  ops = emit (op.Charge 1 ∷ []) ▸ statement_ops functions count form;
  declares = declared_by form;
  locals = statement_locals form;
}

-- one statement after another, each with the variables in scope that those before it declare
abbrev pub in_order : List StatementCode → Coder
in_order [] scope base = []
in_order (first ∷ rest) scope base =
    first.ops scope base
    ++ in_order rest (scope ++ first.declares) (base + length (first.ops scope base))

-- the variables that statements declare, their blocks left out
abbrev pub all_declared : List StatementCode → List Param
all_declared [] = []
all_declared (first ∷ rest) = first.declares ++ all_declared rest

abbrev pub all_locals : List StatementCode → ℕ
all_locals [] = 0
all_locals (first ∷ rest) = first.locals + all_locals rest

-- the variables of a block are dropped at its end, where it has any
abbrev pub dropped : List Param → Coder
dropped [] scope base = []
dropped (first ∷ rest) scope base = op.Drop (length scope) ∷ []

abbrev pub block_form : Block-F StatementCode BlockCode → BlockCode
block_form form = record {
  ops = in_order form.items ▸ dropped (all_declared form.items);
  locals = all_locals form.items;
}

-- the code of a statement, and of a block, of a function that may call the first `count` functions
unfoldable pub statement_code : List Function → ℕ → Statement → StatementCode
statement_code functions count =
    fold-Statement StatementCode BlockCode (statement_form functions count) block_form

unfoldable pub block_code : List Function → ℕ → Block → BlockCode
block_code functions count =
    fold-Block StatementCode BlockCode (statement_form functions count) block_form

-- The code of a function, which may call the first `count` functions: its block, behind which it returns
-- 0. No typed function comes there, since its block ends with `return`.
abbrev pub function_code : List Function → ℕ → Function → CodeFn
function_code functions count function = record {
  params = length function.params;
  locals = length function.params + (block_code functions count function.body).locals;
  ops = ((block_code functions count function.body).ops ▸ emit (op.Num 0 ∷ op.Return ∷ [])) function.params 0;
}

-- the functions from a number on, each of which may call those before it
abbrev pub function_codes : List Function → ℕ → List Function → List CodeFn
function_codes functions count [] = []
function_codes functions count (function ∷ rest) =
    function_code functions count function ∷ function_codes functions (count + 1) rest

-- the code of a program
unfoldable pub code_of : Program → Code
code_of program = record { functions = function_codes program.functions 0 program.functions }
