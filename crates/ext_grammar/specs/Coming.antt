-- What may come next in a program of which some tokens were read, by looking at one token at a time:
-- the state of a reader between two tokens, and the state behind the next one.
use Rattle.std.specs.Prelude.{ℕ, ◌+◌, Bool, true, false, List, [], ◌∷◌, ◌++◌, Option, Some, None, if◌then◌else◌}
use Rattle.ext_mean.specs.declared.expr.BinOp.{BinOp}
use Rattle.ext_mean.specs.declared.expr.BinOp.TheVariants as op
use Rattle.ext_mean.specs.declared.expr.Expr.{Expr}
use Rattle.ext_mean.specs.declared.expr.Expr.TheVariants as expr
use Rattle.ext_mean.specs.declared.statement.Block.{Block}
use Rattle.ext_mean.specs.declared.statement.Kind.{Kind}
use Rattle.ext_mean.specs.declared.statement.Kind.TheVariants as kind
use Rattle.ext_mean.specs.declared.statement.Statement.{Statement}
use Rattle.ext_mean.specs.declared.statement.Statement.TheVariants as does
use Rattle.ext_mean.specs.declared.token.Mark.{Mark}
use Rattle.ext_mean.specs.declared.token.Mark.TheVariants as mark
use Rattle.ext_mean.specs.declared.token.Token.{Token}
use Rattle.ext_mean.specs.declared.token.Token.TheVariants as token
use Rattle.ext_mean.specs.declared.token.Word.TheVariants as word
use Rattle.ext_mean.specs.declared.tree.Function.{Function}
use Rattle.ext_mean.specs.declared.tree.Param.{Param}
use Rattle.ext_mean.specs.Derived.{block_of, write_tree}
use Rattle.ext_mean.specs.Grammar.{Writing, set, set8, copy}
use Rattle.ext_mean.specs.Wording.{Standing, outside, begins, inside, naming}

-- how tightly an operator between two operands binds, from the loosest
pub data Level : Type 0 where
  disjoining conjoining comparing adding multiplying : Level

abbrev pub level_of : BinOp → Level
level_of op.Or = disjoining
level_of op.And = conjoining
level_of op.Equal = comparing
level_of op.NotEqual = comparing
level_of op.Less = comparing
level_of op.LessEqual = comparing
level_of op.Greater = comparing
level_of op.GreaterEqual = comparing
level_of op.Add = adding
level_of op.Subtract = adding
level_of op.Multiply = multiplying
level_of op.Divide = multiplying
level_of op.Remainder = multiplying

abbrev pub is_level : Level → Level → Bool
is_level disjoining disjoining = true
is_level conjoining conjoining = true
is_level comparing comparing = true
is_level adding adding = true
is_level multiplying multiplying = true
is_level first second = false

-- words with one, two and three operands
pub data Single : Type 0 where
  len temp : Single

pub data Double : Type 0 where
  byte u64 : Double

pub data Triple : Type 0 where
  sub alloc : Triple

abbrev pub single_expr : Single → Expr → Expr
single_expr len bytes = expr.Len bytes
single_expr temp size = expr.Temp size

abbrev pub double_expr : Double → Expr → Expr → Expr
double_expr byte bytes place = expr.Byte bytes place
double_expr u64 bytes place = expr.Word bytes place

abbrev pub triple_expr : Triple → Expr → Expr → Expr → Expr
triple_expr sub bytes from count = expr.Sub bytes from count
triple_expr alloc table key size = expr.Alloc table key size

-- a read whose operands are known, and its statement
pub data Looking : Type 0 where
  get : Expr → Expr → Looking
  multiget : Expr → Expr → Expr → Looking

abbrev pub looking_statement : Looking → List ℕ → Block → Block → Statement
looking_statement (get table key) name yes_block no_block = does.Get table key name yes_block no_block
looking_statement (multiget table keys width) name yes_block no_block =
    does.Multi table keys width name yes_block no_block

mutual
  -- where a block stands that is being read
  pub data AroundBlock : Type 0 where
    -- the blocks of an `if`, of which the first comes behind a test with so many operators
    if_block : Expr → ℕ → AroundStatement → AroundBlock
    else_block : Expr → Block → AroundStatement → AroundBlock
    while_block : Expr → AroundStatement → AroundBlock
    -- the blocks of a read, whose operands have so many operators
    some_block : Looking → List ℕ → ℕ → AroundStatement → AroundBlock
    none_block : Looking → List ℕ → Block → ℕ → AroundStatement → AroundBlock
    -- the body of a function, behind those that are known
    function_body : List Function → List ℕ → List Param → Kind → AroundBlock

  -- where a statement stands: in a block, behind those that are known
  pub data AroundStatement : Type 0 where
    in_block : List Statement → AroundBlock → AroundStatement

-- Where an expression stands that is being read.
pub data AroundExpr : Type 0 where
  -- operators of a level may follow it, which is an operand or a right side
  chain : Level → AroundExpr → AroundExpr
  right : Level → BinOp → Expr → AroundExpr → AroundExpr
  negated : AroundExpr → AroundExpr
  in_parentheses : AroundExpr → AroundExpr
  -- the operands of a word, behind those that are known
  only_operand : Single → AroundExpr → AroundExpr
  first_of_two : Double → AroundExpr → AroundExpr
  second_of_two : Double → Expr → AroundExpr → AroundExpr
  first_of_three : Triple → AroundExpr → AroundExpr
  second_of_three : Triple → Expr → AroundExpr → AroundExpr
  third_of_three : Triple → Expr → Expr → AroundExpr → AroundExpr
  -- an argument of a called function, behind those that are known
  call_argument : List ℕ → Kind → List ℕ → List Expr → AroundStatement → AroundExpr
  let_value : List ℕ → Kind → AroundStatement → AroundExpr
  assigned : List ℕ → AroundStatement → AroundExpr
  if_test : AroundStatement → AroundExpr
  while_test : AroundStatement → AroundExpr
  get_table : AroundStatement → AroundExpr
  get_key : Expr → AroundStatement → AroundExpr
  multiget_table : AroundStatement → AroundExpr
  multiget_keys : Expr → AroundStatement → AroundExpr
  multiget_width : Expr → Expr → AroundStatement → AroundExpr
  write_place : Writing → List ℕ → AroundStatement → AroundExpr
  write_value : Writing → List ℕ → Expr → AroundStatement → AroundExpr
  del_table : AroundStatement → AroundExpr
  del_key : Expr → AroundStatement → AroundExpr
  answered : AroundStatement → AroundExpr
  returned : List Statement → AroundBlock → AroundExpr

-- What is to come.
pub data Coming : Type 0 where
  -- this mark, and no other token
  fixed : Mark → Coming → Coming
  -- an operand, with its `!` or without; what may follow an expression
  unary : AroundExpr → Coming
  primary : AroundExpr → Coming
  behind : Expr → AroundExpr → Coming
  view_name : AroundExpr → Coming
  -- a `let`
  let_name : AroundStatement → Coming
  let_kind : List ℕ → AroundStatement → Coming
  value : List ℕ → Kind → AroundStatement → Coming
  behind_name : List ℕ → Kind → List ℕ → AroundStatement → Coming
  first_argument : List ℕ → Kind → List ℕ → AroundStatement → Coming
  -- names of buffers
  written_name : Writing → AroundStatement → Coming
  put_name : AroundStatement → Coming
  -- the arms of a read
  some_word : Looking → AroundStatement → Coming
  some_name : Looking → AroundStatement → Coming
  none_word : ℕ → Looking → List ℕ → Block → AroundStatement → Coming
  arms_end : ℕ → Statement → AroundStatement → Coming
  -- the `;` of a statement that is known
  semicolon : Statement → AroundStatement → Coming
  -- blocks
  braces : AroundBlock → Coming
  statements : List Statement → AroundBlock → Coming
  last_brace : List Statement → AroundBlock → Coming
  maybe_else : Expr → Block → ℕ → AroundStatement → Coming
  -- functions, behind those that are known
  functions : List Function → Coming
  function_name : List Function → Coming
  first_parameter : List Function → List ℕ → Coming
  parameter : List Function → List ℕ → List Param → Coming
  parameter_kind : List Function → List ℕ → List Param → List ℕ → Coming
  behind_parameter : List Function → List ℕ → List Param → Coming
  result_kind : List Function → List ℕ → List Param → Coming

-- around a side of an operator of a level, and a whole expression
abbrev pub side : Level → AroundExpr → AroundExpr
side disjoining around =
    chain multiplying (chain adding (chain comparing (chain conjoining around)))
side conjoining around = chain multiplying (chain adding (chain comparing around))
side comparing around = chain multiplying (chain adding around)
side adding around = chain multiplying around
side multiplying around = around

abbrev pub level_operand : AroundExpr → AroundExpr
level_operand around = side disjoining (chain disjoining around)

abbrev pub expression : AroundExpr → Coming
expression around = unary (level_operand around)

-- the token's standing, the operators of the item that is open behind it, and what is to come then
pub record Move : Type 0 where
  pub standing : Standing
  pub operators : ℕ
  pub coming : Coming

-- a token inside an item that has so many operators before it
abbrev pub stays : ℕ → Coming → Option Move
stays before coming =
    Some (record { standing = inside before; operators = before; coming = coming })

abbrev pub operates : ℕ → Coming → Option Move
operates before coming =
    Some (record { standing = inside before; operators = before + 1; coming = coming })

abbrev pub names : ℕ → Coming → Option Move
names before coming =
    Some (record { standing = naming before; operators = before; coming = coming })

-- the last token of an item, or the last before a block of it
abbrev pub ends : ℕ → Coming → Option Move
ends before coming =
    Some (record { standing = inside before; operators = 0; coming = coming })

-- the first token of an item, and one that stands in none
abbrev pub starts : Coming → Option Move
starts coming = Some (record { standing = begins; operators = 0; coming = coming })

abbrev pub stands_out : ℕ → Coming → Option Move
stands_out later coming =
    Some (record { standing = outside; operators = later; coming = coming })

-- behind a statement, and behind a block
abbrev pub done : Statement → AroundStatement → Coming
done statement (in_block before around) = statements (before ++ statement ∷ []) around

abbrev pub function_of : List ℕ → List Param → Kind → Block → Function
function_of name params result body =
    record { name = name; params = params; result = result; body = body }

abbrev pub closed : Block → AroundBlock → Coming
closed block (if_block test operators around) = maybe_else test block operators around
closed block (else_block test yes_block around) = done (does.If test yes_block block) around
closed block (while_block test around) = done (does.While test block) around
closed block (some_block looking name operators around) =
    none_word operators looking name block around
closed block (none_block looking name yes_block operators around) =
    arms_end operators (looking_statement looking name yes_block block) around
closed block (function_body before name params result) =
    functions (before ++ function_of name params result block ∷ [])

-- the kind that a token names
abbrev pub kind_of : Token → Option Kind
kind_of (token.Word word.Int) = Some kind.Int
kind_of (token.Word word.Bool) = Some kind.Bool
kind_of (token.Word word.Slice) = Some kind.Slice
kind_of (token.Word word.Buf) = Some kind.Buf
kind_of (token.Word word.Temp) = Some kind.Temp
kind_of other = None

abbrev pub name_of : Token → Option (List ℕ)
name_of (token.Name name) = Some name
name_of other = None

abbrev pub operator_of : Token → Option BinOp
operator_of (token.Binary operator) = Some operator
operator_of other = None

abbrev pub is_mark : Mark → Token → Bool
is_mark mark.Open (token.Mark mark.Open) = true
is_mark mark.Close (token.Mark mark.Close) = true
is_mark mark.OpenBlock (token.Mark mark.OpenBlock) = true
is_mark mark.CloseBlock (token.Mark mark.CloseBlock) = true
is_mark mark.Comma (token.Mark mark.Comma) = true
is_mark mark.Semicolon (token.Mark mark.Semicolon) = true
is_mark mark.Colon (token.Mark mark.Colon) = true
is_mark mark.Assign (token.Mark mark.Assign) = true
is_mark mark.Arrow (token.Mark mark.Arrow) = true
is_mark mark.Arm (token.Mark mark.Arm) = true
is_mark mark other = false

-- what follows where the token is this mark, or of this sort
abbrev pub on_mark : Mark → Token → Option Move → Option Move
on_mark mark next move = if is_mark mark next then move else None

abbrev pub on_some : {A : Type 0} → Option A → (A → Option Move) → Option Move
on_some (Some found) move = move found
on_some None move = None

-- a `{`, behind so many operators of its item
abbrev pub opens : AroundBlock → ℕ → Token → Option Move
opens around before next = on_mark mark.OpenBlock next (ends before (statements [] around))

-- an operand
abbrev pub on_primary : AroundExpr → ℕ → Token → Option Move
on_primary around before (token.Number number) = stays before (behind (expr.Number number) around)
on_primary around before (token.Str items) = stays before (behind (expr.Str items) around)
on_primary around before (token.Name name) = stays before (behind (expr.Var name) around)
on_primary around before (token.Mark mark.Open) =
    stays before (expression (in_parentheses around))
on_primary around before (token.Word word.True) = stays before (behind (expr.Truth true) around)
on_primary around before (token.Word word.False) = stays before (behind (expr.Truth false) around)
on_primary around before (token.Word word.Args) =
    stays before (fixed mark.Open (fixed mark.Close (behind expr.Args around)))
on_primary around before (token.Word word.View) =
    stays before (fixed mark.Open (view_name around))
on_primary around before (token.Word word.Len) =
    stays before (fixed mark.Open (expression (only_operand len around)))
on_primary around before (token.Word word.Temp) =
    stays before (fixed mark.Open (expression (only_operand temp around)))
on_primary around before (token.Word word.Byte) =
    stays before (fixed mark.Open (expression (first_of_two byte around)))
on_primary around before (token.Word word.U64) =
    stays before (fixed mark.Open (expression (first_of_two u64 around)))
on_primary around before (token.Word word.Sub) =
    stays before (fixed mark.Open (expression (first_of_three sub around)))
on_primary around before (token.Word word.Alloc) =
    stays before (fixed mark.Open (expression (first_of_three alloc around)))
on_primary around before other = None

abbrev pub on_unary : AroundExpr → ℕ → Token → Option Move
on_unary around before token.Not = operates before (primary (negated around))
on_unary around before other = on_primary around before other

-- an operator of this level behind an operand, or else what may come instead
abbrev pub on_chain : Level → Expr → AroundExpr → ℕ → Option BinOp → Option Move → Option Move
on_chain level left around before (Some operator) otherwise =
    if is_level level (level_of operator)
    then operates before (unary (side level (right level operator left around)))
    else otherwise
on_chain level left around before None otherwise = otherwise

-- the same behind a right side; comparisons do not chain
abbrev pub on_longer_chain : Level → Expr → AroundExpr → ℕ → Option BinOp → Option Move → Option Move
on_longer_chain comparing left around before operator otherwise = otherwise
on_longer_chain level left around before operator otherwise =
    on_chain level left around before operator otherwise

-- behind an expression
abbrev pub on_behind : Expr → AroundExpr → ℕ → Token → Option Move
on_behind found (chain level around) before next =
    on_chain level found around before (operator_of next) (on_behind found around before next)
on_behind found (right level operator left around) before next =
    on_longer_chain level (expr.Bin operator left found) around before (operator_of next)
    (on_behind (expr.Bin operator left found) around before next)
on_behind found (negated around) before next = on_behind (expr.Not found) around before next
on_behind found (in_parentheses around) before next =
    on_mark mark.Close next (stays before (behind found around))
on_behind found (only_operand word around) before next =
    on_mark mark.Close next (stays before (behind (single_expr word found) around))
on_behind found (first_of_two word around) before next =
    on_mark mark.Comma next (stays before (expression (second_of_two word found around)))
on_behind found (second_of_two word first around) before next =
    on_mark mark.Close next (stays before (behind (double_expr word first found) around))
on_behind found (first_of_three word around) before next =
    on_mark mark.Comma next (stays before (expression (second_of_three word found around)))
on_behind found (second_of_three word first around) before next =
    on_mark mark.Comma next (stays before (expression (third_of_three word first found around)))
on_behind found (third_of_three word first second around) before next =
    on_mark mark.Close next (stays before (behind (triple_expr word first second found) around))
on_behind found (call_argument name of called values around) before next =
    if is_mark mark.Comma next
    then stays before (expression (call_argument name of called (values ++ found ∷ []) around))
    else on_mark mark.Close next
    (stays before (semicolon (does.LetCall name of called (values ++ found ∷ [])) around))
on_behind found (let_value name of around) before next =
    on_mark mark.Semicolon next (ends before (done (does.Let name of found) around))
on_behind found (assigned name around) before next =
    on_mark mark.Semicolon next (ends before (done (does.Assign name found) around))
on_behind found (if_test around) before next = opens (if_block found before around) before next
on_behind found (while_test around) before next = opens (while_block found around) before next
on_behind found (get_table around) before next =
    on_mark mark.Comma next (stays before (expression (get_key found around)))
on_behind found (get_key table around) before next =
    on_mark mark.Close next (stays before (fixed mark.OpenBlock (some_word (get table found) around)))
on_behind found (multiget_table around) before next =
    on_mark mark.Comma next (stays before (expression (multiget_keys found around)))
on_behind found (multiget_keys table around) before next =
    on_mark mark.Comma next (stays before (expression (multiget_width table found around)))
on_behind found (multiget_width table keys around) before next =
    on_mark mark.Close next
    (stays before (fixed mark.OpenBlock (some_word (multiget table keys found) around)))
on_behind found (write_place writing name around) before next =
    on_mark mark.Comma next (stays before (expression (write_value writing name found around)))
on_behind found (write_value writing name place around) before next =
    on_mark mark.Close next (stays before (semicolon (write_tree writing name place found) around))
on_behind found (del_table around) before next =
    on_mark mark.Comma next (stays before (expression (del_key found around)))
on_behind found (del_key table around) before next =
    on_mark mark.Close next (stays before (semicolon (does.Del table found) around))
on_behind found (answered around) before next =
    on_mark mark.Close next (stays before (semicolon (does.Resp found) around))
on_behind found (returned known around) before next =
    on_mark mark.Semicolon next (ends before (last_brace (known ++ does.Return found ∷ []) around))

-- the first token of a statement
abbrev pub on_statement : AroundStatement → Token → Option Move
on_statement around (token.Name name) =
    starts (fixed mark.Assign (expression (assigned name around)))
on_statement around (token.Word word.Let) = starts (let_name around)
on_statement around (token.Word word.If) = starts (expression (if_test around))
on_statement around (token.Word word.While) = starts (expression (while_test around))
on_statement around (token.Word word.Get) =
    starts (fixed mark.Open (expression (get_table around)))
on_statement around (token.Word word.Multiget) =
    starts (fixed mark.Open (expression (multiget_table around)))
on_statement around (token.Word word.Set) = starts (fixed mark.Open (written_name set around))
on_statement around (token.Word word.Set8) = starts (fixed mark.Open (written_name set8 around))
on_statement around (token.Word word.Copy) = starts (fixed mark.Open (written_name copy around))
on_statement around (token.Word word.Put) = starts (fixed mark.Open (put_name around))
on_statement around (token.Word word.Del) =
    starts (fixed mark.Open (expression (del_table around)))
on_statement around (token.Word word.Resp) =
    starts (fixed mark.Open (expression (answered around)))
on_statement around other = None

-- in a block, behind the statements that are known
abbrev pub on_statements : List Statement → AroundBlock → Token → Option Move
on_statements before around (token.Mark mark.CloseBlock) =
    stands_out 0 (closed (block_of before) around)
on_statements before around (token.Word word.Return) =
    starts (expression (returned before around))
on_statements before around next = on_statement (in_block before around) next

-- behind a statement
abbrev pub on_done : Statement → AroundStatement → Token → Option Move
on_done statement (in_block before around) next =
    on_statements (before ++ statement ∷ []) around next

-- behind the first block of an `if`
abbrev pub on_else : Expr → Block → ℕ → AroundStatement → Token → Option Move
on_else test yes_block operators around (token.Word word.Else) =
    stands_out operators (braces (else_block test yes_block around))
on_else test yes_block operators around next =
    on_done (does.If test yes_block (block_of [])) around next

-- what a variable is to be: a call begins with a name and a `(`
abbrev pub on_value : List ℕ → Kind → AroundStatement → ℕ → Token → Option Move
on_value name of around before (token.Name called) =
    stays before (behind_name name of called around)
on_value name of around before next =
    on_unary (level_operand (let_value name of around)) before next

abbrev pub on_behind_name : List ℕ → Kind → List ℕ → AroundStatement → ℕ → Token → Option Move
on_behind_name name of called around before (token.Mark mark.Open) =
    stays before (first_argument name of called around)
on_behind_name name of called around before next =
    on_behind (expr.Var called) (level_operand (let_value name of around))
    before next

abbrev pub on_first_argument : List ℕ → Kind → List ℕ → AroundStatement → ℕ → Token → Option Move
on_first_argument name of called around before (token.Mark mark.Close) =
    stays before (semicolon (does.LetCall name of called []) around)
on_first_argument name of called around before next =
    on_unary (level_operand (call_argument name of called [] around))
    before next

-- the arms of a read
abbrev pub on_some_word : Looking → AroundStatement → ℕ → Token → Option Move
on_some_word looking around before (token.Word word.Some) =
    stays before (some_name looking around)
on_some_word looking around before next = None

abbrev pub on_none_word : Looking → List ℕ → Block → AroundStatement → ℕ → Token → Option Move
on_none_word looking name block around before (token.Word word.None) =
    stays before (fixed mark.Arm (braces (none_block looking name block before around)))
on_none_word looking name block around before next = None

-- a function, and its parameters
abbrev pub on_functions : List Function → Token → Option Move
on_functions known (token.Word word.Fn) = starts (function_name known)
on_functions known next = None

abbrev pub on_first_parameter : List Function → List ℕ → ℕ → Token → Option Move
on_first_parameter known name before (token.Mark mark.Close) =
    stays before (fixed mark.Arrow (result_kind known name []))
on_first_parameter known name before (token.Name param) =
    names before (fixed mark.Colon (parameter_kind known name [] param))
on_first_parameter known name before next = None

abbrev pub on_behind_parameter : List Function → List ℕ → List Param → ℕ → Token → Option Move
on_behind_parameter known name params before (token.Mark mark.Comma) =
    stays before (parameter known name params)
on_behind_parameter known name params before (token.Mark mark.Close) =
    stays before (fixed mark.Arrow (result_kind known name params))
on_behind_parameter known name params before next = None

-- the token that comes next, where the item that is open has so many operators before it; none where
-- no program goes on with this token
abbrev pub on_token : Coming → ℕ → Token → Option Move
on_token (fixed mark coming) before next = on_mark mark next (stays before coming)
on_token (unary around) before next = on_unary around before next
on_token (primary around) before next = on_primary around before next
on_token (behind found around) before next = on_behind found around before next
on_token (view_name around) before next =
    on_some (name_of next) (λ name. stays before (fixed mark.Close (behind (expr.View name) around)))
on_token (let_name around) before next =
    on_some (name_of next) (λ name. names before (fixed mark.Colon (let_kind name around)))
on_token (let_kind name around) before next =
    on_some (kind_of next) (λ of. stays before (fixed mark.Assign (value name of around)))
on_token (value name of around) before next = on_value name of around before next
on_token (behind_name name of called around) before next =
    on_behind_name name of called around before next
on_token (first_argument name of called around) before next =
    on_first_argument name of called around before next
on_token (written_name writing around) before next =
    on_some (name_of next)
    (λ name. stays before (fixed mark.Comma (expression (write_place writing name around))))
on_token (put_name around) before next =
    on_some (name_of next) (λ name. stays before (fixed mark.Close (semicolon (does.Put name) around)))
on_token (some_word looking around) before next = on_some_word looking around before next
on_token (some_name looking around) before next =
    on_some (name_of next)
    (λ name. names before (fixed mark.Arm (braces (some_block looking name before around))))
on_token (none_word operators looking name block around) before next =
    on_none_word looking name block around before next
on_token (arms_end operators statement around) before next =
    on_mark mark.CloseBlock next (ends before (done statement around))
on_token (semicolon statement around) before next =
    on_mark mark.Semicolon next (ends before (done statement around))
on_token (braces around) before next = opens around before next
on_token (statements known around) before next = on_statements known around next
on_token (last_brace known around) before next =
    on_mark mark.CloseBlock next (stands_out 0 (closed (block_of known) around))
on_token (maybe_else test yes_block operators around) before next =
    on_else test yes_block operators around next
on_token (functions known) before next = on_functions known next
on_token (function_name known) before next =
    on_some (name_of next) (λ name. stays before (fixed mark.Open (first_parameter known name)))
on_token (first_parameter known name) before next = on_first_parameter known name before next
on_token (parameter known name params) before next =
    on_some (name_of next)
    (λ param. names before (fixed mark.Colon (parameter_kind known name params param)))
on_token (parameter_kind known name params param) before next =
    on_some (kind_of next)
    (λ of. stays before (behind_parameter known name (params ++ record { name = param; kind = of } ∷ [])))
on_token (behind_parameter known name params) before next =
    on_behind_parameter known name params before next
on_token (result_kind known name params) before next =
    on_some (kind_of next) (λ of. stays before (braces (function_body known name params of)))
