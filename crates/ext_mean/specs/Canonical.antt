-- The canonical text of a program: no comment, one space only between two tokens that are both
-- names, words or numbers, no `else` with an empty block, and only the parentheses that are needed.
use Rattle.std.specs.Prelude.{ℕ, ◌+◌, ◌/◌, ◌%◌, Bool, true, false, List, [], ◌∷◌, ◌++◌, nat_le, ◌&&◌, if◌then◌else◌}
use Rattle.std.specs.List.{flat_map}
use Rattle.std.specs.Fmt.{decimal}
use Rattle.ext_mean.specs.declared.expr.BinOp.{BinOp}
use Rattle.ext_mean.specs.declared.expr.BinOp.TheVariants as op
use Rattle.ext_mean.specs.declared.expr.Expr.{Expr}
use Rattle.ext_mean.specs.declared.expr.Expr.TheOpen.{Expr-F}
use Rattle.ext_mean.specs.declared.expr.Expr.TheFolds.{fold-Expr}
use Rattle.ext_mean.specs.declared.statement.Kind.{Kind}
use Rattle.ext_mean.specs.declared.statement.Block.{Block}
use Rattle.ext_mean.specs.declared.statement.Statement.{Statement}
use Rattle.ext_mean.specs.declared.statement.Statement.TheOpen.{Statement-F}
use Rattle.ext_mean.specs.declared.statement.Statement.TheFolds.{fold-Statement, fold-Block}
use Rattle.ext_mean.specs.declared.token.Word.{Word}
use Rattle.ext_mean.specs.declared.token.Word.TheVariants as word
use Rattle.ext_mean.specs.declared.token.Mark.TheVariants as mark
use Rattle.ext_mean.specs.declared.token.Token.{Token}
use Rattle.ext_mean.specs.declared.token.Token.TheVariants as token
use Rattle.ext_mean.specs.declared.tree.Program.{Program}
use Rattle.ext_mean.specs.declared.tree.Function.{Function}
use Rattle.ext_mean.specs.declared.tree.Param.{Param}
use Rattle.ext_mean.specs.Tokens.{letters, mark_bytes, operator_bytes, is_plain, escaped, newline}
use Rattle.ext_mean.specs.Wording.{open_, close, open_block, close_block, comma, semicolon, colon, assigns, kind_token, truth_word, fn_token}

-- how tightly an expression binds: `||` least, then `&&`, comparisons, sums, products, `!`, and most
-- tightly what needs no operator
abbrev pub binding : BinOp → ℕ
binding op.Or = 0
binding op.And = 1
binding op.Add = 3
binding op.Subtract = 3
binding op.Multiply = 4
binding op.Divide = 4
binding op.Remainder = 4
binding comparison = 2

-- how tightly the left side must bind to stand without parentheses: chains associate to the left,
-- and comparisons do not chain. The right side must bind more tightly than its operator.
abbrev pub left_binding : BinOp → ℕ
left_binding op.Or = 0
left_binding op.And = 1
left_binding op.Add = 3
left_binding op.Subtract = 3
left_binding op.Multiply = 4
left_binding op.Divide = 4
left_binding op.Remainder = 4
left_binding comparison = 3

-- an expression's tokens, with how tightly it binds
pub record Shown : Type 0 where
  pub binds : ℕ
  pub tokens : List Token

-- the tokens at a place that asks for a binding: in parentheses where the expression has less
abbrev pub at_least : ℕ → Shown → List Token
at_least least shown =
    if nat_le least shown.binds then shown.tokens else (open_ ∷ (shown.tokens ++ close ∷ []))

-- a word with one, two or three expressions in its parentheses
abbrev pub with_one : Word → List Token → List Token
with_one of a = token.Word of ∷ open_ ∷ (a ++ close ∷ [])

abbrev pub with_two : Word → List Token → List Token → List Token
with_two of a b = token.Word of ∷ open_ ∷ (a ++ comma ∷ (b ++ close ∷ []))

abbrev pub with_three : Word → List Token → List Token → List Token → List Token
with_three of a b c =
    token.Word of ∷ open_ ∷ (a ++ comma ∷ (b ++ comma ∷ (c ++ close ∷ [])))

abbrev pub tight : List Token → Shown
tight tokens = record { binds = 6; tokens = tokens }

-- one form of expression, with its operands in their places
abbrev pub expression_shown : Expr-F Shown → Shown
expression_shown (Expr-F.Number value) = tight (token.Number value ∷ [])
expression_shown (Expr-F.Str items) = tight (token.Str items ∷ [])
expression_shown (Expr-F.Truth value) = tight (token.Word (truth_word value) ∷ [])
expression_shown (Expr-F.Var name) = tight (token.Name name ∷ [])
expression_shown Expr-F.Args = tight (token.Word word.Args ∷ open_ ∷ close ∷ [])
expression_shown (Expr-F.Len bytes) = tight (with_one word.Len bytes.tokens)
expression_shown (Expr-F.View name) = tight (with_one word.View (token.Name name ∷ []))
expression_shown (Expr-F.Temp size) = tight (with_one word.Temp size.tokens)
expression_shown (Expr-F.Byte bytes place) = tight (with_two word.Byte bytes.tokens place.tokens)
expression_shown (Expr-F.Word bytes place) = tight (with_two word.U64 bytes.tokens place.tokens)
expression_shown (Expr-F.Sub bytes from count) =
    tight (with_three word.Sub bytes.tokens from.tokens count.tokens)
expression_shown (Expr-F.Alloc table key size) =
    tight (with_three word.Alloc table.tokens key.tokens size.tokens)
expression_shown (Expr-F.Not operand) =
    record { binds = 5; tokens = token.Not ∷ at_least 6 operand }
expression_shown (Expr-F.Bin operator left right) = record {
  binds = binding operator;
  tokens = at_least (left_binding operator) left
      ++ token.Binary operator ∷ at_least (binding operator + 1) right;
}

unfoldable pub shown : Expr → Shown
shown = fold-Expr Shown expression_shown

-- the tokens of an expression at a place that asks for no binding
abbrev pub expression_tokens : Expr → List Token
expression_tokens value = (shown value).tokens

-- expressions with commas between them
abbrev pub listed_behind : List Expr → List Token
listed_behind [] = []
listed_behind (next ∷ more) = comma ∷ (expression_tokens next ++ listed_behind more)

abbrev pub listed : List Expr → List Token
listed [] = []
listed (first ∷ more) = expression_tokens first ++ listed_behind more

-- a block of these statements, each by its tokens
abbrev pub braced : List (List Token) → List Token
braced statements = open_block ∷ (flat_map (λ one. one) statements ++ close_block ∷ [])

-- `else` with its block, unless that is empty
abbrev pub else_shown : List (List Token) → List Token
else_shown [] = []
else_shown (first ∷ more) = token.Word word.Else ∷ braced (first ∷ more)

-- `let name: type =`
abbrev pub declared_shown : List ℕ → Kind → List Token
declared_shown name of =
    token.Word word.Let ∷ token.Name name ∷ colon ∷ kind_token of ∷ assigns ∷ []

abbrev pub let_shown : List ℕ → Kind → List Token → List Token
let_shown name of value =
    token.Word word.Let ∷ token.Name name ∷ colon ∷ kind_token of ∷ assigns ∷ (value ++ semicolon ∷ [])

abbrev pub arms_shown : List ℕ → List (List Token) → List (List Token) → List Token
arms_shown name yes_block no_block =
    open_block ∷ token.Word word.Some ∷ token.Name name ∷ token.Mark mark.Arm
    ∷ (braced yes_block ++ token.Word word.None ∷ token.Mark mark.Arm ∷ (braced no_block ++ close_block ∷ []))

-- one form of statement, with its blocks in their places
abbrev pub statement_shown : Statement-F (List Token) (List (List Token)) → List Token
statement_shown (Statement-F.Let name kind value) = let_shown name kind (expression_tokens value)
statement_shown (Statement-F.LetCall name kind called values) =
    let_shown name kind (token.Name called ∷ open_ ∷ (listed values ++ close ∷ []))
statement_shown (Statement-F.Assign name value) =
    token.Name name ∷ assigns ∷ (expression_tokens value ++ semicolon ∷ [])
statement_shown (Statement-F.If test yes_block no_block) =
    token.Word word.If ∷ (expression_tokens test ++ (braced yes_block ++ else_shown no_block))
statement_shown (Statement-F.While test body) =
    token.Word word.While ∷ (expression_tokens test ++ braced body)
statement_shown (Statement-F.Get table key name yes_block no_block) =
    with_two word.Get (expression_tokens table) (expression_tokens key)
    ++ arms_shown name yes_block no_block
statement_shown (Statement-F.Multi table keys width name yes_block no_block) =
    with_three word.Multiget (expression_tokens table) (expression_tokens keys) (expression_tokens width)
    ++ arms_shown name yes_block no_block
statement_shown (Statement-F.Set name place value) =
    with_three word.Set (token.Name name ∷ []) (expression_tokens place) (expression_tokens value)
    ++ semicolon ∷ []
statement_shown (Statement-F.Set8 name place value) =
    with_three word.Set8 (token.Name name ∷ []) (expression_tokens place) (expression_tokens value)
    ++ semicolon ∷ []
statement_shown (Statement-F.Copy name place source) =
    with_three word.Copy (token.Name name ∷ []) (expression_tokens place) (expression_tokens source)
    ++ semicolon ∷ []
statement_shown (Statement-F.Put name) =
    with_one word.Put (token.Name name ∷ []) ++ semicolon ∷ []
statement_shown (Statement-F.Del table key) =
    with_two word.Del (expression_tokens table) (expression_tokens key) ++ semicolon ∷ []
statement_shown (Statement-F.Resp value) =
    with_one word.Resp (expression_tokens value) ++ semicolon ∷ []
statement_shown (Statement-F.Return value) =
    token.Word word.Return ∷ (expression_tokens value ++ semicolon ∷ [])

-- a statement's tokens, and those of each statement of a block
unfoldable pub sentence_shown : Statement → List Token
sentence_shown = fold-Statement (List Token) (List (List Token)) statement_shown (λ block. block.items)

unfoldable pub block_shown : Block → List (List Token)
block_shown = fold-Block (List Token) (List (List Token)) statement_shown (λ block. block.items)

-- parameters with commas between them
abbrev pub parameter_shown : Param → List Token
parameter_shown param = token.Name param.name ∷ colon ∷ kind_token param.kind ∷ []

abbrev pub parameters_behind : List Param → List Token
parameters_behind [] = []
parameters_behind (next ∷ more) = comma ∷ (parameter_shown next ++ parameters_behind more)

abbrev pub parameters_shown : List Param → List Token
parameters_shown [] = []
parameters_shown (first ∷ more) = parameter_shown first ++ parameters_behind more

abbrev pub function_shown : Function → List Token
function_shown function =
    fn_token ∷ token.Name function.name ∷ open_
    ∷ (parameters_shown function.params
    ++ close ∷ token.Mark mark.Arrow ∷ kind_token function.result ∷ braced (block_shown function.body))

-- the tokens of the canonical text
abbrev pub program_shown : Program → List Token
program_shown program = flat_map function_shown program.functions

-- a byte of a string is written as itself where it may be, else as `\xHH`
abbrev pub shown_byte : ℕ → List ℕ
shown_byte byte = if is_plain byte then (byte ∷ []) else escaped (byte / 16) (byte % 16)

-- the bytes of a token
abbrev pub token_bytes : Token → List ℕ
token_bytes (token.Word of) = letters of
token_bytes (token.Name name) = name
token_bytes (token.Number value) = decimal value
token_bytes (token.Str items) = 0x22 ∷ (flat_map shown_byte items ++ 0x22 ∷ [])
token_bytes (token.Mark of) = mark_bytes of
token_bytes token.Not = 0x21 ∷ []
token_bytes (token.Binary operator) = operator_bytes operator

-- whether a token is a name, a word or a number
abbrev pub is_wordy : Token → Bool
is_wordy (token.Word of) = true
is_wordy (token.Name name) = true
is_wordy (token.Number value) = true
is_wordy other = false

-- the bytes of tokens, behind a token that is a name, a word or a number, or is none of these
abbrev pub written : Bool → List Token → List ℕ
written wordy [] = []
written wordy (next ∷ more) =
    (if wordy && is_wordy next then (0x20 ∷ []) else []) ++ (token_bytes next ++ written (is_wordy next) more)

-- the canonical text
abbrev pub canonical : Program → List ℕ
canonical program = written false (program_shown program) ++ newline ∷ []
