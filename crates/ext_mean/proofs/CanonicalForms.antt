-- The equations of the canonical text: one form of expression and statement at a time.
use Rattle.std.proofs.Common.{◌≡◌, ℕ, Bool, List, map}
use Rattle.ext_mean.specs.declared.expr.BinOp.{BinOp}
use Rattle.ext_mean.specs.declared.expr.Expr.{Expr}
use Rattle.ext_mean.specs.declared.expr.Expr.TheVariants as expr
use Rattle.ext_mean.specs.declared.expr.Expr.TheViews.{roll-Expr}
use Rattle.ext_mean.specs.declared.expr.Expr.TheOpen.{Expr-F}
use Rattle.ext_mean.specs.declared.expr.Expr.TheFolds.{fold-roll-Expr, map-Expr}
use Rattle.ext_mean.specs.declared.statement.Kind.{Kind}
use Rattle.ext_mean.specs.declared.statement.Statement.{Statement}
use Rattle.ext_mean.specs.declared.statement.Block.{Block}
use Rattle.ext_mean.specs.declared.statement.Statement.TheVariants as does
use Rattle.ext_mean.specs.declared.statement.Statement.TheViews.{roll-Statement}
use Rattle.ext_mean.specs.declared.statement.Statement.TheOpen.{Statement-F}
use Rattle.ext_mean.specs.declared.statement.Statement.TheFolds.{fold-roll-Statement, fold-roll-Block, map-Statement}
use Rattle.ext_mean.specs.declared.token.Token.{Token}
use Rattle.ext_mean.specs.Canonical.{Shown, shown, expression_shown, statement_shown, sentence_shown, block_shown}

pub shown-roll : (form : Expr-F Expr) → shown (roll-Expr form) ≡ expression_shown (map-Expr Expr Shown shown form)
unfolding shown
shown-roll form = fold-roll-Expr Shown expression_shown form

pub shown-Number : (value : ℕ) → shown (expr.Number value) ≡ expression_shown (Expr-F.Number value)
unfolding shown roll-Expr denote.Hole.Carrier.roll
shown-Number value = shown-roll (Expr-F.Number value)

pub shown-Str : (items : List ℕ) → shown (expr.Str items) ≡ expression_shown (Expr-F.Str items)
unfolding shown roll-Expr denote.Hole.Carrier.roll
shown-Str items = shown-roll (Expr-F.Str items)

pub shown-Truth : (value : Bool) → shown (expr.Truth value) ≡ expression_shown (Expr-F.Truth value)
unfolding shown roll-Expr denote.Hole.Carrier.roll
shown-Truth value = shown-roll (Expr-F.Truth value)

pub shown-Var : (name : List ℕ) → shown (expr.Var name) ≡ expression_shown (Expr-F.Var name)
unfolding shown roll-Expr denote.Hole.Carrier.roll
shown-Var name = shown-roll (Expr-F.Var name)

pub shown-View : (name : List ℕ) → shown (expr.View name) ≡ expression_shown (Expr-F.View name)
unfolding shown roll-Expr denote.Hole.Carrier.roll
shown-View name = shown-roll (Expr-F.View name)

pub shown-Args : shown expr.Args ≡ expression_shown Expr-F.Args
unfolding shown roll-Expr denote.Hole.Carrier.roll
shown-Args = shown-roll Expr-F.Args

pub shown-Len : (bytes : Expr) → shown (expr.Len bytes) ≡ expression_shown (Expr-F.Len (shown bytes))
unfolding shown roll-Expr denote.Hole.Carrier.roll
shown-Len bytes = shown-roll (Expr-F.Len bytes)

pub shown-Temp : (size : Expr) → shown (expr.Temp size) ≡ expression_shown (Expr-F.Temp (shown size))
unfolding shown roll-Expr denote.Hole.Carrier.roll
shown-Temp size = shown-roll (Expr-F.Temp size)

pub shown-Byte : (bytes place : Expr) → shown (expr.Byte bytes place) ≡ expression_shown (Expr-F.Byte (shown bytes) (shown place))
unfolding shown roll-Expr denote.Hole.Carrier.roll
shown-Byte bytes place = shown-roll (Expr-F.Byte bytes place)

pub shown-Word : (bytes place : Expr) → shown (expr.Word bytes place) ≡ expression_shown (Expr-F.Word (shown bytes) (shown place))
unfolding shown roll-Expr denote.Hole.Carrier.roll
shown-Word bytes place = shown-roll (Expr-F.Word bytes place)

pub shown-Sub : (bytes from count : Expr) → shown (expr.Sub bytes from count) ≡ expression_shown (Expr-F.Sub (shown bytes) (shown from) (shown count))
unfolding shown roll-Expr denote.Hole.Carrier.roll
shown-Sub bytes from count = shown-roll (Expr-F.Sub bytes from count)

pub shown-Alloc : (table key size : Expr) → shown (expr.Alloc table key size) ≡ expression_shown (Expr-F.Alloc (shown table) (shown key) (shown size))
unfolding shown roll-Expr denote.Hole.Carrier.roll
shown-Alloc table key size = shown-roll (Expr-F.Alloc table key size)

pub shown-Not : (operand : Expr) → shown (expr.Not operand) ≡ expression_shown (Expr-F.Not (shown operand))
unfolding shown roll-Expr denote.Hole.Carrier.roll
shown-Not operand = shown-roll (Expr-F.Not operand)

pub shown-Bin : (operator : BinOp) (left right : Expr) → shown (expr.Bin operator left right) ≡ expression_shown (Expr-F.Bin operator (shown left) (shown right))
unfolding shown roll-Expr denote.Hole.Carrier.roll
shown-Bin operator left right = shown-roll (Expr-F.Bin operator left right)

pub ruleset shown_forms = (shown-Number, shown-Str, shown-Truth, shown-Var, shown-View, shown-Args, shown-Len, shown-Temp, shown-Byte, shown-Word, shown-Sub, shown-Alloc, shown-Not, shown-Bin)

pub sentence-roll : (form : Statement-F Statement Block) → sentence_shown (roll-Statement form) ≡ statement_shown (map-Statement Statement Block (List Token) (List (List Token)) sentence_shown block_shown form)
unfolding sentence_shown block_shown
sentence-roll form = fold-roll-Statement (List Token) (List (List Token)) statement_shown (λ block. block.items) form

pub sentence-Let : (name : List ℕ) (kind : Kind) (value : Expr) → sentence_shown (does.Let name kind value) ≡ statement_shown (Statement-F.Let name kind value)
unfolding sentence_shown block_shown roll-Statement denote.Hole.Carrier.roll
sentence-Let name kind value = sentence-roll (Statement-F.Let name kind value)

pub sentence-LetCall : (name : List ℕ) (kind : Kind) (function : List ℕ) (args : List Expr) → sentence_shown (does.LetCall name kind function args) ≡ statement_shown (Statement-F.LetCall name kind function args)
unfolding sentence_shown block_shown roll-Statement denote.Hole.Carrier.roll
sentence-LetCall name kind function args = sentence-roll (Statement-F.LetCall name kind function args)

pub sentence-Assign : (name : List ℕ) (value : Expr) → sentence_shown (does.Assign name value) ≡ statement_shown (Statement-F.Assign name value)
unfolding sentence_shown block_shown roll-Statement denote.Hole.Carrier.roll
sentence-Assign name value = sentence-roll (Statement-F.Assign name value)

pub sentence-If : (test : Expr) (yes_block : Block) (no_block : Block) → sentence_shown (does.If test yes_block no_block) ≡ statement_shown (Statement-F.If test (block_shown yes_block) (block_shown no_block))
unfolding sentence_shown block_shown roll-Statement denote.Hole.Carrier.roll
sentence-If test yes_block no_block = sentence-roll (Statement-F.If test yes_block no_block)

pub sentence-While : (test : Expr) (body : Block) → sentence_shown (does.While test body) ≡ statement_shown (Statement-F.While test (block_shown body))
unfolding sentence_shown block_shown roll-Statement denote.Hole.Carrier.roll
sentence-While test body = sentence-roll (Statement-F.While test body)

pub sentence-Get : (table : Expr) (key : Expr) (some : List ℕ) (yes_block : Block) (no_block : Block) → sentence_shown (does.Get table key some yes_block no_block) ≡ statement_shown (Statement-F.Get table key some (block_shown yes_block) (block_shown no_block))
unfolding sentence_shown block_shown roll-Statement denote.Hole.Carrier.roll
sentence-Get table key some yes_block no_block = sentence-roll (Statement-F.Get table key some yes_block no_block)

pub sentence-Multi : (table : Expr) (keys : Expr) (width : Expr) (some : List ℕ) (yes_block : Block) (no_block : Block) → sentence_shown (does.Multi table keys width some yes_block no_block) ≡ statement_shown (Statement-F.Multi table keys width some (block_shown yes_block) (block_shown no_block))
unfolding sentence_shown block_shown roll-Statement denote.Hole.Carrier.roll
sentence-Multi table keys width some yes_block no_block = sentence-roll (Statement-F.Multi table keys width some yes_block no_block)

pub sentence-Set : (name : List ℕ) (place : Expr) (value : Expr) → sentence_shown (does.Set name place value) ≡ statement_shown (Statement-F.Set name place value)
unfolding sentence_shown block_shown roll-Statement denote.Hole.Carrier.roll
sentence-Set name place value = sentence-roll (Statement-F.Set name place value)

pub sentence-Set8 : (name : List ℕ) (place : Expr) (value : Expr) → sentence_shown (does.Set8 name place value) ≡ statement_shown (Statement-F.Set8 name place value)
unfolding sentence_shown block_shown roll-Statement denote.Hole.Carrier.roll
sentence-Set8 name place value = sentence-roll (Statement-F.Set8 name place value)

pub sentence-Copy : (name : List ℕ) (place : Expr) (source : Expr) → sentence_shown (does.Copy name place source) ≡ statement_shown (Statement-F.Copy name place source)
unfolding sentence_shown block_shown roll-Statement denote.Hole.Carrier.roll
sentence-Copy name place source = sentence-roll (Statement-F.Copy name place source)

pub sentence-Put : (name : List ℕ) → sentence_shown (does.Put name) ≡ statement_shown (Statement-F.Put name)
unfolding sentence_shown block_shown roll-Statement denote.Hole.Carrier.roll
sentence-Put name = sentence-roll (Statement-F.Put name)

pub sentence-Del : (table : Expr) (key : Expr) → sentence_shown (does.Del table key) ≡ statement_shown (Statement-F.Del table key)
unfolding sentence_shown block_shown roll-Statement denote.Hole.Carrier.roll
sentence-Del table key = sentence-roll (Statement-F.Del table key)

pub sentence-Resp : (value : Expr) → sentence_shown (does.Resp value) ≡ statement_shown (Statement-F.Resp value)
unfolding sentence_shown block_shown roll-Statement denote.Hole.Carrier.roll
sentence-Resp value = sentence-roll (Statement-F.Resp value)

pub sentence-Return : (value : Expr) → sentence_shown (does.Return value) ≡ statement_shown (Statement-F.Return value)
unfolding sentence_shown block_shown roll-Statement denote.Hole.Carrier.roll
sentence-Return value = sentence-roll (Statement-F.Return value)

pub block-items : (block : Block) → block_shown block ≡ map sentence_shown block.items
unfolding sentence_shown block_shown denote.Hole.Carrier.roll
block-items block = fold-roll-Block (List Token) (List (List Token)) statement_shown (λ form. form.items) (record { items = block.items })

pub ruleset sentence_forms = (sentence-Let, sentence-LetCall, sentence-Assign, sentence-If, sentence-While, sentence-Get, sentence-Multi, sentence-Set, sentence-Set8, sentence-Copy, sentence-Put, sentence-Del, sentence-Resp, sentence-Return, block-items)
