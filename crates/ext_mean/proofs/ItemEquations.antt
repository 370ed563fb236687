-- The equations of the items of a program: one form at a time.
use Rattle.std.proofs.Common.{◌≡◌, ℕ, List, map, sym, ap, ◌∙◌}
use Rattle.ext_mean.specs.declared.expr.Expr.{Expr}
use Rattle.ext_mean.specs.declared.statement.Kind.{Kind}
use Rattle.ext_mean.specs.declared.statement.Statement.{Statement}
use Rattle.ext_mean.specs.declared.statement.Block.{Block}
use Rattle.ext_mean.specs.declared.statement.Statement.TheVariants as s
use Rattle.ext_mean.specs.declared.statement.Statement.TheViews.{roll-Statement, roll-Block}
use Rattle.ext_mean.specs.declared.statement.Statement.TheOpen.{Statement-F, Block-F}
use Rattle.ext_mean.specs.declared.statement.Statement.TheFolds.{fold-roll-Statement, fold-roll-Block, map-Statement, map-Block}
use Rattle.ext_mean.specs.ProgramItems.{Item, statement_items, block_items, items_form, items_block, joined}

pub statement_items-roll : (form : Statement-F Statement Block) → statement_items (roll-Statement form) ≡ items_form (map-Statement Statement Block (List Item) (List Item) statement_items block_items form)
unfolding statement_items block_items
statement_items-roll form = fold-roll-Statement (List Item) (List Item) items_form items_block form

pub block_items-roll : (form : Block-F Statement Block) → block_items (roll-Block form) ≡ items_block (map-Block Statement Block (List Item) (List Item) statement_items block_items form)
unfolding statement_items block_items
block_items-roll form = fold-roll-Block (List Item) (List Item) items_form items_block form

pub items-block : (items : List Statement) → block_items (roll-Block (record { items = items })) ≡ joined (map statement_items items)
items-block items = block_items-roll (record { items = items })

pub items-Let : (name : List ℕ) (kind : Kind) (expression : Expr) → statement_items (s.Let name kind expression) ≡ items_form (Statement-F.Let name kind expression)
items-Let name kind expression = ap statement_items (sym (s.rolls-Let name kind expression)) ∙ statement_items-roll (Statement-F.Let name kind expression)

pub items-LetCall : (name : List ℕ) (kind : Kind) (function : List ℕ) (args : List Expr) → statement_items (s.LetCall name kind function args) ≡ items_form (Statement-F.LetCall name kind function args)
items-LetCall name kind function args = ap statement_items (sym (s.rolls-LetCall name kind function args)) ∙ statement_items-roll (Statement-F.LetCall name kind function args)

pub items-Assign : (name : List ℕ) (expression : Expr) → statement_items (s.Assign name expression) ≡ items_form (Statement-F.Assign name expression)
items-Assign name expression = ap statement_items (sym (s.rolls-Assign name expression)) ∙ statement_items-roll (Statement-F.Assign name expression)

pub items-If : (test : Expr) (one other : Block) → statement_items (s.If test one other) ≡ items_form (Statement-F.If test (block_items one) (block_items other))
items-If test one other = ap statement_items (sym (s.rolls-If test one other)) ∙ statement_items-roll (Statement-F.If test one other)

pub items-While : (test : Expr) (body : Block) → statement_items (s.While test body) ≡ items_form (Statement-F.While test (block_items body))
items-While test body = ap statement_items (sym (s.rolls-While test body)) ∙ statement_items-roll (Statement-F.While test body)

pub items-Get : (table key : Expr) (name : List ℕ) (one other : Block) → statement_items (s.Get table key name one other) ≡ items_form (Statement-F.Get table key name (block_items one) (block_items other))
items-Get table key name one other = ap statement_items (sym (s.rolls-Get table key name one other)) ∙ statement_items-roll (Statement-F.Get table key name one other)

pub items-Multi : (table keys width : Expr) (name : List ℕ) (one other : Block) → statement_items (s.Multi table keys width name one other) ≡ items_form (Statement-F.Multi table keys width name (block_items one) (block_items other))
items-Multi table keys width name one other = ap statement_items (sym (s.rolls-Multi table keys width name one other)) ∙ statement_items-roll (Statement-F.Multi table keys width name one other)

pub items-Set : (name : List ℕ) (place expression : Expr) → statement_items (s.Set name place expression) ≡ items_form (Statement-F.Set name place expression)
items-Set name place expression = ap statement_items (sym (s.rolls-Set name place expression)) ∙ statement_items-roll (Statement-F.Set name place expression)

pub items-Set8 : (name : List ℕ) (place expression : Expr) → statement_items (s.Set8 name place expression) ≡ items_form (Statement-F.Set8 name place expression)
items-Set8 name place expression = ap statement_items (sym (s.rolls-Set8 name place expression)) ∙ statement_items-roll (Statement-F.Set8 name place expression)

pub items-Copy : (name : List ℕ) (place source : Expr) → statement_items (s.Copy name place source) ≡ items_form (Statement-F.Copy name place source)
items-Copy name place source = ap statement_items (sym (s.rolls-Copy name place source)) ∙ statement_items-roll (Statement-F.Copy name place source)

pub items-Put : (name : List ℕ) → statement_items (s.Put name) ≡ items_form (Statement-F.Put name)
items-Put name = ap statement_items (sym (s.rolls-Put name)) ∙ statement_items-roll (Statement-F.Put name)

pub items-Del : (table key : Expr) → statement_items (s.Del table key) ≡ items_form (Statement-F.Del table key)
items-Del table key = ap statement_items (sym (s.rolls-Del table key)) ∙ statement_items-roll (Statement-F.Del table key)

pub items-Resp : (expression : Expr) → statement_items (s.Resp expression) ≡ items_form (Statement-F.Resp expression)
items-Resp expression = ap statement_items (sym (s.rolls-Resp expression)) ∙ statement_items-roll (Statement-F.Resp expression)

pub items-Return : (expression : Expr) → statement_items (s.Return expression) ≡ items_form (Statement-F.Return expression)
items-Return expression = ap statement_items (sym (s.rolls-Return expression)) ∙ statement_items-roll (Statement-F.Return expression)

-- the items of each form
pub ruleset item_equations = (items-block, items-Let, items-LetCall, items-Assign, items-If, items-While, items-Get, items-Multi, items-Set, items-Set8, items-Copy, items-Put, items-Del, items-Resp, items-Return)
