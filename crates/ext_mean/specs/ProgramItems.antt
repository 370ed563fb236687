-- The items of a program: the heads of its functions and its statements, without the blocks in them.
use Rattle.std.specs.Prelude.{ℕ, List, [], ◌∷◌, ◌++◌, flat_map}
use Rattle.ext_mean.specs.declared.statement.Kind.{Kind}
use Rattle.ext_mean.specs.declared.statement.Statement.{Statement}
use Rattle.ext_mean.specs.declared.statement.Block.{Block}
use Rattle.ext_mean.specs.declared.statement.Statement.TheOpen.{Statement-F, Block-F}
use Rattle.ext_mean.specs.declared.statement.Statement.TheFolds.{fold-Statement, fold-Block, map-Statement}
use Rattle.ext_mean.specs.declared.tree.Function.{Function}
use Rattle.ext_mean.specs.declared.tree.Param.{Param}
use Rattle.ext_mean.specs.declared.tree.Program.{Program}

-- a statement whose blocks are left out
abbrev pub Bare : Type 0
Bare = Statement-F (Unit {0}) (Unit {0})

-- the head of a function, or a statement
pub data Item : Type 0 where
  Head : (name : List ℕ) (params : List Param) (result : Kind) → Item
  Body : Bare → Item

-- one after another
abbrev pub joined : List (List Item) → List Item
joined [] = []
joined (items ∷ rest) = items ++ joined rest

-- the items of the blocks in a statement, in text order
abbrev pub items_inside : Statement-F (List Item) (List Item) → List Item
items_inside (Statement-F.If test one other) = one ++ other
items_inside (Statement-F.While test body) = body
items_inside (Statement-F.Get table key name one other) = one ++ other
items_inside (Statement-F.Multi table keys width name one other) = one ++ other
items_inside _ = []

-- a statement stands before the items of its blocks
abbrev pub items_form : Statement-F (List Item) (List Item) → List Item
items_form form =
    Body (map-Statement (List Item) (List Item) (Unit {0}) (Unit {0}) (λ _. tt) (λ _. tt) form)
    ∷ items_inside form

abbrev pub items_block : Block-F (List Item) (List Item) → List Item
items_block form = joined form.items

-- the items of a statement, and of a block
unfoldable pub statement_items : Statement → List Item
statement_items = fold-Statement (List Item) (List Item) items_form items_block

unfoldable pub block_items : Block → List Item
block_items = fold-Block (List Item) (List Item) items_form items_block

-- a function's head stands before the items of its block
abbrev pub function_items : Function → List Item
function_items function = Head function.name function.params function.result ∷ block_items function.body

-- The items of a program in text order: the number of an item is its index, from 0.
abbrev pub program_items : Program → List Item
program_items program = flat_map function_items program.functions
