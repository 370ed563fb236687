-- The type check has a code, or none, for each item.
use Rattle.std.proofs.Common.{◌≡◌, ℕ, ◌+◌, List, [], ◌∷◌, ◌++◌, length, map, refl, subst, ap, sym, ◌∙◌, arith, length-append}
use Rattle.std.specs.Prelude.{flat_map}
use Rattle.ext_mean.specs.declared.statement.Block.{Block}
use Rattle.ext_mean.specs.declared.statement.Kind.TheVariants as kind
use Rattle.ext_mean.specs.declared.statement.Statement.{Statement}
use Rattle.ext_mean.specs.declared.statement.Statement.TheViews.{roll-Statement, roll-Block}
use Rattle.ext_mean.specs.declared.statement.Statement.TheOpen.{Statement-F, Block-F}
use Rattle.ext_mean.specs.declared.statement.Statement.TheFolds.{ind-Block, fold-roll-Statement, fold-roll-Block, map-Statement, map-Block}
use Rattle.ext_mean.specs.declared.tree.Function.{Function}
use Rattle.ext_mean.specs.declared.tree.Param.{Param}
use Rattle.ext_mean.specs.declared.tree.Program.{Program}
use Rattle.ext_mean.specs.ProgramItems.{Item, joined, items_form, statement_items, block_items, function_items, program_items}
use Rattle.ext_mean.specs.TypesOfItems.{Setting}
use Rattle.ext_mean.specs.Typing.{Checked, Codes, block_codes, block_step, checked, function_codes, in_order, setting_of, statement_step, type_codes}
use Rattle.ext_mean.proofs.ItemEquations.{statement_items-roll, block_items-roll}

module _ (setting : Setting) where
  checked-roll : (form : Statement-F Statement Block) → checked setting (roll-Statement form) ≡ statement_step setting (map-Statement Statement Block Checked Codes (checked setting) (block_codes setting) form)
  unfolding checked block_codes
  checked-roll form = fold-roll-Statement Checked Codes (statement_step setting) block_step form

  block-roll : (form : Block-F Statement Block) → block_codes setting (roll-Block form) ≡ block_step (map-Block Statement Block Checked Codes (checked setting) (block_codes setting) form)
  unfolding checked block_codes
  block-roll form = fold-roll-Block Checked Codes (statement_step setting) block_step form

  abbrev Counts : Statement → Type 0
  Counts statement = (scope : List Param) → length ((checked setting statement).codes scope) ≡ length (statement_items statement)

  abbrev BlockCounts : Block → Type 0
  BlockCounts block = (scope : List Param) → length (block_codes setting block scope) ≡ length (block_items block)

  abbrev Inner : Type 0
  Inner = Statement-F ((s : Statement) × Counts s) ((b : Block) × BlockCounts b)

  abbrev plain : Inner → Statement-F Statement Block
  plain form = map-Statement _ _ Statement Block (λ e. e.0) (λ e. e.0) form

  abbrev both : Block → Block → List Item
  both one other = block_items one ++ block_items other

  two : (one other : Block) (first second : List Param) → BlockCounts one → BlockCounts other → length (block_codes setting one first ++ block_codes setting other second) ≡ length (both one other)
  two one other first second a b =
      omega (arith, length-append (block_codes setting one first) (block_codes setting other second), length-append (block_items one) (block_items other), a first, b second)

  form-counts : (form : Inner) (scope : List Param) → length ((statement_step setting (map-Statement Statement Block Checked Codes (checked setting) (block_codes setting) (plain form))).codes scope) ≡ length (items_form (map-Statement Statement Block (List Item) (List Item) statement_items block_items (plain form)))
  form-counts (Statement-F.Let name kind value) scope = refl
  form-counts (Statement-F.LetCall name kind function args) scope = refl
  form-counts (Statement-F.Assign name value) scope = refl
  form-counts (Statement-F.If test one other) scope = omega (arith, two one.0 other.0 scope scope one.1 other.1)
  form-counts (Statement-F.While test body) scope = omega (arith, body.1 scope)
  form-counts (Statement-F.Get table key name one other) scope = omega (arith, two one.0 other.0 (scope ++ record { name = name; kind = kind.Slice } ∷ []) scope one.1 other.1)
  form-counts (Statement-F.Multi table keys width name one other) scope = omega (arith, two one.0 other.0 (scope ++ record { name = name; kind = kind.Slice } ∷ []) scope one.1 other.1)
  form-counts (Statement-F.Set name place value) scope = refl
  form-counts (Statement-F.Set8 name place value) scope = refl
  form-counts (Statement-F.Copy name place source) scope = refl
  form-counts (Statement-F.Put name) scope = refl
  form-counts (Statement-F.Del table key) scope = refl
  form-counts (Statement-F.Resp value) scope = refl
  form-counts (Statement-F.Return value) scope = refl

  statement-case : (x : Statement-F Statement Block) (y : Inner) → plain y ≡ x → Counts (roll-Statement x)
  statement-case x y is =
      subst (λ z. Counts (roll-Statement z)) is
      (λ scope. ap (λ (z : Checked). length (z.codes scope)) (checked-roll (plain y)) ∙ form-counts y scope ∙ ap length (sym (statement_items-roll (plain y))))

  abbrev InnerBlock : Type 0
  InnerBlock = Block-F ((s : Statement) × Counts s) ((b : Block) × BlockCounts b)

  abbrev plain-block : InnerBlock → Block-F Statement Block
  plain-block form = map-Block _ _ Statement Block (λ e. e.0) (λ e. e.0) form

  items-count : (items : List ((s : Statement) × Counts s)) (scope : List Param) → length (in_order (map (checked setting) (map (λ e. e.0) items)) scope) ≡ length (joined (map statement_items (map (λ e. e.0) items)))
  items-count [] scope = refl
  items-count (item ∷ items) scope =
      let here = checked setting item.0 in
      let rest : List Statement = map (λ e. e.0) items in
      omega (arith, item.1 scope, items-count items (scope ++ here.declares), length-append (here.codes scope) (in_order (map (checked setting) rest) (scope ++ here.declares)), length-append (statement_items item.0) (joined (map statement_items rest)))

  block-case : (x : Block-F Statement Block) (y : InnerBlock) → plain-block y ≡ x → BlockCounts (roll-Block x)
  block-case x y is =
      subst (λ z. BlockCounts (roll-Block z)) is
      (λ scope. ap (λ (z : Codes). length (z scope)) (block-roll (plain-block y)) ∙ items-count y.items scope ∙ ap length (sym (block_items-roll (plain-block y))))

  block-counts : (block : Block) → BlockCounts block
  block-counts = ind-Block Counts BlockCounts statement-case block-case

functions-count : (all : List Function) (count : ℕ) (functions : List Function) → length (function_codes all count functions) ≡ length (flat_map function_items functions)
functions-count all count [] = refl
functions-count all count (function ∷ rest) =
    let own = block_codes (setting_of all count function) function.body function.params in
    omega (arith, block-counts (setting_of all count function) function.body function.params, functions-count all (count + 1) rest, length-append own (function_codes all (count + 1) rest), length-append (block_items function.body) (flat_map function_items rest))

pub type-codes-count : (program : Program) → length (type_codes program) ≡ length (program_items program)
type-codes-count program = functions-count program.functions 0 program.functions
