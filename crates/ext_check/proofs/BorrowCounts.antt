-- The check of ownership has a code, or none, for each item.
use Rattle.std.proofs.Common.{◌≡◌, List, [], ◌∷◌, ◌++◌, length, map, refl, subst, ap, sym, ◌∙◌, arith, length-append}
use Rattle.std.specs.Prelude.{flat_map}
use Rattle.ext_mean.specs.declared.statement.Block.{Block}
use Rattle.ext_mean.specs.declared.statement.Statement.{Statement}
use Rattle.ext_mean.specs.declared.statement.Statement.TheViews.{roll-Statement, roll-Block}
use Rattle.ext_mean.specs.declared.statement.Statement.TheOpen.{Statement-F, Block-F}
use Rattle.ext_mean.specs.declared.statement.Statement.TheFolds.{ind-Block, fold-roll-Statement, fold-roll-Block, map-Statement, map-Block}
use Rattle.ext_mean.specs.declared.tree.Function.{Function}
use Rattle.ext_mean.specs.declared.tree.Program.{Program}
use Rattle.ext_mean.specs.ProgramItems.{Item, joined, items_form, statement_items, block_items, function_items, program_items}
use Rattle.ext_mean.proofs.ItemEquations.{statement_items-roll, block_items-roll}
use Rattle.ext_mean.specs.OwnedItems.{Scene}
use Rattle.ext_mean.specs.Borrowing.{loans_of}
use Rattle.ext_mean.specs.Ownership.{Course, Owned, Passed, block_passes, declares_more, extended, owned, owned_block, owned_function, owned_functions, owned_step, pass_in_order, scene_of, with_arm, with_held}
use Rattle.std.specs.Prelude.{Bool, false, replicate}

module _ (loans : List (List Bool)) where
  owned-roll : (form : Statement-F Statement Block) → owned loans (roll-Statement form) ≡ owned_step loans (map-Statement Statement Block Owned Course (owned loans) (owned_block loans) form)
  unfolding owned owned_block
  owned-roll form = fold-roll-Statement Owned Course (owned_step loans) block_passes form

  block-roll : (form : Block-F Statement Block) → owned_block loans (roll-Block form) ≡ block_passes (map-Block Statement Block Owned Course (owned loans) (owned_block loans) form)
  unfolding owned owned_block
  block-roll form = fold-roll-Block Owned Course (owned_step loans) block_passes form

  abbrev Counts : Statement → Type 0
  Counts statement = (scene : Scene) (gone : List Bool) → length ((owned loans statement).passes scene gone).codes ≡ length (statement_items statement)

  abbrev BlockCounts : Block → Type 0
  BlockCounts block = (scene : Scene) (gone : List Bool) → length (owned_block loans block scene gone).codes ≡ length (block_items block)

  abbrev Inner : Type 0
  Inner = Statement-F ((s : Statement) × Counts s) ((b : Block) × BlockCounts b)

  abbrev plain : Inner → Statement-F Statement Block
  plain form = map-Statement _ _ Statement Block (λ e. e.0) (λ e. e.0) form

  two : (one other : Block) (first second : Passed) → length first.codes ≡ length (block_items one) → length second.codes ≡ length (block_items other) → length (first.codes ++ second.codes) ≡ length (block_items one ++ block_items other)
  two one other first second a b =
      omega (arith, length-append first.codes second.codes, length-append (block_items one) (block_items other), a, b)

  form-counts : (form : Inner) (scene : Scene) (gone : List Bool) → length ((owned_step loans (map-Statement Statement Block Owned Course (owned loans) (owned_block loans) (plain form))).passes scene gone).codes ≡ length (items_form (map-Statement Statement Block (List Item) (List Item) statement_items block_items (plain form)))
  form-counts (Statement-F.Let name kind value) scene gone = refl
  form-counts (Statement-F.LetCall name kind function args) scene gone = refl
  form-counts (Statement-F.Assign name value) scene gone = refl
  form-counts (Statement-F.If test one other) scene gone =
      let first = owned_block loans one.0 scene gone in
      let later = extended gone first.gone in
      omega (arith, two one.0 other.0 first (owned_block loans other.0 scene later) (one.1 scene gone) (other.1 scene later))
  form-counts (Statement-F.While test body) scene gone = omega (arith, body.1 scene gone)
  form-counts (Statement-F.Get table key name one other) scene gone =
      let inner = with_arm scene (length gone) name in
      let more : List Bool = gone ++ false ∷ [] in
      let first = owned_block loans one.0 inner more in
      let later = extended gone first.gone in
      omega (arith, two one.0 other.0 first (owned_block loans other.0 scene later) (one.1 inner more) (other.1 scene later))
  form-counts (Statement-F.Multi table keys width name one other) scene gone =
      let arms = with_held scene keys in
      let inner = with_arm arms (length gone) name in
      let more : List Bool = gone ++ false ∷ [] in
      let first = owned_block loans one.0 inner more in
      let later = extended gone first.gone in
      omega (arith, two one.0 other.0 first (owned_block loans other.0 arms later) (one.1 inner more) (other.1 arms later))
  form-counts (Statement-F.Set name place value) scene gone = refl
  form-counts (Statement-F.Set8 name place value) scene gone = refl
  form-counts (Statement-F.Copy name place source) scene gone = refl
  form-counts (Statement-F.Put name) scene gone = refl
  form-counts (Statement-F.Del table key) scene gone = refl
  form-counts (Statement-F.Resp value) scene gone = refl
  form-counts (Statement-F.Return value) scene gone = refl

  statement-case : (x : Statement-F Statement Block) (y : Inner) → plain y ≡ x → Counts (roll-Statement x)
  statement-case x y is =
      subst (λ z. Counts (roll-Statement z)) is
      (λ scene gone. ap (λ (z : Owned). length (z.passes scene gone).codes) (owned-roll (plain y)) ∙ form-counts y scene gone ∙ ap length (sym (statement_items-roll (plain y))))

  abbrev InnerBlock : Type 0
  InnerBlock = Block-F ((s : Statement) × Counts s) ((b : Block) × BlockCounts b)

  abbrev plain-block : InnerBlock → Block-F Statement Block
  plain-block form = map-Block _ _ Statement Block (λ e. e.0) (λ e. e.0) form

  items-count : (items : List ((s : Statement) × Counts s)) (scene : Scene) (gone : List Bool) → length (pass_in_order (map (owned loans) (map (λ e. e.0) items)) scene gone).codes ≡ length (joined (map statement_items (map (λ e. e.0) items)))
  items-count [] scene gone = refl
  items-count (item ∷ items) scene gone =
      let here = owned loans item.0 in
      let passed = here.passes scene gone in
      let next = declares_more scene (length gone) here.declares in
      let rest : List Statement = map (λ e. e.0) items in
      omega (arith, item.1 scene gone, items-count items next passed.gone, length-append passed.codes (pass_in_order (map (owned loans) rest) next passed.gone).codes, length-append (statement_items item.0) (joined (map statement_items rest)))

  block-case : (x : Block-F Statement Block) (y : InnerBlock) → plain-block y ≡ x → BlockCounts (roll-Block x)
  block-case x y is =
      subst (λ z. BlockCounts (roll-Block z)) is
      (λ scene gone. ap (λ (z : Course). length (z scene gone).codes) (block-roll (plain-block y)) ∙ items-count y.items scene gone ∙ ap length (sym (block_items-roll (plain-block y))))

  block-counts : (block : Block) → BlockCounts block
  block-counts = ind-Block Counts BlockCounts statement-case block-case

functions-count : (functions : List Function) → length (owned_functions functions) ≡ length (flat_map function_items functions)
functions-count [] = refl
functions-count (function ∷ rest) =
    omega (arith, block-counts (loans_of function) function.body (scene_of function) (replicate (length function.params) false), functions-count rest, length-append (owned_function function) (owned_functions rest), length-append (block_items function.body) (flat_map function_items rest))

pub borrow-codes-count : (program : Program) → length (owned_functions program.functions) ≡ length (program_items program)
borrow-codes-count program = functions-count program.functions
