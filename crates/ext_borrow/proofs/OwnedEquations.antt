-- The items of the statements that have blocks, and of blocks.
use Rattle.std.proofs.Common.{◌≡◌, ℕ, Bool, false, List, [], ◌∷◌, ◌++◌, length, map, refl, ap, sym, ◌∙◌}
use Rattle.ext_mean.specs.declared.expr.Expr.{Expr}
use Rattle.ext_mean.specs.declared.statement.Statement.{Statement}
use Rattle.ext_mean.specs.declared.statement.Statement.TheVariants.{If, While, Get, Multi, rolls-If, rolls-While, rolls-Get, rolls-Multi}
use Rattle.ext_mean.specs.declared.statement.Statement.TheViews.{roll-Statement, out-Statement}
use Rattle.ext_mean.specs.declared.statement.Statement.TheOpen.{Statement-F}
use Rattle.ext_mean.specs.declared.statement.Statement.TheFolds.{fold-roll-Statement, map-Statement, fold_out-Block, fold_out-Statement}
use Rattle.ext_mean.specs.declared.statement.Block.{Block}
use Rattle.ext_mean.specs.Items.{is_return, is_return_form, last_is_return}
use Rattle.ext_mean.specs.OwnedItems.{Scene, looks, loops}
use Rattle.ext_mean.specs.Ownership.{Owned, Course, again, again_both, block_passes, extended, last_returns, leaves, one_of, owned, owned_block, owned_step, pass_in_order, with_arm, with_held}

owned-roll : (loans : List (List Bool)) (form : Statement-F Statement Block) (statement : Statement) → roll-Statement form ≡ statement → owned loans statement ≡ owned_step loans (map-Statement Statement Block Owned Course (owned loans) (owned_block loans) form)
unfolding owned owned_block
owned-roll loans form statement rolls = ap (owned loans) (sym rolls) ∙ fold-roll-Statement Owned Course (owned_step loans) block_passes form

pub block-passes : (loans : List (List Bool)) (block : Block) (scene : Scene) (gone : List Bool) → owned_block loans block scene gone ≡ record { codes = (pass_in_order (map (owned loans) block.items) scene gone).codes; gone = leaves (last_returns false (map (owned loans) block.items)) gone (pass_in_order (map (owned loans) block.items) scene gone).gone }
unfolding owned owned_block
block-passes loans block scene gone = ap (λ (course : Course). course scene gone) (fold_out-Block Owned Course (owned_step loans) block_passes block)

pub passes-If : (loans : List (List Bool)) (scene : Scene) (gone : List Bool) (test : Expr) (true_block false_block : Block) → (owned loans (If test true_block false_block)).passes scene gone ≡ one_of (looks scene gone (test ∷ [])) (owned_block loans true_block scene gone) (owned_block loans false_block scene (extended gone (owned_block loans true_block scene gone).gone))
passes-If loans scene gone test true_block false_block = ap (λ (z : Owned). z.passes scene gone) (owned-roll loans (Statement-F.If test true_block false_block) _ (rolls-If test true_block false_block))

pub passes-While : (loans : List (List Bool)) (scene : Scene) (gone : List Bool) (test : Expr) (body : Block) → (owned loans (While test body)).passes scene gone ≡ again (loops scene gone (test ∷ [])) gone (owned_block loans body scene gone)
passes-While loans scene gone test body = ap (λ (z : Owned). z.passes scene gone) (owned-roll loans (Statement-F.While test body) _ (rolls-While test body))

pub passes-Get : (loans : List (List Bool)) (scene : Scene) (gone : List Bool) (table key : Expr) (some : List ℕ) (found_block none_block : Block) → (owned loans (Get table key some found_block none_block)).passes scene gone ≡ one_of (looks scene gone (table ∷ key ∷ [])) (owned_block loans found_block (with_arm scene (length gone) some) (gone ++ false ∷ [])) (owned_block loans none_block scene (extended gone (owned_block loans found_block (with_arm scene (length gone) some) (gone ++ false ∷ [])).gone))
passes-Get loans scene gone table key some found_block none_block = ap (λ (z : Owned). z.passes scene gone) (owned-roll loans (Statement-F.Get table key some found_block none_block) _ (rolls-Get table key some found_block none_block))

pub passes-Multi : (loans : List (List Bool)) (scene : Scene) (gone : List Bool) (table keys width : Expr) (some : List ℕ) (found_block none_block : Block) → (owned loans (Multi table keys width some found_block none_block)).passes scene gone ≡ again_both (loops scene gone (table ∷ keys ∷ width ∷ [])) gone (owned_block loans found_block (with_arm (with_held scene keys) (length gone) some) (gone ++ false ∷ [])) (owned_block loans none_block (with_held scene keys) (extended gone (owned_block loans found_block (with_arm (with_held scene keys) (length gone) some) (gone ++ false ∷ [])).gone))
passes-Multi loans scene gone table keys width some found_block none_block = ap (λ (z : Owned). z.passes scene gone) (owned-roll loans (Statement-F.Multi table keys width some found_block none_block) _ (rolls-Multi table keys width some found_block none_block))

-- a statement is a `return` whatever its blocks are seen as
mapped-return : {A B : Type 0} (f : Statement → A) (g : Block → B) (form : Statement-F Statement Block) → is_return_form (map-Statement Statement Block A B f g form) ≡ is_return_form form
mapped-return f g (Statement-F.Return value) = refl
mapped-return f g (Statement-F.Let name kind value) = refl
mapped-return f g (Statement-F.LetCall name kind function args) = refl
mapped-return f g (Statement-F.Assign name value) = refl
mapped-return f g (Statement-F.If test true_block false_block) = refl
mapped-return f g (Statement-F.While test body) = refl
mapped-return f g (Statement-F.Get table key some found_block none_block) = refl
mapped-return f g (Statement-F.Multi table keys width some found_block none_block) = refl
mapped-return f g (Statement-F.Set name place value) = refl
mapped-return f g (Statement-F.Set8 name place value) = refl
mapped-return f g (Statement-F.Copy name place source) = refl
mapped-return f g (Statement-F.Put name) = refl
mapped-return f g (Statement-F.Del table key) = refl
mapped-return f g (Statement-F.Resp value) = refl

returns-is : (loans : List (List Bool)) (statement : Statement) → (owned loans statement).returns ≡ is_return statement
unfolding owned owned_block
returns-is loans statement = ap (λ (z : Owned). z.returns) (fold_out-Statement Owned Course (owned_step loans) block_passes statement) ∙ mapped-return (owned loans) (owned_block loans) (out-Statement statement)

pub last-returns : (loans : List (List Bool)) (given : Bool) (items : List Statement) → last_returns given (map (owned loans) items) ≡ last_is_return given items
last-returns loans given [] = refl
last-returns loans given (first ∷ rest) = ap (λ (z : Bool). last_returns z (map (owned loans) rest)) (returns-is loans first) ∙ last-returns loans (is_return first) rest
