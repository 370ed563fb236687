-- Ownership of a whole program: the codes of its items in text order, and its first faulty item.
-- The marks of the buffers that are gone are followed through the text.
use Rattle.std.specs.Prelude.{◌≡◌, ℕ, ◌-◌, Bool, false, ◌||◌, List, [], ◌∷◌, ◌++◌, length, replicate, Option, Some, None, if◌then◌else◌}
use Rattle.ext_mean.specs.declared.check_codes.BorrowCode.{BorrowCode}
use Rattle.ext_mean.specs.declared.expr.Expr.{Expr}
use Rattle.ext_mean.specs.declared.statement.Statement.{Statement}
use Rattle.ext_mean.specs.declared.statement.Block.{Block}
use Rattle.ext_mean.specs.declared.statement.Statement.TheOpen.{Statement-F, Block-F}
use Rattle.ext_mean.specs.declared.statement.Statement.TheFolds.{fold-Statement, fold-Block}
use Rattle.ext_mean.specs.declared.tree.Param.{Param}
use Rattle.ext_mean.specs.declared.tree.Function.{Function}
use Rattle.ext_mean.specs.declared.tree.Program.{Program}
use Rattle.ext_mean.specs.Items.{first_fault, is_return_form}
use Rattle.ext_mean.specs.Origins.{variable_named, origin_of, moved_by}
use Rattle.ext_mean.specs.Borrowing.{numbered, loans_of}
use Rattle.ext_mean.specs.OwnedItems.{Scene, marked, unmarked, moved_all, newly_gone, outlived, copies_itself, number_of, looks, moves, changes, calls, assigns, loops}
use Rattle.ext_mean.specs.Typing.{declared_by, arm_name}

-- what items leave: their codes, and the marks of what is gone behind them
pub record Passed : Type 0 where
  pub codes : List (Option BorrowCode)
  pub gone : List Bool

-- items that are passed in a scene, with these buffers gone before them
abbrev pub Course : Type 0
Course = Scene → List Bool → Passed

-- a statement: its items, the variable that it declares, and whether it is a `return`
pub record Owned : Type 0 where
  pub passes : Course
  pub declares : List Param
  pub returns : Bool

-- the variables declared since are there, and not gone
abbrev pub extended : List Bool → List Bool → List Bool
extended marks later = marks ++ replicate (length later - length marks) false

-- gone after one block or after the other
abbrev pub either : List Bool → List Bool → List Bool
either first [] = first
either [] (mark ∷ second) = mark ∷ second
either (mark ∷ first) (other ∷ second) = (mark || other) ∷ either first second

-- a scene with one more variable, or with the keys of a `multiget` held
abbrev pub with_arm : Scene → ℕ → List ℕ → Scene
with_arm scene number name = record scene { scope = scene.scope ++ numbered number (arm_name name) }

abbrev pub with_held : Scene → Expr → Scene
with_held scene keys = record scene { held = scene.held ++ origin_of scene.scope keys ∷ [] }

-- an item with no block
abbrev pub alone : Option BorrowCode → List Bool → Passed
alone code gone = record { codes = code ∷ []; gone = gone }

-- an item and its two blocks, of which one is run: each begins with what is gone before
abbrev pub one_of : Option BorrowCode → Passed → Passed → Passed
one_of code first second = record {
  codes = code ∷ (first.codes ++ second.codes);
  gone = either first.gone second.gone;
}

-- an item and its blocks, which may run again: what is gone behind it is what was gone before
abbrev pub again : (Bool → Option BorrowCode) → List Bool → Passed → Passed
again own gone body = record {
  codes = own (newly_gone gone body.gone) ∷ body.codes;
  gone = extended gone body.gone;
}

abbrev pub again_both : (Bool → Option BorrowCode) → List Bool → Passed → Passed → Passed
again_both own gone first second = record {
  codes = own (newly_gone gone first.gone || newly_gone gone second.gone) ∷ (first.codes ++ second.codes);
  gone = extended gone second.gone;
}

-- a statement in a scene
abbrev pub form_passes : {A : Type 0} → List (List Bool) → Scene → List Bool → Statement-F A Course → Passed
form_passes loans scene gone (Statement-F.Let name kind value) =
    alone (moves loans scene gone value
    (outlived loans (Some (length gone)) (origin_of scene.scope value)))
    (marked (moved_by scene.scope value) gone ++ false ∷ [])
form_passes loans scene gone (Statement-F.LetCall name kind function args) =
    alone (calls loans scene gone args) (moved_all scene.scope gone args ++ false ∷ [])
form_passes loans scene gone (Statement-F.Assign name value) =
    alone (assigns loans scene gone name value)
    (unmarked (number_of (variable_named name scene.scope)) (marked (moved_by scene.scope value) gone))
form_passes loans scene gone (Statement-F.If test true_block false_block) =
    let first = true_block scene gone in
    one_of (looks scene gone (test ∷ [])) first (false_block scene (extended gone first.gone))
form_passes loans scene gone (Statement-F.While test body) =
    again (loops scene gone (test ∷ [])) gone (body scene gone)
form_passes loans scene gone (Statement-F.Get table key some found_block none_block) =
    let first = found_block (with_arm scene (length gone) some) (gone ++ false ∷ []) in
    one_of (looks scene gone (table ∷ key ∷ [])) first (none_block scene (extended gone first.gone))
form_passes loans scene gone (Statement-F.Multi table keys width some found_block none_block) =
    let arms = with_held scene keys in
    let first = found_block (with_arm arms (length gone) some) (gone ++ false ∷ []) in
    again_both (loops scene gone (table ∷ keys ∷ width ∷ [])) gone first
    (none_block arms (extended gone first.gone))
form_passes loans scene gone (Statement-F.Set name place value) =
    alone (changes loans scene gone name (place ∷ value ∷ []) false) gone
form_passes loans scene gone (Statement-F.Set8 name place value) =
    alone (changes loans scene gone name (place ∷ value ∷ []) false) gone
form_passes loans scene gone (Statement-F.Copy name place source) =
    alone (changes loans scene gone name (place ∷ source ∷ [])
    (copies_itself loans (number_of (variable_named name scene.scope))
    (origin_of scene.scope source)))
    gone
form_passes loans scene gone (Statement-F.Put name) =
    alone (changes loans scene gone name [] false)
    (marked (number_of (variable_named name scene.scope)) gone)
form_passes loans scene gone (Statement-F.Del table key) =
    alone (looks scene gone (table ∷ key ∷ [])) gone
form_passes loans scene gone (Statement-F.Resp value) = alone (looks scene gone (value ∷ [])) gone
form_passes loans scene gone (Statement-F.Return value) =
    alone (moves loans scene gone value false) (marked (moved_by scene.scope value) gone)

abbrev pub owned_step : List (List Bool) → Statement-F Owned Course → Owned
owned_step loans form = record {
  passes = λ scene gone. form_passes loans scene gone form;
  declares = declared_by form;
  returns = is_return_form form;
}

-- one statement after another
abbrev pub passed_then : Passed → Passed → Passed
passed_then first rest = record { codes = first.codes ++ rest.codes; gone = rest.gone }

abbrev pub declares_more : Scene → ℕ → List Param → Scene
declares_more scene number params = record scene { scope = scene.scope ++ numbered number params }

abbrev pub pass_in_order : List Owned → Course
pass_in_order [] scene gone = record { codes = []; gone = gone }
pass_in_order (first ∷ rest) scene gone =
    let passed = first.passes scene gone in
    passed_then passed
    (pass_in_order rest (declares_more scene (length gone) first.declares) passed.gone)

-- whether the last statement is a `return`; with none the answer is given
abbrev pub last_returns : Bool → List Owned → Bool
last_returns given [] = given
last_returns given (first ∷ rest) = last_returns first.returns rest

-- a block that ends with a `return` leaves what was gone before it
abbrev pub leaves : Bool → List Bool → List Bool → List Bool
leaves returns before after = if returns then extended before after else after

abbrev pub block_passes : Block-F Owned Course → Course
block_passes form scene gone =
    let passed = pass_in_order form.items scene gone in
    record passed { gone = leaves (last_returns false form.items) gone passed.gone }

-- the items of a statement, and of a block
unfoldable pub owned : List (List Bool) → Statement → Owned
owned loans = fold-Statement Owned Course (owned_step loans) block_passes

unfoldable pub owned_block : List (List Bool) → Block → Course
owned_block loans = fold-Block Owned Course (owned_step loans) block_passes

-- a function: its head has no code, and its parameters are in scope
abbrev pub scene_of : Function → Scene
scene_of function = record { scope = numbered 0 function.params; held = [] }

abbrev pub owned_function : Function → List (Option BorrowCode)
owned_function function =
    None ∷ (owned_block (loans_of function) function.body (scene_of function)
    (replicate (length function.params) false)).codes

-- the codes of all items
abbrev pub owned_functions : List Function → List (Option BorrowCode)
owned_functions [] = []
owned_functions (first ∷ rest) = owned_function first ++ owned_functions rest

-- the first faulty item, with the first code that applies to it
unfoldable pub borrow_fault : Program → Option (ℕ × BorrowCode)
borrow_fault program = first_fault None 0 (owned_functions program.functions)

-- no item is faulty
abbrev pub IsOwned : Program → Type 0
IsOwned program = borrow_fault program ≡ None
