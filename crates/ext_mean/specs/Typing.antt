-- Typing of a whole program: the codes of its items in text order, and its first faulty item.
use Rattle.std.specs.Prelude.{◌≡◌, ℕ, ◌+◌, ◌==◌, Bool, false, not, ◌&&◌, ◌||◌, List, [], ◌∷◌, ◌++◌, length, take, Option, None, is_some, is_none, codes}
use Rattle.std.specs.Str.{bytes_eq}
use Rattle.ext_mean.specs.declared.check_codes.TypeCode.{TypeCode}
use Rattle.ext_mean.specs.declared.check_codes.TypeCode.TheVariants as code
use Rattle.ext_mean.specs.declared.statement.Kind.TheVariants as kind
use Rattle.ext_mean.specs.declared.statement.Statement.{Statement}
use Rattle.ext_mean.specs.declared.statement.Block.{Block}
use Rattle.ext_mean.specs.declared.statement.Statement.TheOpen.{Statement-F, Block-F}
use Rattle.ext_mean.specs.declared.statement.Statement.TheFolds.{fold-Statement, fold-Block}
use Rattle.ext_mean.specs.declared.tree.Param.{Param}
use Rattle.ext_mean.specs.declared.tree.Function.{Function}
use Rattle.ext_mean.specs.declared.tree.Program.{Program}
use Rattle.ext_mean.specs.Items.{first_fault, ends_with_return}
use Rattle.ext_mean.specs.Types.{earlier, same_kind, kind_of, unless}
use Rattle.ext_mean.specs.TypesOfItems.{Setting, statement_code, function_named}

-- the codes of items in text order, for the variables in scope
abbrev pub Codes : Type 0
Codes = List Param → List (Option TypeCode)

-- a statement: its items' codes, and the variable that it declares, if it is a `let`
pub record Checked : Type 0 where
  pub codes : Codes
  pub declares : List Param

abbrev pub declared_by : {A B : Type 0} → Statement-F A B → List Param
declared_by (Statement-F.Let name kind value) = record { name = name; kind = kind } ∷ []
declared_by (Statement-F.LetCall name kind function args) = record { name = name; kind = kind } ∷ []
declared_by _ = []

-- an arm's name is a slice of the `some` block
abbrev pub arm_name : List ℕ → List Param
arm_name name = record { name = name; kind = kind.Slice } ∷ []

-- the items of a statement's blocks
abbrev pub inner_codes : {A : Type 0} → List Param → Statement-F A Codes → List (Option TypeCode)
inner_codes scope (Statement-F.If test true_block false_block) = true_block scope ++ false_block scope
inner_codes scope (Statement-F.While test body) = body scope
inner_codes scope (Statement-F.Get table key some found_block none_block) =
    found_block (scope ++ arm_name some) ++ none_block scope
inner_codes scope (Statement-F.Multi table keys width some found_block none_block) =
    found_block (scope ++ arm_name some) ++ none_block scope
inner_codes scope _ = []

-- a statement's own item, and then those of its blocks
abbrev pub statement_step : Setting → Statement-F Checked Codes → Checked
statement_step setting form = record {
  codes = λ scope. statement_code setting scope form ∷ inner_codes scope form;
  declares = declared_by form;
}

-- a variable is in scope from the end of its declaration to the end of its block
abbrev pub in_order : List Checked → Codes
in_order [] scope = []
in_order (first ∷ rest) scope = first.codes scope ++ in_order rest (scope ++ first.declares)

abbrev pub block_step : Block-F Checked Codes → Codes
block_step form = in_order form.items

-- the codes of the items of a statement, and of a block
unfoldable pub checked : Setting → Statement → Checked
checked setting = fold-Statement Checked Codes (statement_step setting) block_step

unfoldable pub block_codes : Setting → Block → Codes
block_codes setting = fold-Block Checked Codes (statement_step setting) block_step

-- whether a parameter's name stands twice
abbrev pub repeats : List Param → Bool
repeats [] = false
repeats (first ∷ rest) = is_some (kind_of rest first.name) || repeats rest

-- `main` has no parameters and the result int
abbrev pub is_main : Function → Bool
is_main function =
    bytes_eq function.name (codes "main") && (length function.params == 0)
    && same_kind kind.Int function.result

-- the code of a function's head, behind the functions before it
abbrev pub head_code : List Function → Bool → Function → Option TypeCode
head_code before last function =
    earlier (unless (is_none (function_named function.name before)) code.Twice)
    (earlier (unless (not (repeats function.params)) code.Twice)
    (earlier (unless (not (same_kind kind.Slice function.result)) code.Kind)
    (earlier (unless (ends_with_return function.body) code.NoReturn)
    (unless (not last || is_main function) code.Main))))

-- the setting of a function behind the first `count` ones
abbrev pub setting_of : List Function → ℕ → Function → Setting
setting_of functions count function =
    record { functions = functions; before = take count functions; result = function.result }

-- the items of the functions from a number on: each head, and then its block's
abbrev pub function_codes : List Function → ℕ → List Function → List (Option TypeCode)
function_codes functions count [] = []
function_codes functions count (function ∷ rest) =
    (head_code (take count functions) (count + 1 == length functions) function
    ∷ block_codes (setting_of functions count function) function.body function.params)
    ++ function_codes functions (count + 1) rest

-- the codes of all items of a program
abbrev pub type_codes : Program → List (Option TypeCode)
type_codes program = function_codes program.functions 0 program.functions

-- the first faulty item, with the first code that applies to it
unfoldable pub type_fault : Program → Option (ℕ × TypeCode)
type_fault program = first_fault None 0 (type_codes program)

-- no item is faulty
abbrev pub IsTyped : Program → Type 0
IsTyped program = type_fault program ≡ None
