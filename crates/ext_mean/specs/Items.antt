-- Items: the head of each function, and each statement without the blocks in it, numbered from 0 in
-- text order. A check gives each item at most one code.
use Rattle.std.specs.Prelude.{ℕ, ◌+◌, Bool, true, false, List, [], ◌∷◌, Option, Some, None}
use Rattle.ext_mean.specs.declared.statement.Statement.{Statement}
use Rattle.ext_mean.specs.declared.statement.Block.{Block}
use Rattle.ext_mean.specs.declared.statement.Statement.TheOpen.{Statement-F}
use Rattle.ext_mean.specs.declared.statement.Statement.TheViews.{out-Statement, out-Block}

-- the first fault found, after one more item
abbrev pub noted : {C : Type 0} → Option (ℕ × C) → ℕ → Option C → Option (ℕ × C)
noted (Some fault) item code = Some fault
noted None item None = None
noted None item (Some code) = Some (item, code)

-- the first fault found, after the items from a number on: the number of the first item that has a
-- code, and its code
abbrev pub first_fault : {C : Type 0} → Option (ℕ × C) → ℕ → List (Option C) → Option (ℕ × C)
first_fault found item [] = found
first_fault found item (code ∷ codes) = first_fault (noted found item code) (item + 1) codes

-- whether a statement is a `return`
abbrev pub is_return_form : {A B : Type 0} → Statement-F A B → Bool
is_return_form (Statement-F.Return value) = true
is_return_form _ = false

abbrev pub is_return : Statement → Bool
is_return statement = is_return_form (out-Statement statement)

-- whether the last of some statements is a `return`; with no statement the answer is given
abbrev pub last_is_return : Bool → List Statement → Bool
last_is_return given [] = given
last_is_return given (statement ∷ rest) = last_is_return (is_return statement) rest

-- whether a block ends with a `return`
abbrev pub ends_with_return : Block → Bool
ends_with_return block = last_is_return false (out-Block block).items
