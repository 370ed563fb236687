-- From what the slice variables of a function may borrow, by all its `let`s and assignments.
use Rattle.std.specs.Prelude.{◌≡◌, ◌↔◌, ℕ, zero, suc, ◌+◌, ◌<◌, ◌==◌, Bool, true, false, List, [], ◌∷◌, ◌++◌, length, replicate, Option, Some, None, slice_get, slice_set, unwrap_or, if◌then◌else◌}
use Rattle.ext_mean.specs.declared.borrowing.Variable.{Variable}
use Rattle.ext_mean.specs.declared.borrowing.Origin.{Origin}
use Rattle.ext_mean.specs.declared.borrowing.Origin.TheVariants as origin
use Rattle.ext_mean.specs.declared.borrowing.Gift.{Gift}
use Rattle.ext_mean.specs.declared.statement.Statement.{Statement}
use Rattle.ext_mean.specs.declared.statement.Block.{Block}
use Rattle.ext_mean.specs.declared.statement.Statement.TheOpen.{Statement-F, Block-F}
use Rattle.ext_mean.specs.declared.statement.Statement.TheFolds.{fold-Statement, fold-Block}
use Rattle.ext_mean.specs.declared.tree.Param.{Param}
use Rattle.ext_mean.specs.declared.tree.Function.{Function}
use Rattle.ext_mean.specs.Origins.{variable_named, origin_of, is_marked}
use Rattle.ext_mean.specs.Typing.{declared_by, arm_name}

-- variables in text order, from a number on
abbrev pub numbered : ℕ → List Param → List Variable
numbered number [] = []
numbered number (first ∷ rest) =
    record { name = first.name; kind = first.kind; number = number } ∷ numbered (number + 1) rest

-- What a statement gives to variables, for the variables in scope and the number of declarations
-- before it; how many variables it declares, in its blocks too; and the one that stays in scope.
pub record Giving : Type 0 where
  pub gifts : List Variable → ℕ → List Gift
  pub count : ℕ
  pub declares : List Param

-- what a block gives, and how many variables it declares
pub record BlockGiving : Type 0 where
  pub gifts : List Variable → ℕ → List Gift
  pub count : ℕ

-- an assigned variable
abbrev pub gift_to : Option Variable → Origin → List Gift
gift_to (Some variable) origin = record { to = variable.number; origin = origin } ∷ []
gift_to None origin = []

abbrev pub form_gifts : {A : Type 0} → List Variable → ℕ → Statement-F A BlockGiving → List Gift
form_gifts scope number (Statement-F.Let name kind value) =
    record { to = number; origin = origin_of scope value } ∷ []
form_gifts scope number (Statement-F.Assign name value) =
    gift_to (variable_named name scope) (origin_of scope value)
form_gifts scope number (Statement-F.If test true_block false_block) =
    true_block.gifts scope number ++ false_block.gifts scope (number + true_block.count)
form_gifts scope number (Statement-F.While test body) = body.gifts scope number
form_gifts scope number (Statement-F.Get table key some found_block none_block) =
    found_block.gifts (scope ++ numbered number (arm_name some)) (number + 1)
    ++ none_block.gifts scope (number + 1 + found_block.count)
form_gifts scope number (Statement-F.Multi table keys width some found_block none_block) =
    found_block.gifts (scope ++ numbered number (arm_name some)) (number + 1)
    ++ none_block.gifts scope (number + 1 + found_block.count)
form_gifts scope number _ = []

abbrev pub form_count : {A : Type 0} → Statement-F A BlockGiving → ℕ
form_count (Statement-F.Let name kind value) = 1
form_count (Statement-F.LetCall name kind function args) = 1
form_count (Statement-F.If test true_block false_block) = true_block.count + false_block.count
form_count (Statement-F.While test body) = body.count
form_count (Statement-F.Get table key some found_block none_block) =
    1 + found_block.count + none_block.count
form_count (Statement-F.Multi table keys width some found_block none_block) =
    1 + found_block.count + none_block.count
form_count _ = 0

abbrev pub giving_step : Statement-F Giving BlockGiving → Giving
giving_step form = record {
  gifts = λ scope number. form_gifts scope number form;
  count = form_count form;
  declares = declared_by form;
}

-- one statement after another
abbrev pub gifts_in_order : List Giving → List Variable → ℕ → List Gift
gifts_in_order [] scope number = []
gifts_in_order (first ∷ rest) scope number =
    first.gifts scope number
    ++ gifts_in_order rest (scope ++ numbered number first.declares) (number + first.count)

abbrev pub count_all : List Giving → ℕ
count_all [] = 0
count_all (first ∷ rest) = first.count + count_all rest

abbrev pub block_giving_step : Block-F Giving BlockGiving → BlockGiving
block_giving_step form = record { gifts = gifts_in_order form.items; count = count_all form.items }

unfoldable pub giving : Statement → Giving
giving = fold-Statement Giving BlockGiving giving_step block_giving_step

unfoldable pub block_giving : Block → BlockGiving
block_giving = fold-Block Giving BlockGiving giving_step block_giving_step

-- a `let` or `=` of the function gives the variable a value of this origin
abbrev pub IsGiven : List Gift → ℕ → Origin → Type 0
IsGiven gifts to origin = (at : ℕ) × (slice_get gifts at ≡ Some (record { to = to; origin = origin }))

-- A slice variable may borrow from a buffer: it is given a view of the buffer itself, or a slice that
-- may borrow from it. The variables of a function are numbered from 0 and below its count.
pub data MayBorrow (gifts : List Gift) (count buffer : ℕ) : ℕ → Type 0 where
  by_view : {slice : ℕ} → slice < count → IsGiven gifts slice (origin.View buffer) →
      MayBorrow gifts count buffer slice
  by_slice : {slice : ℕ} (other : ℕ) → slice < count → IsGiven gifts slice (origin.Slice other) →
      MayBorrow gifts count buffer other → MayBorrow gifts count buffer slice

-- whether a value of this origin borrows from a buffer, where the marked slices do
abbrev pub borrows : ℕ → List Bool → Origin → Bool
borrows buffer marks origin.Nothing = false
borrows buffer marks (origin.View number) = number == buffer
borrows buffer marks (origin.Slice number) = is_marked marks number

-- one round through all gifts: who is given what borrows from the buffer may borrow from it
abbrev pub one_round : ℕ → List Gift → List Bool → List Bool
one_round buffer [] marks = marks
one_round buffer (gift ∷ gifts) marks =
    one_round buffer gifts (if borrows buffer marks gift.origin then slice_set marks gift.to true else marks)

abbrev pub rounds : ℕ → List Gift → ℕ → List Bool → List Bool
rounds buffer gifts zero marks = marks
rounds buffer gifts (suc more) marks = rounds buffer gifts more (one_round buffer gifts marks)

-- The slices that may borrow from a buffer. Each round but the last marks one slice more, so as many
-- rounds as there are variables mark all.
unfoldable pub borrowers : List Gift → ℕ → ℕ → List Bool
borrowers gifts count buffer = rounds buffer gifts count (replicate count false)

-- the slices that are marked for a buffer are those that may borrow from it, and no others
abbrev pub MarkedMayBorrow : Type 0
MarkedMayBorrow =
    (gifts : List Gift) (count buffer slice : ℕ) →
    (is_marked (borrowers gifts count buffer) slice ≡ true) ↔ MayBorrow gifts count buffer slice

-- for each variable, in the order of their numbers, the slices that may borrow from it
abbrev pub rows : List Gift → ℕ → ℕ → ℕ → List (List Bool)
rows gifts count buffer zero = []
rows gifts count buffer (suc more) = borrowers gifts count buffer ∷ rows gifts count (buffer + 1) more

-- the same for a function, with its parameters as the first variables
abbrev pub loans_of : Function → List (List Bool)
loans_of function =
    let params = numbered 0 function.params in
    let block = block_giving function.body in
    let count = length function.params + block.count in
    rows (block.gifts params (length function.params)) count 0 count

-- whether a value of this origin may borrow from a buffer
abbrev pub may_borrow : List (List Bool) → ℕ → Origin → Bool
may_borrow loans buffer origin = borrows buffer (unwrap_or (slice_get loans buffer) []) origin
