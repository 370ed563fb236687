-- Ownership of single items: buffers that are gone, frozen, borrowed for too long, or moved and
-- borrowed by one call. Buffers that are gone are marked, by the numbers of variables.
use Rattle.std.specs.Prelude.{ℕ, ◌+◌, Bool, true, false, not, ◌&&◌, ◌||◌, List, [], ◌∷◌, length, replicate, Option, Some, None, slice_get, slice_set, unwrap_or, nat_lt}
use Rattle.std.specs.List.{list_any, zip}
use Rattle.ext_mean.specs.declared.check_codes.BorrowCode.{BorrowCode}
use Rattle.ext_mean.specs.declared.check_codes.BorrowCode.TheVariants as code
use Rattle.ext_mean.specs.declared.borrowing.Variable.{Variable}
use Rattle.ext_mean.specs.declared.borrowing.Origin.{Origin}
use Rattle.ext_mean.specs.declared.expr.Expr.{Expr}
use Rattle.ext_mean.specs.Origins.{variable_named, origin_of, moved_by, is_marked, any_marked, views}
use Rattle.ext_mean.specs.Borrowing.{borrows, may_borrow}

-- the variables in scope, and the origins of the keys of each `multiget` whose arms the item is in
pub record Scene : Type 0 where
  pub scope : List Variable
  pub held : List Origin

-- a buffer that is moved is marked
abbrev pub marked : Option ℕ → List Bool → List Bool
marked None marks = marks
marked (Some number) marks = slice_set marks number true

-- a variable that is assigned is marked no more
abbrev pub unmarked : Option ℕ → List Bool → List Bool
unmarked None marks = marks
unmarked (Some number) marks = slice_set marks number false

-- whether a marked buffer is moved
abbrev pub moves_marked : List Bool → Option ℕ → Bool
moves_marked marks None = false
moves_marked marks (Some number) = is_marked marks number

-- whether a whole expression views or moves a buffer that is gone
abbrev pub uses_gone : List Variable → List Bool → Expr → Bool
uses_gone scope gone expression =
    views scope gone expression || moves_marked gone (moved_by scope expression)

-- whether a slice that is in scope may borrow from the buffer with this row of borrowers
abbrev pub any_borrower : List Bool → List Variable → Bool
any_borrower row [] = false
any_borrower row (first ∷ rest) = is_marked row first.number || any_borrower row rest

-- whether one of these origins may borrow from a buffer
abbrev pub any_held : ℕ → List Bool → List Origin → Bool
any_held buffer row [] = false
any_held buffer row (first ∷ rest) = borrows buffer row first || any_held buffer row rest

-- whether a buffer is frozen: a slice that is in scope, or the keys of an open `multiget`, may borrow
-- from it
abbrev pub frozen_row : Scene → ℕ → List Bool → Bool
frozen_row scene buffer row = any_borrower row scene.scope || any_held buffer row scene.held

abbrev pub is_frozen : List (List Bool) → Scene → Option ℕ → Bool
is_frozen loans scene None = false
is_frozen loans scene (Some buffer) = frozen_row scene buffer (unwrap_or (slice_get loans buffer) [])

-- the number of a variable
abbrev pub number_of : Option Variable → Option ℕ
number_of None = None
number_of (Some variable) = Some variable.number

-- whether a value may borrow from a buffer that is declared after a variable; the rows stand from a
-- number on
abbrev pub outlives : ℕ → List (List Bool) → ℕ → Origin → Bool
outlives from [] number origin = false
outlives from (row ∷ rows) number origin =
    (nat_lt number from && borrows from row origin) || outlives (from + 1) rows number origin

abbrev pub outlived : List (List Bool) → Option ℕ → Origin → Bool
outlived loans None origin = false
outlived loans (Some number) origin = outlives 0 loans number origin

-- whether a value may borrow from a marked buffer
abbrev pub borrows_marked : ℕ → List (List Bool) → List Bool → Origin → Bool
borrows_marked from [] marks origin = false
borrows_marked from (row ∷ rows) marks origin =
    (is_marked marks from && borrows from row origin) || borrows_marked (from + 1) rows marks origin

-- whether `copy` into a buffer takes what may borrow from it
abbrev pub copies_itself : List (List Bool) → Option ℕ → Origin → Bool
copies_itself loans None origin = false
copies_itself loans (Some buffer) origin = may_borrow loans buffer origin

-- a call's arguments from left to right: the buffers that they move, and whether one uses what is
-- gone, moves what an earlier one moved, moves what is frozen, or views what an earlier one moved
abbrev pub moved_all : List Variable → List Bool → List Expr → List Bool
moved_all scope marks [] = marks
moved_all scope marks (arg ∷ args) = moved_all scope (marked (moved_by scope arg) marks) args

abbrev pub any_gone : List Variable → List Bool → List Expr → Bool
any_gone scope gone [] = false
any_gone scope gone (arg ∷ args) = uses_gone scope gone arg || any_gone scope gone args

abbrev pub moves_twice : List Variable → List Bool → List Expr → Bool
moves_twice scope moved [] = false
moves_twice scope moved (arg ∷ args) =
    moves_marked moved (moved_by scope arg)
    || moves_twice scope (marked (moved_by scope arg) moved) args

abbrev pub any_frozen : List (List Bool) → Scene → List Expr → Bool
any_frozen loans scene [] = false
any_frozen loans scene (arg ∷ args) =
    is_frozen loans scene (moved_by scene.scope arg) || any_frozen loans scene args

abbrev pub views_moved : List Variable → List Bool → List Expr → Bool
views_moved scope moved [] = false
views_moved scope moved (arg ∷ args) =
    views scope moved arg || views_moved scope (marked (moved_by scope arg) moved) args

-- whether an argument may borrow from a buffer that another one moves
abbrev pub borrows_moved : List (List Bool) → List Variable → List Bool → List Expr → Bool
borrows_moved loans scope moved [] = false
borrows_moved loans scope moved (arg ∷ args) =
    borrows_marked 0 loans moved (origin_of scope arg) || borrows_moved loans scope moved args

-- no buffer is marked
abbrev pub unmarked_all : List Bool → List Bool
unmarked_all marks = replicate (length marks) false

-- whether variables are gone after some items that were not gone before
abbrev pub newly_gone : List Bool → List Bool → Bool
newly_gone before after = list_any (λ marks. not marks.0 && marks.1) (zip before after)

-- the first code that applies
abbrev pub first_code : Bool → Bool → Bool → Bool → Option BorrowCode
first_code true frozen outlived both = Some code.Moved
first_code false true outlived both = Some code.Frozen
first_code false false true both = Some code.Outlived
first_code false false false true = Some code.MoveAndBorrow
first_code false false false false = None

-- whether one of the expressions of a statement's own item views what is gone
abbrev pub any_views : List Variable → List Bool → List Expr → Bool
any_views scope gone [] = false
any_views scope gone (first ∷ rest) = views scope gone first || any_views scope gone rest

-- an item that only looks at its expressions
abbrev pub looks : Scene → List Bool → List Expr → Option BorrowCode
looks scene gone expressions = first_code (any_views scene.scope gone expressions) false false false

-- an item that moves a whole expression
abbrev pub moves : List (List Bool) → Scene → List Bool → Expr → Bool → Option BorrowCode
moves loans scene gone value outlived =
    first_code (uses_gone scene.scope gone value)
    (is_frozen loans scene (moved_by scene.scope value)) outlived false

-- an item that changes a buffer
abbrev pub changes : List (List Bool) → Scene → List Bool → List ℕ → List Expr → Bool → Option BorrowCode
changes loans scene gone name expressions frozen =
    let buffer = variable_named name scene.scope in
    first_code (any_marked gone buffer || any_views scene.scope gone expressions)
    (is_frozen loans scene (number_of buffer) || frozen) false false

-- an item that calls a function
abbrev pub calls : List (List Bool) → Scene → List Bool → List Expr → Option BorrowCode
calls loans scene gone args =
    let scope = scene.scope in
    let none = unmarked_all gone in
    first_code (any_gone scope gone args || moves_twice scope none args)
    (any_frozen loans scene args) false
    (borrows_moved loans scope (moved_all scope none args) args || views_moved scope none args)

-- an assignment: it moves its value, and may not assign what is frozen
abbrev pub assigns : List (List Bool) → Scene → List Bool → List ℕ → Expr → Option BorrowCode
assigns loans scene gone name value =
    let number = number_of (variable_named name scene.scope) in
    first_code (uses_gone scene.scope gone value)
    (is_frozen loans scene (moved_by scene.scope value) || is_frozen loans scene number)
    (outlived loans number (origin_of scene.scope value)) false

-- a loop: besides what it looks at, it may not leave a buffer gone for its next turn
abbrev pub loops : Scene → List Bool → List Expr → Bool → Option BorrowCode
loops scene gone expressions leaves_gone =
    first_code (any_views scene.scope gone expressions || leaves_gone) false false false
