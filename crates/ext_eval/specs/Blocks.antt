-- What statements with blocks or calls do behind their unit, by their operands.
use Rattle.std.specs.Prelude.{ℕ, List, map, Option}
use Rattle.ext_mean.specs.declared.expr.Expr.{Expr}
use Rattle.ext_mean.specs.Work.{World, ◌>>=◌, in_order}
use Rattle.ext_mean.specs.MeaningValues.{number_of, bytes_of}
use Rattle.ext_mean.specs.MeaningExpressions.{evaluate}
use Rattle.ext_mean.specs.MeaningStatements.{Calls, Course, branch, goes_on, declare, get, multiget, read}

-- `let name: kind = function(args);`
abbrev pub calls_and_declares : World → Calls → List ℕ → List ℕ → List Expr → Course
calls_and_declares world calls name function args = goes_on (do
  values ← in_order (map (evaluate world) args)
  result ← calls function values
  declare name result)

-- `if test { .. } else { .. }`
abbrev pub chooses : World → Expr → Course → Course → Course
chooses world test true_block false_block = evaluate world test >>= branch true_block false_block

-- `get(table, key)` with its arms
abbrev pub gets : World → Expr → Expr → (Option (List ℕ) → Course) → Course
gets world table key arms = do
  number ← evaluate world table
  bytes ← evaluate world key
  answer ← get world (number_of number) (bytes_of bytes)
  arms answer

-- `multiget(table, keys, width)` with its arms
abbrev pub gets_many : World → Expr → Expr → Expr → (Option (List ℕ) → Course) → Course
gets_many world table keys width arms = do
  number ← evaluate world table
  bytes ← evaluate world keys
  wide ← evaluate world width
  multiget world (number_of number) (bytes_of bytes) (number_of wide) arms

-- the read of one of the keys of a `multiget`, with its arms
abbrev pub gets_piece : World → ℕ → (Option (List ℕ) → Course) → List ℕ → Course
gets_piece world table arms key = read world table key >>= arms
