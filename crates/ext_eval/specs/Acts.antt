-- What statements with neither a block nor a call do behind their unit, by their operands.
use Rattle.std.specs.Prelude.{ℕ, List, [], ◌∷◌, Some, nat_lt}
use Rattle.ext_mean.specs.declared.expr.Expr.{Expr}
use Rattle.sp_base.specs.declared.outcomes.Trap.TheVariants.{Range}
use Rattle.ext_mean.specs.Work.{World, ◌>>=◌, give, require}
use Rattle.ext_mean.specs.MeaningValues.{number_of, bytes_of, word_bytes}
use Rattle.ext_mean.specs.MeaningExpressions.{evaluate, variable}
use Rattle.ext_mean.specs.MeaningStatements.{Course, goes_on, declare, assign, overwrite, put, del, resp}

-- `let name: kind = expression;`
abbrev pub declares : World → List ℕ → Expr → Course
declares world name expression = goes_on (evaluate world expression >>= declare name)

-- `name = expression;`
abbrev pub assigns : World → List ℕ → Expr → Course
assigns world name expression = goes_on (evaluate world expression >>= assign name)

-- `set(name, place, expression);`
abbrev pub sets : World → List ℕ → Expr → Expr → Course
sets world name place expression = goes_on (do
  at ← evaluate world place
  byte ← evaluate world expression
  _ ← require (nat_lt (number_of byte) 256) Range
  overwrite name (number_of at) (number_of byte ∷ []))

-- `set8(name, place, expression);`
abbrev pub sets_word : World → List ℕ → Expr → Expr → Course
sets_word world name place expression = goes_on (do
  at ← evaluate world place
  word ← evaluate world expression
  overwrite name (number_of at) (word_bytes (number_of word)))

-- `copy(name, place, source);`
abbrev pub copies : World → List ℕ → Expr → Expr → Course
copies world name place source = goes_on (do
  at ← evaluate world place
  bytes ← evaluate world source
  overwrite name (number_of at) (bytes_of bytes))

-- `put(name);`
abbrev pub puts : List ℕ → Course
puts name = goes_on (variable name >>= put)

-- `del(table, key);`
abbrev pub deletes : World → Expr → Expr → Course
deletes world table key = goes_on (do
  number ← evaluate world table
  bytes ← evaluate world key
  del world (number_of number) (bytes_of bytes))

-- `resp(expression);`
abbrev pub responds : World → Expr → Course
responds world expression = goes_on (do
  bytes ← evaluate world expression
  resp (bytes_of bytes))

-- `return expression;`
abbrev pub returns : World → Expr → Course
returns world expression = do
  result ← evaluate world expression
  give (Some result)
