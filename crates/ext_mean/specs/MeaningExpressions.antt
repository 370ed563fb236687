-- What expressions mean: a value, from left to right, with the charges and tests of the language.
use Rattle.std.specs.Prelude.{ℕ, ◌+◌, ◌-◌, ◌*◌, ◌/◌, ◌%◌, ◌^◌, Bool, false, not, List, length, replicate, slice_index, nat_le, nat_lt, ◌&&◌, if◌then◌else◌}
use Rattle.sp_base.specs.declared.outcomes.Trap.TheVariants.{Range, Divide, Size, Denied}
use Rattle.sp_base.specs.RightsList.{can_write}
use Rattle.ext_mean.specs.declared.expr.BinOp.{BinOp}
use Rattle.ext_mean.specs.declared.expr.BinOp.TheVariants as op
use Rattle.ext_mean.specs.declared.expr.Expr.{Expr}
use Rattle.ext_mean.specs.declared.expr.Expr.TheOpen.{Expr-F}
use Rattle.ext_mean.specs.declared.expr.Expr.TheFolds.{fold-Expr}
use Rattle.ext_mean.specs.declared.state.Value.{Value}
use Rattle.ext_mean.specs.declared.state.Value.TheVariants as value
use Rattle.ext_mean.specs.Work.{World, Work, ◌>>=◌, give, look, charge, require}
use Rattle.ext_mean.specs.MeaningValues.{number_of, truth_of, bytes_of, buffer_of, same_value, word_of, part_of, value_of, is_key}

-- a variable's value
abbrev pub variable : List ℕ → Work Value
variable name = do
  state ← look
  give (value_of name state.locals)

-- `byte(bytes, place)`
abbrev pub byte_at : List ℕ → ℕ → Work Value
byte_at bytes place = do
  _ ← require (nat_lt place (length bytes)) Range
  give (value.Int (slice_index bytes place))

-- `u64(bytes, place)`: eight bytes, little endian
abbrev pub word_at : List ℕ → ℕ → Work Value
word_at bytes place = do
  _ ← require (nat_le (place + 8) (length bytes)) Range
  give (value.Int (word_of (part_of bytes place 8)))

-- `sub(bytes, from, count)`
abbrev pub sub_at : List ℕ → ℕ → ℕ → Work Value
sub_at bytes from count = do
  _ ← require (nat_le (from + count) (length bytes)) Range
  give (value.Slice (part_of bytes from count))

-- `temp(size)`: a buffer of zeros with no place
abbrev pub new_temp : World → ℕ → Work Value
new_temp world size = do
  _ ← require (nat_le size 4096) Size
  _ ← charge world (size / 16)
  give (value.Temp (replicate size 0))

-- `alloc(table, key, size)`: a buffer of zeros for the record at a place
abbrev pub new_buffer : World → ℕ → List ℕ → ℕ → Work Value
new_buffer world table key size = do
  _ ← require (is_key key && nat_le size 4096) Size
  _ ← require (can_write world.view.rights table) Denied
  _ ← charge world (size / 16)
  give (value.Buf (record { table = record { 0 = table }; key = key; bytes = replicate size 0 }))

-- `left / right` and `left % right`
abbrev pub quotient : ℕ → ℕ → Work Value
quotient left right = do
  _ ← require (nat_lt 0 right) Divide
  give (value.Int (left / right))

abbrev pub remainder : ℕ → ℕ → Work Value
remainder left right = do
  _ ← require (nat_lt 0 right) Divide
  give (value.Int (left % right))

-- an operator on two values
abbrev pub operate : BinOp → Value → Value → Work Value
operate op.Or left right = give (value.Bool (truth_of right))
operate op.And left right = give (value.Bool (truth_of right))
operate op.Equal left right = give (value.Bool (same_value left right))
operate op.NotEqual left right = give (value.Bool (not (same_value left right)))
operate op.Less left right = give (value.Bool (nat_lt (number_of left) (number_of right)))
operate op.LessEqual left right = give (value.Bool (nat_le (number_of left) (number_of right)))
operate op.Greater left right = give (value.Bool (nat_lt (number_of right) (number_of left)))
operate op.GreaterEqual left right = give (value.Bool (nat_le (number_of right) (number_of left)))
operate op.Add left right = give (value.Int ((number_of left + number_of right) % 2 ^ 64))
operate op.Subtract left right =
    give (value.Int ((number_of left + (2 ^ 64 - number_of right)) % 2 ^ 64))
operate op.Multiply left right = give (value.Int ((number_of left * number_of right) % 2 ^ 64))
operate op.Divide left right = quotient (number_of left) (number_of right)
operate op.Remainder left right = remainder (number_of left) (number_of right)

-- whether the left side decides: `||` where it is true, `&&` where it is false
abbrev pub decides : BinOp → Value → Bool
decides op.Or left = truth_of left
decides op.And left = not (truth_of left)
decides _ left = false

-- the left side, and the right side unless the left one decides
abbrev pub binary : BinOp → Work Value → Work Value → Work Value
binary operator left right = do
  first ← left
  if decides operator first then give (value.Bool (truth_of first)) else (right >>= operate operator first)

-- one form, with the meaning of each operand in its place
abbrev pub expression_form : World → Expr-F (Work Value) → Work Value
expression_form world (Expr-F.Number number) = give (value.Int number)
expression_form world (Expr-F.Str bytes) = give (value.Slice bytes)
expression_form world (Expr-F.Truth truth) = give (value.Bool truth)
expression_form world (Expr-F.Var name) = variable name
expression_form world Expr-F.Args = give (value.Slice world.args)
expression_form world (Expr-F.Len bytes) = do
  whole ← bytes
  give (value.Int (length (bytes_of whole)))
expression_form world (Expr-F.View name) = do
  buffer ← variable name
  give (value.Slice (buffer_of buffer))
expression_form world (Expr-F.Temp size) = do
  count ← size
  new_temp world (number_of count)
expression_form world (Expr-F.Byte bytes place) = do
  whole ← bytes
  at ← place
  byte_at (bytes_of whole) (number_of at)
expression_form world (Expr-F.Word bytes place) = do
  whole ← bytes
  at ← place
  word_at (bytes_of whole) (number_of at)
expression_form world (Expr-F.Sub bytes from count) = do
  whole ← bytes
  first ← from
  many ← count
  sub_at (bytes_of whole) (number_of first) (number_of many)
expression_form world (Expr-F.Alloc table key size) = do
  number ← table
  bytes ← key
  count ← size
  new_buffer world (number_of number) (bytes_of bytes) (number_of count)
expression_form world (Expr-F.Not test) = do
  truth ← test
  give (value.Bool (not (truth_of truth)))
expression_form world (Expr-F.Bin operator left right) = binary operator left right

-- the meaning of an expression
unfoldable pub evaluate : World → Expr → Work Value
evaluate world = fold-Expr (Work Value) (expression_form world)
