-- What statements and blocks mean. Each hands on the value that it returned, or none where the run
-- goes on behind it.
use Rattle.std.specs.Prelude.{ℕ, zero, suc, ◌+◌, ◌/◌, ◌%◌, ◌==◌, List, [], ◌∷◌, ◌++◌, map, take, length, nat_le, nat_lt, ◌&&◌, ◌||◌, is_some, Option, Some, None, if◌then◌else◌}
use Rattle.sp_base.specs.declared.outcomes.Trap.TheVariants.{Range, Size, Denied, Width}
use Rattle.sp_base.specs.declared.writes.Change.TheVariants as change
use Rattle.sp_base.specs.declared.writes.Change.{Change}
use Rattle.sp_base.specs.declared.writes.Write.{Write}
use Rattle.sp_base.specs.Places.{Place}
use Rattle.sp_base.specs.RightsList.{can_read, can_write}
use Rattle.ext_mean.specs.declared.run.Run.TheVariants.{Spent}
use Rattle.ext_mean.specs.declared.state.Value.{Value}
use Rattle.ext_mean.specs.declared.state.Value.TheVariants as value
use Rattle.ext_mean.specs.declared.statement.Statement.{Statement}
use Rattle.ext_mean.specs.declared.statement.Block.{Block}
use Rattle.ext_mean.specs.declared.statement.Statement.TheOpen.{Statement-F, Block-F}
use Rattle.ext_mean.specs.declared.statement.Statement.TheFolds.{fold-Statement, fold-Block}
use Rattle.ext_mean.specs.Work.{World, Work, ◌>>=◌, give, look, become, stop, charge, require, known_or_wanted, in_order}
use Rattle.ext_mean.specs.MeaningValues.{number_of, truth_of, bytes_of, buffer_of, with_bytes, word_bytes, overwritten, assigned, declared, place_changed, pending, left_by, changed, pieces, is_key}
use Rattle.ext_mean.specs.MeaningExpressions.{evaluate, variable}

-- the work of a statement or a block: the value that it returned, if it did
abbrev pub Course : Type 0
Course = Work (Option Value)

-- the work of a call: the called function by its name, and its arguments
abbrev pub Calls : Type 0
Calls = List ℕ → List Value → Work Value

-- what stands behind a statement runs unless the statement returned
abbrev pub behind : Course → Option Value → Course
behind rest (Some value) = give (Some value)
behind rest None = rest

-- one after another, until one returns
abbrev pub one_by_one : List Course → Course
one_by_one [] = give None
one_by_one (first ∷ rest) = first >>= behind (one_by_one rest)

-- a declared variable, and the new value of one that is in scope
abbrev pub declare : List ℕ → Value → Work (Unit {0})
declare name value = do
  state ← look
  become (record state { locals = declared name value state.locals })

abbrev pub assign : List ℕ → Value → Work (Unit {0})
assign name value = do
  state ← look
  become (record state { locals = assigned name value state.locals })

-- the variables behind the first `depth` are no longer in scope
abbrev pub forget : ℕ → Work (Unit {0})
forget depth = do
  state ← look
  become (record state { locals = take depth state.locals })

-- a block's own variables are forgotten at its end
abbrev pub scoped : Course → Course
scoped course = do
  before ← look
  returned ← course
  _ ← forget (length before.locals)
  give returned

-- a pending change answers a read; else the view does
abbrev pub found : World → Place → Option Change → Work (Option (List ℕ))
found world place (Some change) = give (left_by change)
found world place None = known_or_wanted (world.view.known place) place

-- the read of a record: the table's level, 16 units, and then the record
abbrev pub read : World → ℕ → List ℕ → Work (Option (List ℕ))
read world table key = do
  _ ← require (can_read world.view.rights table) Denied
  _ ← charge world 16
  state ← look
  let place : Place = record { table = table; key = key } in
      found world place (pending place state.writes)

-- the arm of a read: `some` binds the record's bytes, `none` binds nothing
abbrev pub arm : List ℕ → Course → Course → Option (List ℕ) → Course
arm name found_block none_block (Some bytes) =
    scoped (declare name (value.Slice bytes) >>= (λ _. found_block))
arm name found_block none_block None = none_block

-- `get(table, key)`
abbrev pub get : World → ℕ → List ℕ → Work (Option (List ℕ))
get world table key = do
  _ ← require (is_key key) Size
  read world table key

-- `multiget(table, keys, width)`: each piece of the keys in order, with its arm
abbrev pub multiget : World → ℕ → List ℕ → ℕ → (Option (List ℕ) → Course) → Course
multiget world table keys width arms = do
  _ ← require (nat_le 1 width && nat_le width 64 && (length keys % width == 0)) Width
  one_by_one (map (λ key. read world table key >>= arms) (pieces (length keys / width) width keys))

-- `if` on a test
abbrev pub branch : Course → Course → Value → Course
branch true_block false_block test = if truth_of test then true_block else false_block

-- The turns of a `while`: 1 unit before each test. As each turn has its unit, no run makes more
-- turns than its budget has units.
abbrev pub turns : World → ℕ → Work Value → Course → Course
turns world zero test body = stop Spent
turns world (suc left) test body = do
  _ ← charge world 1
  truth ← test
  branch (body >>= behind (turns world left test body)) (give None) truth

-- a change of one record, which is new where nothing is pending at its place
abbrev pub write : Write → Work (Unit {0})
write new = do
  state ← look
  _ ← require (is_some (pending (place_changed new) state.writes) || nat_lt (length state.writes) 64) Size
  become (record state { writes = changed new state.writes })

-- `put` of a buffer
abbrev pub put : Value → Work (Unit {0})
put (value.Buf buffer) =
    write (record { table = buffer.table; key = buffer.key; change = change.Put buffer.bytes })
put _ = give tt

-- `del(table, key)`
abbrev pub del : World → ℕ → List ℕ → Work (Unit {0})
del world table key = do
  _ ← require (is_key key) Size
  _ ← require (can_write world.view.rights table) Denied
  write (record { table = record { 0 = table }; key = key; change = change.Del })

-- `resp(bytes)`: the reply has at most 4,096 bytes
abbrev pub resp : List ℕ → Work (Unit {0})
resp bytes = do
  state ← look
  _ ← require (nat_le (length state.reply + length bytes) 4096) Size
  become (record state { reply = state.reply ++ bytes })

-- bytes written into the buffer of a variable, where they are within it
abbrev pub overwrite : List ℕ → ℕ → List ℕ → Work (Unit {0})
overwrite name place bytes = do
  buffer ← variable name
  _ ← require (nat_le (place + length bytes) (length (buffer_of buffer))) Range
  assign name (with_bytes buffer (overwritten (buffer_of buffer) place bytes))

-- a statement that only works goes on behind itself
abbrev pub goes_on : Work (Unit {0}) → Course
goes_on work = work >>= (λ _. give None)

-- one form of statement behind its unit, with the meaning of each block in its place
abbrev pub statement_form : World → Calls → Statement-F Course Course → Course
statement_form world calls (Statement-F.Let name kind expression) =
    goes_on (evaluate world expression >>= declare name)
statement_form world calls (Statement-F.LetCall name kind function args) = goes_on (do
  values ← in_order (map (evaluate world) args)
  result ← calls function values
  declare name result)
statement_form world calls (Statement-F.Assign name expression) =
    goes_on (evaluate world expression >>= assign name)
statement_form world calls (Statement-F.If test true_block false_block) =
    evaluate world test >>= branch true_block false_block
statement_form world calls (Statement-F.While test body) =
    turns world world.budget (evaluate world test) body
statement_form world calls (Statement-F.Get table key name found_block none_block) = do
  number ← evaluate world table
  bytes ← evaluate world key
  answer ← get world (number_of number) (bytes_of bytes)
  arm name found_block none_block answer
statement_form world calls (Statement-F.Multi table keys width name found_block none_block) = do
  number ← evaluate world table
  bytes ← evaluate world keys
  wide ← evaluate world width
  multiget world (number_of number) (bytes_of bytes) (number_of wide) (arm name found_block none_block)
statement_form world calls (Statement-F.Set name place expression) = goes_on (do
  at ← evaluate world place
  byte ← evaluate world expression
  _ ← require (nat_lt (number_of byte) 256) Range
  overwrite name (number_of at) (number_of byte ∷ []))
statement_form world calls (Statement-F.Set8 name place expression) = goes_on (do
  at ← evaluate world place
  word ← evaluate world expression
  overwrite name (number_of at) (word_bytes (number_of word)))
statement_form world calls (Statement-F.Copy name place source) = goes_on (do
  at ← evaluate world place
  bytes ← evaluate world source
  overwrite name (number_of at) (bytes_of bytes))
statement_form world calls (Statement-F.Put name) = goes_on (variable name >>= put)
statement_form world calls (Statement-F.Del table key) = goes_on (do
  number ← evaluate world table
  bytes ← evaluate world key
  del world (number_of number) (bytes_of bytes))
statement_form world calls (Statement-F.Resp expression) = goes_on (do
  bytes ← evaluate world expression
  resp (bytes_of bytes))
statement_form world calls (Statement-F.Return expression) = do
  result ← evaluate world expression
  give (Some result)

-- a statement costs 1 unit before its operands
abbrev pub statement_step : World → Calls → Statement-F Course Course → Course
statement_step world calls form = do
  _ ← charge world 1
  statement_form world calls form

-- a block: its statements in order, and its own variables forgotten
abbrev pub block_step : Block-F Course Course → Course
block_step form = scoped (one_by_one form.items)

-- the meaning of a statement, and of a block
unfoldable pub execute : World → Calls → Statement → Course
execute world calls = fold-Statement Course Course (statement_step world calls) block_step

unfoldable pub run_block : World → Calls → Block → Course
run_block world calls = fold-Block Course Course (statement_step world calls) block_step
