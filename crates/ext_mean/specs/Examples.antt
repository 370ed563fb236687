-- Small programs, and what they mean.
use Rattle.std.specs.Prelude.{◌≡◌, ◌-◌, ◌^◌, ℕ, true, false, List, [], ◌∷◌, ◌++◌, Option, Some, None, codes}
use Rattle.sp_base.specs.declared.numbers.TableId.{TableId}
use Rattle.sp_base.specs.declared.outcomes.Trap.TheVariants as trap
use Rattle.sp_base.specs.declared.rights.Level.{Level}
use Rattle.sp_base.specs.declared.rights.Level.TheVariants as level
use Rattle.sp_base.specs.declared.writes.Change.TheVariants as change
use Rattle.sp_base.specs.declared.writes.Write.{Write}
use Rattle.ext_mean.specs.declared.expr.BinOp.TheVariants as op
use Rattle.ext_mean.specs.declared.expr.Expr.{Expr}
use Rattle.ext_mean.specs.declared.expr.Expr.TheVariants as expr
use Rattle.ext_mean.specs.declared.run.Run.{Run}
use Rattle.ext_mean.specs.declared.run.Run.TheVariants.{Done, Trapped, Spent, Wants}
use Rattle.ext_mean.specs.declared.statement.Kind.TheVariants as kind
use Rattle.ext_mean.specs.declared.statement.Statement.{Statement}
use Rattle.ext_mean.specs.declared.statement.Statement.TheVariants as statement
use Rattle.ext_mean.specs.declared.tree.Function.{Function}
use Rattle.ext_mean.specs.declared.tree.Program.{Program}
use Rattle.ext_mean.specs.Views.{View}
use Rattle.ext_mean.specs.Lookup.{block_of}
use Rattle.ext_mean.specs.Meaning.{mean}
use Rattle.ext_mean.specs.ProgramItems.{Head, Body, program_items}
use Rattle.ext_mean.specs.declared.statement.Statement.TheOpen.{Statement-F}

-- the function `main` with these statements, and a program of it alone
abbrev pub main_with : List Statement → Function
main_with statements =
    record { name = codes "main"; params = []; result = kind.Int; body = block_of statements }

abbrev pub only_main : List Statement → Program
only_main statements = record { functions = main_with statements ∷ [] }

-- table 1 may be read, table 2 written, and no other is granted
abbrev pub granted : List (TableId × Level)
granted = (record { 0 = 1 }, level.Read) ∷ (record { 0 = 2 }, level.Write) ∷ []

-- views on which nothing is known, and on which every place has the same answer
abbrev pub unknown : View
unknown = record { rights = granted; known = λ place. None }

abbrev pub everywhere : Option (List ℕ) → View
everywhere answer = record { rights = granted; known = λ place. Some answer }

-- a run that came to its end
abbrev pub ends_with : ℕ → List ℕ → List Write → ℕ → Run
ends_with code bytes writes used = Done (record { code = code; bytes = bytes }) writes used

-- the change that puts one byte in table 2
abbrev pub written : ℕ → List ℕ → Write
written byte key = record { table = record { 0 = 2 }; key = key; change = change.Put (byte ∷ []) }

-- the change that deletes a record of table 2
abbrev pub deleted : List ℕ → Write
deleted key = record { table = record { 0 = 2 }; key = key; change = change.Del }

-- shorter names for the pieces of programs
abbrev pub num : ℕ → Expr
num = expr.Number

abbrev pub text : List ℕ → Expr
text = expr.Str

abbrev pub returns : ℕ → Statement
returns code = statement.Return (num code)

-- `1 / 0 == 0`
abbrev pub faulty_test : Expr
faulty_test = expr.Bin op.Equal (expr.Bin op.Divide (num 1) (num 0)) (num 0)

-- `get(TABLE, KEY) { some s => { resp(s); } none => { } }`
abbrev pub answer_with : ℕ → List ℕ → Statement
answer_with table key =
    statement.Get (num table) (text key) (codes "s")
    (block_of (statement.Resp (expr.Var (codes "s")) ∷ [])) (block_of [])

-- `return 1 / 0;`
abbrev pub division : Program
division = only_main (statement.Return (expr.Bin op.Divide (num 1) (num 0)) ∷ [])

-- `return byte(args(), 2);`
abbrev pub third_byte : Program
third_byte = only_main (statement.Return (expr.Byte expr.Args (num 2)) ∷ [])

-- `get(1, "") { .. } return 0;`, and the same with a key in a table that is not granted
abbrev pub empty_key : Program
empty_key = only_main (answer_with 1 [] ∷ returns 0 ∷ [])

abbrev pub foreign_table : Program
foreign_table = only_main (answer_with 3 (codes "k") ∷ returns 0 ∷ [])

-- `let b: buf = alloc(1, "k", 8); return 0;`
abbrev pub buffer_of_read_table : Program
buffer_of_read_table =
    only_main (statement.Let (codes "b") kind.Buf (expr.Alloc (num 1) (text (codes "k")) (num 8))
    ∷ returns 0 ∷ [])

-- `multiget(1, "KEYS", 2) { some s => { resp(s); } none => { } } return 0;`
abbrev pub pairs : List ℕ → Program
pairs keys =
    only_main (statement.Multi (num 1) (text keys) (num 2) (codes "s")
    (block_of (statement.Resp (expr.Var (codes "s")) ∷ [])) (block_of []) ∷ returns 0 ∷ [])

-- `while false { } return 7;`
abbrev pub idle_loop : Program
idle_loop = only_main (statement.While (expr.Truth false) (block_of []) ∷ returns 7 ∷ [])

-- `let i: int = 0; while i < 3 { i = i + 1; } return i;`
abbrev pub counting : Program
counting =
    only_main (statement.Let (codes "i") kind.Int (num 0)
    ∷ statement.While (expr.Bin op.Less (expr.Var (codes "i")) (num 3))
    (block_of (statement.Assign (codes "i") (expr.Bin op.Add (expr.Var (codes "i")) (num 1)) ∷ []))
    ∷ statement.Return (expr.Var (codes "i")) ∷ [])

-- `let b: temp = temp(32); return 0;`
abbrev pub two_units : Program
two_units =
    only_main (statement.Let (codes "b") kind.Temp (expr.Temp (num 32)) ∷ returns 0 ∷ [])

-- `let b: buf = alloc(2, "k", 1); set(b, 0, 65); put(b); get(2, "k") { .. } return 0;`
abbrev pub own_write : Program
own_write =
    only_main (statement.Let (codes "b") kind.Buf (expr.Alloc (num 2) (text (codes "k")) (num 1))
    ∷ statement.Set (codes "b") (num 0) (num 65)
    ∷ statement.Put (codes "b")
    ∷ answer_with 2 (codes "k")
    ∷ returns 0 ∷ [])

-- `del(2, "k"); get(2, "k") { some s => { return 1; } none => { return 2; } } return 0;`
abbrev pub own_deletion : Program
own_deletion =
    only_main (statement.Del (num 2) (text (codes "k"))
    ∷ statement.Get (num 2) (text (codes "k")) (codes "s") (block_of (returns 1 ∷ [])) (block_of (returns 2 ∷ []))
    ∷ returns 0 ∷ [])

-- `get(1, "k") { some s => { resp(s); } none => { } } return 0;`
abbrev pub one_read : Program
one_read = only_main (answer_with 1 (codes "k") ∷ returns 0 ∷ [])

-- `if TEST { return 1; } return 2;`
abbrev pub choice : Expr → Program
choice test =
    only_main (statement.If test (block_of (returns 1 ∷ [])) (block_of []) ∷ returns 2 ∷ [])

-- `fn twice(n: int) -> int { return n + n; }` and `let x: int = twice(21); return x;`
abbrev pub calling : Program
calling = record {
  functions =
      record {
        name = codes "twice";
        params = record { name = codes "n"; kind = kind.Int } ∷ [];
        result = kind.Int;
        body = block_of (statement.Return (expr.Bin op.Add (expr.Var (codes "n")) (expr.Var (codes "n"))) ∷ []);
      }
      ∷ main_with
      (statement.LetCall (codes "x") kind.Int (codes "twice") (num 21 ∷ [])
      ∷ statement.Return (expr.Var (codes "x")) ∷ [])
      ∷ [];
}

-- `return 0 - 1;`
abbrev pub below_zero : Program
below_zero = only_main (statement.Return (expr.Bin op.Subtract (num 0) (num 1)) ∷ [])

-- `let b: temp = temp(8); set8(b, 0, 258); return byte(view(b), 1);`
abbrev pub little_endian : Program
little_endian =
    only_main (statement.Let (codes "b") kind.Temp (expr.Temp (num 8))
    ∷ statement.Set8 (codes "b") (num 0) (num 258)
    ∷ statement.Return (expr.Byte (expr.View (codes "b")) (num 1)) ∷ [])

-- `multiget(1, "abcd", 2) { some s => { resp(s); } none => { return 1; } } return 0;`
abbrev pub stopping_pairs : Program
stopping_pairs =
    only_main (statement.Multi (num 1) (text (codes "abcd")) (num 2) (codes "s")
    (block_of (statement.Resp (expr.Var (codes "s")) ∷ [])) (block_of (returns 1 ∷ [])) ∷ returns 0 ∷ [])

-- `let NAME: buf = alloc(2, "KEY", 1); set(NAME, 0, BYTE); put(NAME);`
abbrev pub putting : List ℕ → List ℕ → ℕ → List Statement
putting name key byte =
    statement.Let name kind.Buf (expr.Alloc (num 2) (text key) (num 1))
    ∷ statement.Set name (num 0) (num byte) ∷ statement.Put name ∷ []

-- two places, the first of them put twice
abbrev pub three_puts : Program
three_puts =
    only_main (putting (codes "a") (codes "k") 1 ++ putting (codes "b") (codes "j") 2
    ++ putting (codes "c") (codes "k") 3 ++ returns 0 ∷ [])

-- `let b: temp = temp(3); copy(b, 1, "xy"); resp(view(b)); return len(view(b));`
abbrev pub copying : Program
copying =
    only_main (statement.Let (codes "b") kind.Temp (expr.Temp (num 3))
    ∷ statement.Copy (codes "b") (num 1) (text (codes "xy"))
    ∷ statement.Resp (expr.View (codes "b"))
    ∷ statement.Return (expr.Len (expr.View (codes "b"))) ∷ [])

-- `let b: temp = temp(1); set(b, 0, 256); return 0;`
abbrev pub no_byte : Program
no_byte =
    only_main (statement.Let (codes "b") kind.Temp (expr.Temp (num 1))
    ∷ statement.Set (codes "b") (num 0) (num 256) ∷ returns 0 ∷ [])

-- `resp(sub(args(), 1, 18446744073709551615)); return 0;`
abbrev pub long_part : Program
long_part =
    only_main (statement.Resp (expr.Sub expr.Args (num 1) (num (2 ^ 64 - 1))) ∷ returns 0 ∷ [])

-- `return u64(args(), 0);`
abbrev pub first_word : Program
first_word = only_main (statement.Return (expr.Word expr.Args (num 0)) ∷ [])

-- `let i: int = 1; if true { let j: int = 2; i = i + j; } let j: int = 4; return i + j;`
abbrev pub inner_scope : Program
inner_scope =
    only_main (statement.Let (codes "i") kind.Int (num 1)
    ∷ statement.If (expr.Truth true)
    (block_of (statement.Let (codes "j") kind.Int (num 2)
    ∷ statement.Assign (codes "i") (expr.Bin op.Add (expr.Var (codes "i")) (expr.Var (codes "j"))) ∷ []))
    (block_of [])
    ∷ statement.Let (codes "j") kind.Int (num 4)
    ∷ statement.Return (expr.Bin op.Add (expr.Var (codes "i")) (expr.Var (codes "j"))) ∷ [])

-- `while true { return 5; } return 0;`
abbrev pub left_loop : Program
left_loop = only_main (statement.While (expr.Truth true) (block_of (returns 5 ∷ [])) ∷ returns 0 ∷ [])

-- what each of them means
pub record Examples : Type 0 where
  pub divides_by_zero : mean division [] 9 unknown ≡ Trapped trap.Divide 1
  pub reads_past_the_end : mean third_byte (7 ∷ 8 ∷ []) 9 unknown ≡ Trapped trap.Range 1
  pub reads_the_last_byte : mean third_byte (7 ∷ 8 ∷ 9 ∷ []) 9 unknown ≡ ends_with 9 [] [] 1
  pub empty_key_is_size : mean empty_key [] 9 unknown ≡ Trapped trap.Size 1
  pub foreign_table_is_denied : mean foreign_table [] 9 unknown ≡ Trapped trap.Denied 1
  pub read_table_is_not_written : mean buffer_of_read_table [] 9 unknown ≡ Trapped trap.Denied 1
  pub odd_keys_are_width : mean (pairs (codes "abc")) [] 99 unknown ≡ Trapped trap.Width 1
  pub every_pair_is_read : mean (pairs (codes "abcd")) [] 99 (everywhere (Some (codes "v"))) ≡ ends_with 0 (codes "vv") [] 36
  pub spent_at_the_test : mean idle_loop [] 1 unknown ≡ Spent
  pub three_units_suffice : mean idle_loop [] 3 unknown ≡ ends_with 7 [] [] 3
  pub counts_to_three : mean counting [] 99 unknown ≡ ends_with 3 [] [] 10
  pub spent_in_an_expression : mean two_units [] 2 unknown ≡ Spent
  pub pays_for_its_bytes : mean two_units [] 4 unknown ≡ ends_with 0 [] [] 4
  pub sees_its_write : mean own_write [] 99 unknown ≡ ends_with 0 (codes "A") (written 65 (codes "k") ∷ []) 22
  pub sees_its_deletion : mean own_deletion [] 99 (everywhere (Some (codes "v"))) ≡ ends_with 2 [] (deleted (codes "k") ∷ []) 19
  pub wants_the_record : mean one_read [] 99 unknown ≡ Wants (record { 0 = 1 }) (codes "k") 17
  pub goes_on_with_the_record : mean one_read [] 99 (everywhere (Some (codes "v"))) ≡ ends_with 0 (codes "v") [] 19
  pub goes_on_without_it : mean one_read [] 99 (everywhere None) ≡ ends_with 0 [] [] 18
  pub and_leaves_out : mean (choice (expr.Bin op.And (expr.Truth false) faulty_test)) [] 9 unknown ≡ ends_with 2 [] [] 2
  pub or_leaves_out : mean (choice (expr.Bin op.Or (expr.Truth true) faulty_test)) [] 9 unknown ≡ ends_with 1 [] [] 2
  pub and_goes_on : mean (choice (expr.Bin op.And (expr.Truth true) faulty_test)) [] 9 unknown ≡ Trapped trap.Divide 1
  pub calls_a_function : mean calling [] 9 unknown ≡ ends_with 42 [] [] 3
  pub wraps_around : mean below_zero [] 9 unknown ≡ ends_with (2 ^ 64 - 1) [] [] 1
  pub writes_little_endian : mean little_endian [] 9 unknown ≡ ends_with 1 [] [] 3
  pub stops_at_an_absent_pair : mean stopping_pairs [] 99 (everywhere None) ≡ ends_with 1 [] [] 18
  pub last_change_at_the_first_place : mean three_puts [] 99 unknown ≡ ends_with 0 [] (written 3 (codes "k") ∷ written 2 (codes "j") ∷ []) 10
  pub copies_bytes : mean copying [] 9 unknown ≡ ends_with 3 (0 ∷ codes "xy") [] 4
  pub no_byte_is_range : mean no_byte [] 9 unknown ≡ Trapped trap.Range 2
  pub sums_do_not_wrap : mean long_part (7 ∷ 8 ∷ []) 9 unknown ≡ Trapped trap.Range 1
  pub reads_little_endian : mean first_word (1 ∷ 2 ∷ 0 ∷ 0 ∷ 0 ∷ 0 ∷ 0 ∷ 0 ∷ []) 9 unknown ≡ ends_with 513 [] [] 1
  pub blocks_have_their_variables : mean inner_scope [] 9 unknown ≡ ends_with 7 [] [] 6
  pub returns_out_of_a_loop : mean left_loop [] 9 unknown ≡ ends_with 5 [] [] 3
  -- a function's head is item 0, and a statement stands before those in its blocks
  pub numbers_its_items :
      program_items (choice (expr.Truth true))
      ≡ Head (codes "main") [] kind.Int ∷ Body (Statement-F.If (expr.Truth true) tt tt)
      ∷ Body (Statement-F.Return (num 1)) ∷ Body (Statement-F.Return (num 2)) ∷ []
