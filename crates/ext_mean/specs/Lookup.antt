-- The form of extension that looks its arguments up in one table: its tree, its text, and its meaning
-- as straight work.
use Rattle.std.specs.Prelude.{◌≡◌, ◌<◌, ◌^◌, ℕ, ◌+◌, ◌&&◌, List, [], ◌∷◌, ◌++◌, Option, Some, None, length, nat_le, codes}
use Rattle.std.specs.Fmt.{decimal}
use Rattle.sp_base.specs.declared.outcomes.Trap.TheVariants.{Size, Denied}
use Rattle.sp_base.specs.Places.{Place}
use Rattle.sp_base.specs.RightsList.{can_read}
use Rattle.ext_mean.specs.declared.expr.Expr.TheVariants as expr
use Rattle.ext_mean.specs.declared.statement.Kind.TheVariants as kind
use Rattle.ext_mean.specs.declared.statement.Statement.{Statement}
use Rattle.ext_mean.specs.declared.statement.Statement.TheVariants as statement
use Rattle.ext_mean.specs.declared.statement.Statement.TheViews.{roll-Block}
use Rattle.ext_mean.specs.declared.statement.Block.{Block}
use Rattle.ext_mean.specs.declared.tree.Program.{Program}
use Rattle.ext_mean.specs.declared.run.Run.{Run}
use Rattle.ext_mean.specs.declared.run.Run.TheVariants.{Done}
use Rattle.ext_mean.specs.Text.{Spells}
use Rattle.ext_mean.specs.Views.{View}
use Rattle.ext_mean.specs.Work.{World, Step, Next, Ends, Work, ◌>>=◌, give, charge, require, known_or_wanted}
use Rattle.ext_mean.specs.Meaning.{mean, start}

-- a block of these statements
abbrev pub block_of : List Statement → Block
block_of statements = roll-Block (record { items = statements })

-- `{ resp(s); }`
abbrev pub answering : Block
answering = block_of (statement.Resp (expr.Var (codes "s")) ∷ [])

-- `get(TABLE, args()) { some s => { resp(s); } none => { } }` and `return CODE;`
abbrev pub looking : ℕ → Statement
looking table = statement.Get (expr.Number table) expr.Args (codes "s") answering (block_of [])

abbrev pub lookup_block : ℕ → ℕ → Block
lookup_block table code = block_of (looking table ∷ statement.Return (expr.Number code) ∷ [])

-- `fn main() -> int { get(TABLE, args()) { some s => { resp(s); } none => { } } return CODE; }`
unfoldable pub lookup_program : ℕ → ℕ → Program
lookup_program table code = record {
  functions = record { name = codes "main"; params = []; result = kind.Int; body = lookup_block table code } ∷ [];
}

-- the same on one line, with its two numbers in decimal
abbrev pub lookup_text : ℕ → ℕ → List ℕ
lookup_text table code =
    codes "fn main() -> int { get(" ++ decimal table
    ++ codes ", args()) { some s => { resp(s); } none => { } } return " ++ decimal code
    ++ codes "; }" ++ 10 ∷ []

-- the text spells the tree
abbrev pub LookupIsSpelled : Type 0
LookupIsSpelled =
    (table code : ℕ) → table < 2 ^ 64 → code < 2 ^ 64
    → Spells (lookup_text table code) (lookup_program table code)

-- the read: the key's size, the table's level, 16 units, and then the record
abbrev pub lookup_get : World → ℕ → List ℕ → Work (Option (List ℕ))
lookup_get world table key = do
  _ ← require (nat_le 1 (length key) && nat_le (length key) 64) Size
  _ ← require (can_read world.view.rights table) Denied
  _ ← charge world 16
  let place : Place = record { table = table; key = key } in
      known_or_wanted (world.view.known place) place

-- `resp(bytes);`: 1 unit, and the reply has at most 4,096 bytes
abbrev pub lookup_resp : World → List ℕ → Work (Unit {0})
lookup_resp world bytes = do
  _ ← charge world 1
  _ ← λ state. require (nat_le (length state.reply + length bytes) 4096) Size state
  λ state. Next tt (record state { reply = state.reply ++ bytes })

-- the arms `some s => { resp(s); }` and `none => { }`
abbrev pub lookup_arms : World → Option (List ℕ) → Work (Unit {0})
lookup_arms world (Some bytes) = lookup_resp world bytes
lookup_arms world None = give tt

-- the extension's body: the `get` statement with its arms, and the `return`
abbrev pub lookup_work : World → ℕ → ℕ → Work ℕ
lookup_work world table code = do
  _ ← charge world 1
  found ← lookup_get world table world.args
  _ ← lookup_arms world found
  _ ← charge world 1
  give code

-- the end of the straight work
abbrev pub lookup_ended : Step ℕ → Run
lookup_ended (Next code state) = Done (record { code = code; bytes = state.reply }) state.writes state.used
lookup_ended (Ends run) = run

-- the meaning of the form is its straight work
abbrev pub LookupMeans : Type 0
LookupMeans =
    (table code : ℕ) (args : List ℕ) (budget : ℕ) (view : View)
    → mean (lookup_program table code) args budget view
    ≡ lookup_ended (lookup_work (record { args = args; budget = budget; view = view }) table code start)
