-- The one spelling of each field, and what has one.
use Rattle.std.specs.Prelude.{ℕ, ◌<◌, ◌≤◌, ◌^◌, List, [], ◌∷◌, ◌++◌, length, Bool, true, false, Option, Some, None}
use Rattle.std.specs.List.{flat_map, AllByRecursion}
use Rattle.std.specs.Int.{w16, w32, w64, to_be_bytes}
use Rattle.sp_base.specs.Limits.{IsKey, IsValue, IsArguments}
use Rattle.sp_base.specs.RightsList.{AreRights}
use Rattle.sp_base.specs.declared.calls.Asked.{Asked}
use Rattle.sp_base.specs.declared.numbers.TableId.{TableId}
use Rattle.sp_base.specs.declared.outcomes.Outcome.{Outcome}
use Rattle.sp_base.specs.declared.outcomes.Outcome.TheVariants.{Done, Trapped, Killed}
use Rattle.sp_base.specs.declared.outcomes.Trap.{Trap}
use Rattle.sp_base.specs.declared.outcomes.Trap.TheVariants as traps
use Rattle.sp_base.specs.declared.reads.ReadItem.{ReadItem}
use Rattle.sp_base.specs.declared.rights.Level.{Level}
use Rattle.sp_base.specs.declared.rights.Level.TheVariants as levels
use Rattle.sp_base.specs.declared.writes.Change.{Change}
use Rattle.sp_base.specs.declared.writes.Change.TheVariants as changes
use Rattle.sp_base.specs.declared.writes.Write.{Write}

-- numbers of two, four and eight bytes, the greatest byte first
unfoldable pub u16 : ℕ → List ℕ
u16 n = to_be_bytes w16 n

unfoldable pub u32 : ℕ → List ℕ
u32 n = to_be_bytes w32 n

unfoldable pub u64 : ℕ → List ℕ
u64 n = to_be_bytes w64 n

abbrev pub IsU32 : ℕ → Type 0
IsU32 n = n < 2 ^ 32

abbrev pub IsU64 : ℕ → Type 0
IsU64 n = n < 2 ^ 64

-- a key behind its length in one byte
abbrev pub key : List ℕ → List ℕ
key bytes = length bytes ∷ bytes

-- a value, arguments or a text behind the length in two bytes
abbrev pub long : List ℕ → List ℕ
long bytes = u16 (length bytes) ++ bytes

abbrev pub flag : Bool → List ℕ
flag false = 0 ∷ []
flag true = 1 ∷ []

-- 0, or 1 and a value
abbrev pub opt : Option (List ℕ) → List ℕ
opt None = 0 ∷ []
opt (Some value) = 1 ∷ long value

abbrev pub FitsOpt : Option (List ℕ) → Type 0
FitsOpt None = Unit {0}
FitsOpt (Some value) = IsValue value

abbrev pub trap_number : Trap → ℕ
trap_number traps.Range = 1
trap_number traps.Divide = 2
trap_number traps.Size = 3
trap_number traps.Denied = 4
trap_number traps.Width = 5

abbrev pub outcome : Outcome → List ℕ
outcome (Done reply) = 0 ∷ (u64 reply.code ++ long reply.bytes)
outcome (Trapped trap) = 1 ∷ trap_number trap ∷ []
outcome Killed = 2 ∷ []

abbrev pub FitsOutcome : Outcome → Type 0
FitsOutcome (Done reply) = IsU64 reply.code × IsValue reply.bytes
FitsOutcome (Trapped trap) = Unit {0}
FitsOutcome Killed = Unit {0}

-- 0 deletes, and 1 puts the value behind it
abbrev pub change : Change → List ℕ
change changes.Del = 0 ∷ []
change (changes.Put value) = 1 ∷ long value

abbrev pub FitsChange : Change → Type 0
FitsChange changes.Del = Unit {0}
FitsChange (changes.Put value) = IsValue value

abbrev pub write : Write → List ℕ
write w = u32 w.table.0 ++ (key w.key ++ change w.change)

pub record FitsWrite (w : Write) : Type 0 where
  pub table : IsU32 w.table.0
  pub key : IsKey w.key
  pub change : FitsChange w.change

abbrev pub read : ReadItem → List ℕ
read r = u32 r.table.0 ++ (key r.key ++ (u64 r.version ++ (u64 r.read_at ++ opt r.value)))

pub record FitsRead (r : ReadItem) : Type 0 where
  pub table : IsU32 r.table.0
  pub key : IsKey r.key
  pub version : IsU64 r.version
  pub read_at : IsU64 r.read_at
  pub value : FitsOpt r.value

abbrev pub asked : Asked → List ℕ
asked a = u32 a.caller ++ (u64 a.number.0 ++ (u32 a.ext.0 ++ (u32 a.budget ++ (flag a.push_ok ++ long a.args))))

pub record FitsAsked (a : Asked) : Type 0 where
  pub caller : IsU32 a.caller
  pub number : IsU64 a.number.0
  pub ext : IsU32 a.ext.0
  pub budget : IsU32 a.budget
  pub args : IsArguments a.args

abbrev pub level_number : Level → ℕ
level_number levels.Nothing = 0
level_number levels.Read = 1
level_number levels.Write = 2

abbrev pub right : TableId × Level → List ℕ
right r = u32 r.0.0 ++ level_number r.1 ∷ []

-- ---- lists, behind their counts

abbrev pub writes : List Write → List ℕ
writes ws = length ws ∷ flat_map write ws

abbrev pub FitWrites : List Write → Type 0
FitWrites ws = (length ws ≤ 255) × AllByRecursion FitsWrite ws

abbrev pub reads : List ReadItem → List ℕ
reads rs = u16 (length rs) ++ flat_map read rs

abbrev pub FitReads : List ReadItem → Type 0
FitReads rs = (length rs ≤ 65535) × AllByRecursion FitsRead rs

-- from 1 to 64 calls
pub record FitCalls (calls : List Asked) : Type 0 where
  pub some : 1 ≤ length calls
  pub few : length calls ≤ 64
  pub each : AllByRecursion FitsAsked calls

abbrev pub asked_calls : List Asked → List ℕ
asked_calls calls = u16 (length calls) ++ flat_map asked calls

abbrev pub rights : List (TableId × Level) → List ℕ
rights rs = length rs ∷ flat_map right rs

-- at most 64 tables, strictly increasing, each read or written
pub record FitRights (rs : List (TableId × Level)) : Type 0 where
  pub rights : AreRights rs
  pub tables : AllByRecursion (λ r. IsU32 r.0.0) rs

-- a frame: the length of its body in four bytes, and the body
abbrev pub frame : List ℕ → List ℕ
frame body = u32 (length body) ++ body
