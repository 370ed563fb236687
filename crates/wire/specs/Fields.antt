-- Reading the fields of messages.
use Rattle.std.specs.Prelude.{ℕ, zero, suc, ◌+◌, ◌-◌, ◌*◌, ◌/◌, min, List, [], ◌∷◌, length, take, drop, Bool, Option, Some, None, Ok, Err, nat_lt, ◌==◌, if◌then◌else◌}
use Rattle.std.specs.Int.{Width, w32, w64, byte_len, from_be_bytes}
use Rattle.sp_base.specs.declared.calls.Asked.{Asked}
use Rattle.sp_base.specs.declared.outcomes.Outcome.{Outcome}
use Rattle.sp_base.specs.declared.outcomes.Outcome.TheVariants.{Done, Trapped, Killed}
use Rattle.sp_base.specs.declared.outcomes.Trap.{Trap}
use Rattle.sp_base.specs.declared.outcomes.Trap.TheVariants as traps
use Rattle.sp_base.specs.declared.reads.ReadItem.{ReadItem}
use Rattle.sp_base.specs.declared.writes.Change.{Change}
use Rattle.sp_base.specs.declared.writes.Change.TheVariants as changes
use Rattle.sp_base.specs.declared.writes.Write.{Write}
use Rattle.sp_base.specs.declared.numbers.TableId.{TableId}
use Rattle.sp_base.specs.declared.rights.Level.{Level}
use Rattle.sp_base.specs.declared.rights.Level.TheVariants as levels
use Rattle.wire.specs.Readers.{Reader, bind, made, done, tagged, arm, no_arm, repeated}

-- ---- numbers

-- a byte from least to most
abbrev pub byte_in : ℕ → ℕ → Reader ℕ
byte_in least most [] = Err 0
byte_in least most (b ∷ rest) = if nat_lt b least then Err (length rest + 1) else if nat_lt most b then Err (length rest + 1) else Ok (b, rest)

-- a number of any size that its bytes can have
abbrev pub number_at : Width → Reader ℕ
number_at w bytes = if nat_lt (length bytes) (byte_len w) then Err 0 else Ok (from_be_bytes w (take (byte_len w) bytes), drop (byte_len w) bytes)

-- the low digit of a number from least to most whose high digit is this, where base is what the low one ends below
abbrev pub low_least : ℕ → ℕ → ℕ → ℕ
low_least base least high = least - base * high

abbrev pub low_most : ℕ → ℕ → ℕ → ℕ
low_most base most high = min (most - base * high) (base - 1)

-- a number of two bytes from least to most, byte by byte
unfoldable pub u16_in : ℕ → ℕ → Reader ℕ
u16_in least most bytes =
    bind (byte_in (least / 256) (most / 256)) (λ high.
    made (λ low. 256 * high + low) (byte_in (low_least 256 least high) (low_most 256 most high))) bytes

-- a number of four bytes from least to most, byte by byte
unfoldable pub u32_in : ℕ → ℕ → Reader ℕ
u32_in least most bytes =
    bind (u16_in (least / 65536) (most / 65536)) (λ high.
    made (λ low. 65536 * high + low) (u16_in (low_least 65536 least high) (low_most 65536 most high))) bytes

-- ---- bytes

-- so many bytes
abbrev pub bytes_at : ℕ → Reader (List ℕ)
bytes_at n bytes = if nat_lt (length bytes) n then Err 0 else Ok (take n bytes, drop n bytes)

unfoldable pub key_at : Reader (List ℕ)
key_at bytes = bind (byte_in 1 64) bytes_at bytes

-- bytes with their length in two bytes before them
unfoldable pub long_at : ℕ → ℕ → Reader (List ℕ)
long_at least most bytes = bind (u16_in least most) bytes_at bytes

-- ---- choices

unfoldable pub flag_at : Reader Bool
flag_at bytes = made (λ b. b == 1) (byte_in 0 1) bytes

unfoldable pub opt_at : Reader (Option (List ℕ))
opt_at bytes = tagged (arm 0 (done None) (arm 1 (made Some (long_at 0 4096)) no_arm)) bytes

abbrev pub trap_of : ℕ → Trap
trap_of (suc (suc zero)) = traps.Divide
trap_of (suc (suc (suc zero))) = traps.Size
trap_of (suc (suc (suc (suc zero)))) = traps.Denied
trap_of (suc (suc (suc (suc (suc zero))))) = traps.Width
trap_of _ = traps.Range

unfoldable pub done_at : Reader Outcome
done_at bytes = bind (number_at w64) (λ code. made (λ reply. Done (record { code = code; bytes = reply })) (long_at 0 4096)) bytes

unfoldable pub outcome_at : Reader Outcome
outcome_at bytes = tagged (arm 0 done_at (arm 1 (made (λ n. Trapped (trap_of n)) (byte_in 1 5)) (arm 2 (done Killed) no_arm))) bytes

-- ---- records

abbrev pub change_of : Option (List ℕ) → Change
change_of None = changes.Del
change_of (Some value) = changes.Put value

unfoldable pub change_at : Reader Change
change_at bytes = made change_of opt_at bytes

unfoldable pub write_at : Reader Write
write_at bytes =
    bind (number_at w32) (λ table.
    bind key_at (λ key.
    made (λ change. record { table = record { 0 = table }; key = key; change = change }) change_at)) bytes

unfoldable pub read_at : Reader ReadItem
read_at bytes =
    bind (number_at w32) (λ table.
    bind key_at (λ key.
    bind (number_at w64) (λ version.
    bind (number_at w64) (λ at.
    made (λ value. record { table = record { 0 = table }; key = key; version = version; read_at = at; value = value }) opt_at)))) bytes

unfoldable pub asked_at : Reader Asked
asked_at bytes =
    bind (number_at w32) (λ caller.
    bind (number_at w64) (λ number.
    bind (number_at w32) (λ ext.
    bind (number_at w32) (λ budget.
    bind flag_at (λ push.
    made (λ args. record { caller = caller; number = record { 0 = number }; ext = record { 0 = ext }; budget = budget; push_ok = push; args = args }) (long_at 0 1024)))))) bytes

-- ---- lists

unfoldable pub writes_at : Reader (List Write)
writes_at bytes = bind (byte_in 0 255) (repeated write_at) bytes

unfoldable pub reads_at : Reader (List ReadItem)
reads_at bytes = bind (u16_in 0 65535) (repeated read_at) bytes

unfoldable pub calls_at : Reader (List Asked)
calls_at bytes = bind (u16_in 1 64) (repeated asked_at) bytes

-- ---- rights

abbrev pub level_of_number : ℕ → Level
level_of_number (suc (suc zero)) = levels.Write
level_of_number _ = levels.Read

-- a table from least to most, read or written
unfoldable pub right_in : ℕ → ℕ → Reader (TableId × Level)
right_in least most bytes = bind (u32_in least most) (λ table. made (λ level. (record { 0 = table }, level_of_number level)) (byte_in 1 2)) bytes

-- n rights, whose tables strictly increase from the least: each leaves room for those behind it
unfoldable pub tables_from : ℕ → ℕ → Reader (List (TableId × Level))
tables_from zero least bytes = Ok ([], bytes)
tables_from (suc n) least bytes =
    bind (right_in least (4294967295 - n)) (λ first. made (λ others. first ∷ others) (tables_from n (first.0.0 + 1))) bytes

unfoldable pub rights_at : Reader (List (TableId × Level))
rights_at bytes = bind (byte_in 0 64) (λ n. tables_from n 0) bytes
