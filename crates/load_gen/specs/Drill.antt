-- The script of a drill.
use Rattle.std.specs.Prelude.{ℕ, zero, suc, ◌+◌, ◌*◌, ◌/◌, ◌%◌, ◌^◌, ◌==◌, List, [], ◌∷◌, ◌++◌, codes}
use Rattle.sp_base.specs.declared.numbers.TableId.{TableId}
use Rattle.sp_base.specs.declared.numbers.TenantId.{TenantId}
use Rattle.sp_base.specs.declared.rights.Level.TheVariants.{Write}
use Rattle.sched_text.specs.declared.event.Event.{Event}
use Rattle.sched_text.specs.declared.event.Event.TheVariants.{Ext, Begin, Turn}
use Rattle.sched_text.specs.declared.script.Head.{Head}
use Rattle.sched_text.specs.declared.script.Script.{Script}

-- the generator's number behind this one
abbrev pub next_number : ℕ → ℕ
next_number x = (x * 6364136223846793005 + 1442695040888963407) % 2 ^ 64

-- the generator's numbers: number 0 is the seed
abbrev pub generated : ℕ → ℕ → ℕ
generated seed zero = seed
generated seed (suc i) = next_number (generated seed i)

-- the key of a call: six bits of a number
abbrev pub key_byte : ℕ → ℕ
key_byte x = x / 2 ^ 33 % 64

-- the counter: it reads the record at its argument, a number of eight bytes, adds one and writes it
abbrev pub counter : List ℕ
counter =
    codes "fn main() -> int { let n: int = 0; get(6, args()) { some s => { n = u64(s, 0); } none => { } } let b: buf = alloc(6, args(), 8); set8(b, 0, n + 1); put(b); return n + 1; }\n"

-- the one tenant and its one table
abbrev pub one : TenantId
one = record { 0 = 1 }

abbrev pub table : TableId
table = record { 0 = 6 }

-- call i, whose number of the generator is x, joins one of four queues
abbrev pub begun_with : ℕ → ℕ → Event
begun_with i x = Begin (i % 4) one (record {
  caller = i + 1;
  number = record { 0 = 1 };
  ext = record { 0 = 0 };
  budget = 100;
  push_ok = i % 2 == 1;
  args = key_byte x ∷ [];
})

-- call i takes the generator's number i + 1
abbrev pub call_begun : ℕ → ℕ → Event
call_begun seed i = begun_with i (generated seed (suc i))

-- the worker of its queue has a turn

abbrev pub turn_of_call : ℕ → Event
turn_of_call i = Turn (i % 4) 1000

-- the first calls, each with the numbers of its two lines
abbrev pub calls_of : ℕ → ℕ → List (ℕ × Event)
calls_of seed zero = []
calls_of seed (suc i) =
    (calls_of seed i ++ (7 + 2 * i, call_begun seed i) ∷ []) ++ (8 + 2 * i, turn_of_call i) ∷ []

-- `tenant 1 1`, `table 6 1 write`, `policy 8 18`, `workers 4`
abbrev pub drill_head : Head
drill_head = record {
  tenants = (one, 1) ∷ [];
  rights = (one, (table, Write) ∷ []) ∷ [];
  policy = record { high = 8; least = 18 };
  limit = 1048576;
  workers = 4;
}

-- the script for so many calls: the head, `ext 1 1` with the counter, and the calls
unfoldable pub drill_script : ℕ → ℕ → Script
drill_script count seed = record {
  head = drill_head;
  events = ((5, Ext one counter) ∷ []) ++ calls_of seed count;
}
