-- What each line of a script says by itself: its word, how many fields it has, and what they spell.
use Rattle.std.specs.Prelude.{ℕ, ◌==◌, Bool, true, false, List, length, codes, Option, Some, None, Result, Ok, Err, if◌then◌else◌}
use Rattle.std.specs.Option.{option_map_or}
use Rattle.std.specs.Str.{bytes_eq}
use Rattle.sched_text.specs.declared.code.LineCode.{LineCode}
use Rattle.sched_text.specs.declared.code.LineCode.TheVariants as code
use Rattle.sched_text.specs.declared.event.Event.TheVariants as event
use Rattle.sched_text.specs.declared.line.Kind.{Kind}
use Rattle.sched_text.specs.declared.line.Kind.TheVariants.{Play, SetUp}
use Rattle.sched_text.specs.declared.line.Word.{Word}
use Rattle.sched_text.specs.declared.line.Word.TheVariants.{Tenant, Table, Policy, Limit, Workers, Put, Ext, Begin, Turn, Steal, Away, Cut}
use Rattle.sched_text.specs.declared.line.ScriptLine.{ScriptLine}
use Rattle.sched_text.specs.declared.line.ScriptLine.TheVariants as says
use Rattle.sched_text.specs.Results.{◌>>=◌, passed}
use Rattle.sched_text.specs.Fields.{u32_max, u64_max, fields_of, field, number_field, bytes_field, level_field, push_field}

-- ---- words

-- the word that a field spells
abbrev pub word_of : List ℕ → Option Word
word_of text =
    if bytes_eq text (codes "tenant") then Some Tenant
    else if bytes_eq text (codes "table") then Some Table
    else if bytes_eq text (codes "policy") then Some Policy
    else if bytes_eq text (codes "limit") then Some Limit
    else if bytes_eq text (codes "workers") then Some Workers
    else if bytes_eq text (codes "put") then Some Put
    else if bytes_eq text (codes "ext") then Some Ext
    else if bytes_eq text (codes "begin") then Some Begin
    else if bytes_eq text (codes "turn") then Some Turn
    else if bytes_eq text (codes "steal") then Some Steal
    else if bytes_eq text (codes "away") then Some Away
    else if bytes_eq text (codes "cut") then Some Cut
    else None

-- which lines a script has: a set-up has no workers and no calls
abbrev pub has_line : Kind → Word → Bool
has_line Play word = true
has_line SetUp Workers = false
has_line SetUp Begin = false
has_line SetUp Turn = false
has_line SetUp Steal = false
has_line SetUp Away = false
has_line SetUp Cut = false
has_line SetUp _ = true

-- the word of a line in a script of this kind
unfoldable pub word_field : Kind → List ℕ → Result Word LineCode
word_field kind text =
    option_map_or (λ word. passed code.Word (has_line kind word) word) (word_of text) (Err code.Word)

-- so many fields, with the word
unfoldable pub counted : ℕ → List (List ℕ) → Result (Unit {0}) LineCode
counted count fields = passed code.Count (length fields == count) tt

-- ---- the fields of each line

-- `tenant T KEY`
unfoldable pub tenant_line : List (List ℕ) → Result ScriptLine LineCode
tenant_line fields = do
  _ ← counted 3 fields
  tenant ← number_field 0 u32_max (field fields 1)
  key ← number_field 0 u64_max (field fields 2)
  Ok (says.Tenant (record { 0 = tenant }) key)

-- `table N T LEVEL`
unfoldable pub table_line : List (List ℕ) → Result ScriptLine LineCode
table_line fields = do
  _ ← counted 4 fields
  table ← number_field 0 u32_max (field fields 1)
  tenant ← number_field 0 u32_max (field fields 2)
  level ← level_field (field fields 3)
  Ok (says.Table (record { 0 = table }) (record { 0 = tenant }) level)

-- `policy HIGH LEAST`
unfoldable pub policy_line : List (List ℕ) → Result ScriptLine LineCode
policy_line fields = do
  _ ← counted 3 fields
  high ← number_field 0 u32_max (field fields 1)
  least ← number_field 0 100000 (field fields 2)
  Ok (says.Policy (record { high = high; least = least }))

-- `limit N`
unfoldable pub limit_line : List (List ℕ) → Result ScriptLine LineCode
limit_line fields = do
  _ ← counted 2 fields
  limit ← number_field 1 1048576 (field fields 1)
  Ok (says.Limit limit)

-- `workers N`
unfoldable pub workers_line : List (List ℕ) → Result ScriptLine LineCode
workers_line fields = do
  _ ← counted 2 fields
  workers ← number_field 1 64 (field fields 1)
  Ok (says.Workers workers)

-- `put T N KEY VALUE`
unfoldable pub put_line : List (List ℕ) → Result ScriptLine LineCode
put_line fields = do
  _ ← counted 5 fields
  tenant ← number_field 0 u32_max (field fields 1)
  table ← number_field 0 u32_max (field fields 2)
  key ← bytes_field 1 64 (field fields 3)
  value ← bytes_field 0 4096 (field fields 4)
  Ok (says.Body (event.Put (record { 0 = tenant }) (record { 0 = table }) key value))

-- `ext T LINES`
unfoldable pub ext_line : List (List ℕ) → Result ScriptLine LineCode
ext_line fields = do
  _ ← counted 3 fields
  tenant ← number_field 0 u32_max (field fields 1)
  lines ← number_field 1 16384 (field fields 2)
  Ok (says.Ext (record { 0 = tenant }) lines)

-- `begin W T C NO EXT BUDGET PUSH ARGS`
unfoldable pub begin_line : List (List ℕ) → Result ScriptLine LineCode
begin_line fields = do
  _ ← counted 9 fields
  worker ← number_field 0 u32_max (field fields 1)
  tenant ← number_field 0 u32_max (field fields 2)
  caller ← number_field 0 u32_max (field fields 3)
  number ← number_field 1 u64_max (field fields 4)
  ext ← number_field 0 u32_max (field fields 5)
  budget ← number_field 1 100000 (field fields 6)
  push ← push_field (field fields 7)
  args ← bytes_field 0 1024 (field fields 8)
  Ok (says.Body (event.Begin worker (record { 0 = tenant }) (record {
    caller = caller;
    number = record { 0 = number };
    ext = record { 0 = ext };
    budget = budget;
    push_ok = push;
    args = args;
  })))

-- `turn W Q`
unfoldable pub turn_line : List (List ℕ) → Result ScriptLine LineCode
turn_line fields = do
  _ ← counted 3 fields
  worker ← number_field 0 u32_max (field fields 1)
  quantum ← number_field 1 10000 (field fields 2)
  Ok (says.Body (event.Turn worker quantum))

-- `steal W V`
unfoldable pub steal_line : List (List ℕ) → Result ScriptLine LineCode
steal_line fields = do
  _ ← counted 3 fields
  worker ← number_field 0 u32_max (field fields 1)
  from ← number_field 0 u32_max (field fields 2)
  Ok (says.Body (event.Steal worker from))

-- `away T C`
unfoldable pub away_line : List (List ℕ) → Result ScriptLine LineCode
away_line fields = do
  _ ← counted 3 fields
  tenant ← number_field 0 u32_max (field fields 1)
  caller ← number_field 0 u32_max (field fields 2)
  Ok (says.Body (event.Away (record { 0 = tenant }) caller))

-- `cut T C`
unfoldable pub cut_line : List (List ℕ) → Result ScriptLine LineCode
cut_line fields = do
  _ ← counted 3 fields
  tenant ← number_field 0 u32_max (field fields 1)
  caller ← number_field 0 u32_max (field fields 2)
  Ok (says.Body (event.Cut (record { 0 = tenant }) caller))

-- the line of this word
abbrev pub line_of_word : Word → List (List ℕ) → Result ScriptLine LineCode
line_of_word Tenant = tenant_line
line_of_word Table = table_line
line_of_word Policy = policy_line
line_of_word Limit = limit_line
line_of_word Workers = workers_line
line_of_word Put = put_line
line_of_word Ext = ext_line
line_of_word Begin = begin_line
line_of_word Turn = turn_line
line_of_word Steal = steal_line
line_of_word Away = away_line
line_of_word Cut = cut_line

-- what a line of a script says, or which of Word, Count and Field comes first
unfoldable pub line_of : Kind → List ℕ → Result ScriptLine LineCode
line_of kind line = do
  word ← word_field kind (field (fields_of line) 0)
  line_of_word word (fields_of line)
