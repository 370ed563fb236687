-- What each line of a script of calls says by itself.
use Rattle.std.specs.Prelude.{ℕ, Bool, not, List, codes, Option, Some, None, Result, Ok, Err, if◌then◌else◌}
use Rattle.std.specs.Option.{option_map_or}
use Rattle.std.specs.Str.{bytes_eq}
use Rattle.sched_text.specs.declared.code.LineCode.{LineCode}
use Rattle.sched_text.specs.declared.code.LineCode.TheVariants as code
use Rattle.sched_text.specs.declared.call_line.CallLine.{CallLine}
use Rattle.sched_text.specs.declared.call_line.CallLine.TheVariants as says
use Rattle.sched_text.specs.declared.call_line.CallWord.{CallWord}
use Rattle.sched_text.specs.declared.call_line.CallWord.TheVariants.{Install, Put, Batch, Invoke}
use Rattle.sched_text.specs.Results.{◌>>=◌, passed}
use Rattle.sched_text.specs.Fields.{u32_max, u64_max, fields_of, field, number_field, bytes_field, push_field}
use Rattle.sched_text.specs.Lines.{counted}

-- the word that a field spells
abbrev pub call_word_of : List ℕ → Option CallWord
call_word_of text =
    if bytes_eq text (codes "install") then Some Install
    else if bytes_eq text (codes "put") then Some Put
    else if bytes_eq text (codes "batch") then Some Batch
    else if bytes_eq text (codes "invoke") then Some Invoke
    else None

-- the lines of a batch are calls, and calls stand nowhere else
abbrev pub is_in_place : Bool → CallWord → Bool
is_in_place in_batch Invoke = in_batch
is_in_place in_batch _ = not in_batch

-- the word of a line in its place
unfoldable pub call_word_field : Bool → List ℕ → Result CallWord LineCode
call_word_field in_batch text =
    option_map_or (λ word. passed code.Word (is_in_place in_batch word) word) (call_word_of text)
    (Err code.Word)

-- `install LINES`
unfoldable pub install_line : List (List ℕ) → Result CallLine LineCode
install_line fields = do
  _ ← counted 2 fields
  lines ← number_field 1 16384 (field fields 1)
  Ok (says.Install lines)

-- `put N KEY VALUE`
unfoldable pub call_put_line : List (List ℕ) → Result CallLine LineCode
call_put_line fields = do
  _ ← counted 4 fields
  table ← number_field 0 u32_max (field fields 1)
  key ← bytes_field 1 64 (field fields 2)
  value ← bytes_field 0 4096 (field fields 3)
  Ok (says.Put (record { 0 = table }) key value)

-- `batch K`
unfoldable pub batch_line : List (List ℕ) → Result CallLine LineCode
batch_line fields = do
  _ ← counted 2 fields
  count ← number_field 1 64 (field fields 1)
  Ok (says.Batch count)

-- `invoke C NO EXT BUDGET PUSH ARGS`
unfoldable pub invoke_line : List (List ℕ) → Result CallLine LineCode
invoke_line fields = do
  _ ← counted 7 fields
  caller ← number_field 0 u32_max (field fields 1)
  number ← number_field 0 u64_max (field fields 2)
  ext ← number_field 0 u32_max (field fields 3)
  budget ← number_field 0 u32_max (field fields 4)
  push ← push_field (field fields 5)
  args ← bytes_field 0 1024 (field fields 6)
  Ok (says.Invoke (record {
    caller = caller;
    number = record { 0 = number };
    ext = record { 0 = ext };
    budget = budget;
    push_ok = push;
    args = args;
  }))

-- the line of this word
abbrev pub call_line_of_word : CallWord → List (List ℕ) → Result CallLine LineCode
call_line_of_word Install = install_line
call_line_of_word Put = call_put_line
call_line_of_word Batch = batch_line
call_line_of_word Invoke = invoke_line

-- what a line says, inside a batch or outside, or which of Word, Count and Field comes first
unfoldable pub call_line_of : Bool → List ℕ → Result CallLine LineCode
call_line_of in_batch line = do
  word ← call_word_field in_batch (field (fields_of line) 0)
  call_line_of_word word (fields_of line)
