-- The size of a journal: what its entries take as bytes.
use Rattle.std.specs.Prelude.{◌≤◌, ℕ, ◌+◌, List, length, sum_by}
use Rattle.std.specs.List.{AllByRecursion}
use Rattle.sp_base.specs.declared.outcomes.Outcome.{Outcome}
use Rattle.sp_base.specs.declared.outcomes.Outcome.TheVariants as outcome
use Rattle.sp_base.specs.declared.reads.ReadItem.{ReadItem}
use Rattle.sp_base.specs.declared.writes.Change.{Change}
use Rattle.sp_base.specs.declared.writes.Change.TheVariants as change
use Rattle.sp_base.specs.declared.writes.Write.{Write}
use Rattle.sp_base.specs.Limits.{IsValue, IsArguments, IsText}
use Rattle.ext_mean.specs.Outcomes.{ReplyFits, ChangeFits}
use Rattle.journal.specs.declared.entry.Entry.{Entry}
use Rattle.journal.specs.declared.entry.Entry.TheVariants.{Invoke, Put, Install}

-- a key: one byte of length; a value, arguments or a text: two
abbrev pub key_size : List ℕ → ℕ
key_size key = 1 + length key

abbrev pub bytes_size : List ℕ → ℕ
bytes_size bytes = 2 + length bytes

-- a tag, and a code of eight bytes with the reply's bytes, or a trap's number, or nothing
abbrev pub outcome_size : Outcome → ℕ
outcome_size (outcome.Done reply) = 9 + bytes_size reply.bytes
outcome_size (outcome.Trapped trap) = 2
outcome_size outcome.Killed = 1

-- a tag, and the value of a put
abbrev pub change_size : Change → ℕ
change_size (change.Put value) = 1 + bytes_size value
change_size change.Del = 1

-- a table of four bytes, a key and a change
abbrev pub write_size : Write → ℕ
write_size write = 4 + key_size write.key + change_size write.change

-- a table of four bytes, a key and a version of eight
abbrev pub read_size : ReadItem → ℕ
read_size read = 12 + key_size read.key

-- A tag of one byte. An invocation has tenant, caller, number, extension, budget and push flag in 25
-- bytes, its arguments, its outcome, a count of one byte and its writes, a count of two bytes and its
-- reads, and its home in one. A put has tenant and table in eight bytes, an install its tenant in four.
abbrev pub size_of_entry : Entry → ℕ
size_of_entry (Invoke call outcome writes reads home) =
    30 + bytes_size call.args + outcome_size outcome + sum_by write_size writes + sum_by read_size reads
size_of_entry (Put tenant table key value) = 9 + key_size key + bytes_size value
size_of_entry (Install tenant text) = 5 + bytes_size text

abbrev pub size_of : List Entry → ℕ
size_of journal = sum_by size_of_entry journal

-- an entry within the limits
pub record InvokeFits (args : List ℕ) (outcome : Outcome) (writes : List Write) (reads : List ReadItem) : Type 0 where
  pub arguments : IsArguments args
  pub reply : ReplyFits outcome
  pub few_writes : length writes ≤ 255
  pub values : AllByRecursion ChangeFits writes
  pub few_reads : length reads ≤ 65535

abbrev pub EntryFits : Entry → Type 0
EntryFits (Invoke call outcome writes reads home) = InvokeFits call.args outcome writes reads
EntryFits (Put tenant table key value) = IsValue value
EntryFits (Install tenant text) = IsText text
