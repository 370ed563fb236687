-- What a journal says of reads, and which reads a call makes on it.
use Rattle.std.specs.Prelude.{◌≡◌, ◌≤◌, ℕ, List, length, map, None, take}
use Rattle.std.specs.List.{AllByRecursion}
use Rattle.sp_base.specs.declared.calls.Call.{Call}
use Rattle.sp_base.specs.declared.reads.ReadItem.{ReadItem}
use Rattle.ext_mean.specs.Asked.{AreAsked, IsComplete}
use Rattle.ext_mean.specs.declared.tree.Program.{Program}
use Rattle.ext_mean.specs.Views.{place_of}
use Rattle.records.specs.GrantsList.{GrantsList}
use Rattle.journal.specs.declared.entry.Entry.{Entry}
use Rattle.journal.specs.Folds.{tables_of, version_of, value_at}
use Rattle.journal.specs.Granted.{granted}

-- a read is what the journal held when it was made
pub record IsHeld (journal : List Entry) (read : ReadItem) : Type 0 where
  pub by_then : read.read_at ≤ length journal
  pub version : read.version ≡ version_of (take read.read_at journal) (place_of read)
  pub value : read.value ≡ tables_of (take read.read_at journal) (place_of read)

-- a read whose version is the one that now stands
abbrev pub IsCurrent : List Entry → ReadItem → Type 0
IsCurrent before read = read.version ≡ version_of before (place_of read)

-- a read as an entry keeps it: its place and its version, with neither value nor moment
abbrev pub bare : ReadItem → ReadItem
bare read = record read { read_at = 0; value = None }

-- a read with the value that its version has
abbrev pub valued : List Entry → ReadItem → ReadItem
valued before read = record read { value = value_at before (place_of read) read.version }

-- The reads of a call, each at its own moment: in order, those that its program asks for, each with
-- what the journal held then.
pub record AreReadsOf (grants : GrantsList) (journal : List Entry) (call : Call) (program : Program) (reads : List ReadItem) : Type 0 where
  pub asked : AreAsked program call.args call.budget (granted grants journal call.caller.tenant) reads
  pub held : AllByRecursion (IsHeld journal) reads

-- the reads of a call that is run alone on what the journal leaves: all, and all made now
pub record AreNext (grants : GrantsList) (journal : List Entry) (call : Call) (program : Program) (reads : List ReadItem) : Type 0 where
  pub are : AreReadsOf grants journal call program reads
  pub complete : IsComplete program call.args call.budget (granted grants journal call.caller.tenant) reads
  pub now : AllByRecursion (λ read. read.read_at ≡ length journal) reads

-- an entry's reads are those, place by place and version by version
pub record HasNext (grants : GrantsList) (journal : List Entry) (call : Call) (program : Program) (kept : List ReadItem) : Type 0 where
  pub reads : List ReadItem
  pub next : AreNext grants journal call program reads
  pub kept_are : kept ≡ map bare reads
