-- A legal journal: each entry is what the entries before it allow.
use Rattle.std.specs.Prelude.{◌≡◌, ◌<◌, ◌≤◌, ℕ, IsTrue, List, map, Some, slice_get, take}
use Rattle.std.specs.List.{AllByRecursion}
use Rattle.sp_base.specs.declared.calls.Call.{Call}
use Rattle.sp_base.specs.declared.outcomes.Outcome.{Outcome}
use Rattle.sp_base.specs.declared.reads.ReadItem.{ReadItem}
use Rattle.sp_base.specs.declared.writes.Write.{Write}
use Rattle.sp_base.specs.RightsList.{can_read, can_write}
use Rattle.ext_mean.specs.declared.tree.Program.{Program}
use Rattle.ext_mean.specs.Text.{Spells}
use Rattle.ext_mean.specs.Views.{part, whole}
use Rattle.ext_mean.specs.Outcomes.{EndsWith}
use Rattle.ext_mean.specs.Meaning.{mean}
use Rattle.records.specs.GrantsList.{GrantsList}
use Rattle.journal.specs.declared.entry.Entry.{Entry}
use Rattle.journal.specs.declared.entry.Entry.TheVariants.{Invoke, Put, Install}
use Rattle.journal.specs.declared.entry.Home.{Home}
use Rattle.journal.specs.declared.entry.Home.TheVariants.{Server, Client}
use Rattle.journal.specs.Folds.{tables_of, texts_of, last_of}
use Rattle.journal.specs.Granted.{granted}
use Rattle.journal.specs.Reads.{HasNext, IsCurrent, valued}

-- a property of an entry and the entries before it holds at each place of a journal from a number on
abbrev pub EachFrom : (List Entry → Entry → Type 0) → ℕ → List Entry → Type 0
EachFrom Holds start journal =
    (i : ℕ) (entry : Entry) → start ≤ i → slice_get journal i ≡ Some entry → Holds (take i journal) entry

-- the extension number of a call names a text of its tenant, and that text spells the program
pub record Names (before : List Entry) (call : Call) (program : Program) : Type 0 where
  pub text : List ℕ
  pub found : slice_get (texts_of before call.caller.tenant) call.ext.0 ≡ Some text
  pub spelled : Spells text program

-- where the run ended in the server, its reads are those that its program asks for
abbrev pub NextAtHome : GrantsList → List Entry → Call → Program → List ReadItem → Home → Type 0
NextAtHome grants before call program reads Server = HasNext grants before call program reads
NextAtHome grants before call program reads Client = Unit {0}

-- A committed call is what its source means alone on the tables then standing, with its whole budget:
-- its outcome, its changes, the versions that it read, and which records it read.
pub record IsLegal (grants : GrantsList) (before : List Entry) (call : Call) (outcome : Outcome) (writes : List Write) (reads : List ReadItem) (home : Home) : Type 0 where
  pub program : Program
  pub names : Names before call program
  pub meant : EndsWith
      (mean program call.args call.budget (whole (tables_of before) (granted grants before call.caller.tenant)))
      outcome writes
  pub current : AllByRecursion (IsCurrent before) reads
  pub asked : NextAtHome grants before call program reads home

abbrev pub LegalAt : GrantsList → List Entry → Entry → Type 0
LegalAt grants before (Invoke call outcome writes reads home) =
    IsLegal grants before call outcome writes reads home
LegalAt grants before (Put tenant table key value) = Unit {0}
LegalAt grants before (Install tenant text) = Unit {0}

-- the entries from a number on are legal
abbrev pub LegalFrom : GrantsList → ℕ → List Entry → Type 0
LegalFrom grants start journal = EachFrom (LegalAt grants) start journal

abbrev pub Legal : GrantsList → List Entry → Type 0
Legal grants journal = LegalFrom grants 0 journal

-- outcome and changes are what the program means on these reads, each with the value of its version
abbrev pub IsMeantOn : GrantsList → List Entry → Call → Program → Outcome → List Write → List ReadItem → Type 0
IsMeantOn grants before call program outcome writes reads =
    EndsWith
    (mean program call.args call.budget (part (map (valued before) reads) (granted grants before call.caller.tenant)))
    outcome writes

-- a committed call is what its source means on the records that it names as read
pub record IsHonest (grants : GrantsList) (before : List Entry) (call : Call) (outcome : Outcome) (writes : List Write) (reads : List ReadItem) : Type 0 where
  pub program : Program
  pub names : Names before call program
  pub meant : IsMeantOn grants before call program outcome writes reads

abbrev pub HonestAt : GrantsList → List Entry → Entry → Type 0
HonestAt grants before (Invoke call outcome writes reads home) =
    IsHonest grants before call outcome writes reads
HonestAt grants before (Put tenant table key value) = Unit {0}
HonestAt grants before (Install tenant text) = Unit {0}

-- a committed call has a number above that of its caller's last one
abbrev pub InOrderAt : List Entry → Entry → Type 0
InOrderAt before (Invoke call outcome writes reads home) = last_of before call.caller < call.number.0
InOrderAt before (Put tenant table key value) = Unit {0}
InOrderAt before (Install tenant text) = Unit {0}

abbrev pub InOrderFrom : ℕ → List Entry → Type 0
InOrderFrom start journal = EachFrom InOrderAt start journal

-- the numbers of each caller's calls are positive and strictly increase
abbrev pub InOrder : List Entry → Type 0
InOrder journal = InOrderFrom 0 journal

-- every table read is readable for the tenant, and every table written is writable
pub record CallIsWithin (grants : GrantsList) (before : List Entry) (call : Call) (writes : List Write) (reads : List ReadItem) : Type 0 where
  pub reading : AllByRecursion (λ read. IsTrue (can_read (granted grants before call.caller.tenant) read.table.0)) reads
  pub writing : AllByRecursion (λ write. IsTrue (can_write (granted grants before call.caller.tenant) write.table.0)) writes

abbrev pub WithinAt : GrantsList → List Entry → Entry → Type 0
WithinAt grants before (Invoke call outcome writes reads home) = CallIsWithin grants before call writes reads
WithinAt grants before (Put tenant table key value) = IsTrue (can_write (granted grants before tenant) table.0)
WithinAt grants before (Install tenant text) = Unit {0}

abbrev pub WithinFrom : GrantsList → ℕ → List Entry → Type 0
WithinFrom grants start journal = EachFrom (WithinAt grants) start journal

-- no ungranted table is read or written
abbrev pub Within : GrantsList → List Entry → Type 0
Within grants journal = WithinFrom grants 0 journal
