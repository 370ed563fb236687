-- What a book stands for.
use Rattle.std.specs.Prelude.{◌≡◌, ◌≤◌, ℕ, Bool, true, false, List, length}
use Rattle.std.specs.List.{AllByRecursion}
use Rattle.sp_base.specs.declared.calls.Call.{Call}
use Rattle.sp_base.specs.declared.limits.TheConstants.{MOST_ENTRIES, MOST_JOURNAL}
use Rattle.sp_base.specs.declared.outcomes.Outcome.{Outcome}
use Rattle.sp_base.specs.declared.reads.ReadItem.{ReadItem}
use Rattle.sp_base.specs.declared.writes.Write.{Write}
use Rattle.ext_mean.specs.declared.tree.Program.{Program}
use Rattle.ext_mean.specs.Meaning.{mean}
use Rattle.ext_mean.specs.Outcomes.{EndsWith}
use Rattle.ext_mean.specs.Views.{part}
use Rattle.records.specs.GrantsList.{GrantsList, RightsList, AreGrants}
use Rattle.journal.specs.declared.entry.Entry.{Entry}
use Rattle.journal.specs.declared.entry.Entry.TheVariants.{Invoke, Put, Install}
use Rattle.journal.specs.declared.entry.Home.TheVariants.{Server, Client}
use Rattle.journal.specs.Granted.{granted}
use Rattle.journal.specs.Legal.{CallIsWithin, EachFrom, InOrder, IsLegal, IsMeantOn, Names, Within, WithinAt}
use Rattle.journal.specs.Reads.{IsCurrent, IsHeld}
use Rattle.journal.specs.Sizes.{EntryFits, size_of}

-- what contracts see of a book: its grants, the most entries that it may have, whether it holds only
-- honest calls of clients, and its journal
pub record BookValue : Type 0 where
  pub grants : GrantsList
  pub limit : ℕ
  pub audit : Bool
  pub journal : List Entry

-- under audit, a client's outcome and changes are what the program means on the records that it read
abbrev pub IsAudited : Bool → GrantsList → List Entry → Call → Program → Outcome → List Write → List ReadItem → Type 0
IsAudited true grants before call program outcome writes reads =
    IsMeantOn grants before call program outcome writes reads
IsAudited false grants before call program outcome writes reads = Unit {0}

-- a call that ended at its client names an extension and has read the versions then standing
pub record IsSent (grants : GrantsList) (audit : Bool) (before : List Entry) (call : Call) (outcome : Outcome) (writes : List Write) (reads : List ReadItem) : Type 0 where
  pub program : Program
  pub names : Names before call program
  pub current : AllByRecursion (IsCurrent before) reads
  pub honest : IsAudited audit grants before call program outcome writes reads

-- a call that ended in the server is legal whole
abbrev pub SoundAt : GrantsList → Bool → List Entry → Entry → Type 0
SoundAt grants audit before (Invoke call outcome writes reads Server) =
    IsLegal grants before call outcome writes reads Server
SoundAt grants audit before (Invoke call outcome writes reads Client) =
    IsSent grants audit before call outcome writes reads
SoundAt grants audit before (Put tenant table key value) = Unit {0}
SoundAt grants audit before (Install tenant text) = Unit {0}

-- the journal is one history within its limits, sound entry by entry
pub record IsSound (grants : GrantsList) (limit : ℕ) (audit : Bool) (journal : List Entry) : Type 0 where
  pub granting : AreGrants grants
  pub most : limit ≤ MOST_ENTRIES
  pub few : length journal ≤ limit
  pub small : size_of journal ≤ MOST_JOURNAL
  pub fits : EachFrom (λ before entry. EntryFits entry) 0 journal
  pub sound : EachFrom (SoundAt grants audit) 0 journal
  pub in_order : InOrder journal
  pub within : Within grants journal

-- The book stands for this list of entries, from the first on. Layers above speak of a journal by
-- this word alone.
pub record StandsFor (book : BookValue) (journal : List Entry) : Type 0 where
  pub is : book.journal ≡ journal
  pub sound : IsSound book.grants book.limit book.audit journal

-- A finished run belongs to this journal: each of its reads is what the journal held when it was made,
-- its extension's number names the program that ran, and it ran with its tenant's rights.
pub record RanOn (grants : GrantsList) (journal : List Entry) (call : Call) (program : Program) (rights : RightsList) (reads : List ReadItem) : Type 0 where
  pub held : AllByRecursion (IsHeld journal) reads
  pub named : Names journal call program
  pub own : rights ≡ granted grants journal call.caller.tenant

-- under audit, what a client sent is what the program means on the reads that were kept for its call
abbrev pub IsTrueTo : Bool → RightsList → Call → Program → Outcome → List Write → List ReadItem → Type 0
IsTrueTo true rights call program outcome writes reads =
    EndsWith (mean program call.args call.budget (part reads rights)) outcome writes
IsTrueTo false rights call program outcome writes reads = Unit {0}

-- A run that its client sent belongs to this journal: each of its reads is what the journal held when it
-- was made, its extension's number names a program, and its tables are those that its tenant may read
-- and write. Under audit its end is true to that program.
pub record SentOn (grants : GrantsList) (audit : Bool) (journal : List Entry) (call : Call) (outcome : Outcome) (writes : List Write) (reads : List ReadItem) : Type 0 where
  pub program : Program
  pub held : AllByRecursion (IsHeld journal) reads
  pub named : Names journal call program
  pub within : CallIsWithin grants journal call writes reads
  pub true_to : IsTrueTo audit (granted grants journal call.caller.tenant) call program outcome writes reads

-- An entry may join the journal: it is within its limits and its grants, and it is sound where no read
-- of its run has moved.
pub record MayJoin (grants : GrantsList) (audit : Bool) (journal : List Entry) (entry : Entry) (reads : List ReadItem) : Type 0 where
  pub fits : EntryFits entry
  pub within : WithinAt grants journal entry
  pub sound : AllByRecursion (IsCurrent journal) reads → SoundAt grants audit journal entry

-- grants, limit and audit of a book never change
pub record KeepsFixed (before after : BookValue) : Type 0 where
  pub grants : after.grants ≡ before.grants
  pub limit : after.limit ≡ before.limit
  pub audit : after.audit ≡ before.audit
