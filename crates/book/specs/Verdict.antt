-- How a finished run, a put and an installation are judged by the journal that stands.
use Rattle.std.specs.Prelude.{ℕ, ◌+◌, ◌==◌, ◌||◌, Bool, List, [], ◌∷◌, ◌++◌, length, map, Option, Some, None, nat_le, nat_lt, if◌then◌else◌}
use Rattle.sp_base.specs.declared.calls.Call.{Call}
use Rattle.sp_base.specs.declared.limits.TheConstants.{MOST_JOURNAL}
use Rattle.sp_base.specs.declared.numbers.TenantId.{TenantId}
use Rattle.sp_base.specs.declared.numbers.TableId.{TableId}
use Rattle.sp_base.specs.declared.outcomes.Outcome.{Outcome}
use Rattle.sp_base.specs.declared.reads.ReadItem.{ReadItem}
use Rattle.sp_base.specs.declared.writes.Write.{Write}
use Rattle.sp_base.specs.Spelling.{FitsOpt}
use Rattle.sp_base.specs.RightsList.{can_read, can_write}
use Rattle.ext_mean.specs.Views.{place_of}
use Rattle.book.specs.declared.answers.Commit.{Commit}
use Rattle.book.specs.declared.answers.Commit.TheVariants.{Committed, Stale, Conflict, Full}
use Rattle.book.specs.declared.ended.Ended.{Ended}
use Rattle.book.specs.declared.answers.Install.{Install}
use Rattle.book.specs.declared.answers.Install.TheVariants as install
use Rattle.book.specs.declared.answers.Put.{Put}
use Rattle.book.specs.declared.answers.Put.TheVariants as put
use Rattle.book.specs.declared.answers.Read.{Read}
use Rattle.book.specs.declared.answers.Read.TheVariants as read
use Rattle.journal.specs.declared.entry.Entry.{Entry}
use Rattle.journal.specs.declared.entry.Entry.TheVariants as entry
use Rattle.journal.specs.declared.entry.Home.{Home}
use Rattle.journal.specs.declared.entry.Home.TheVariants.{Server, Client}
use Rattle.records.specs.GrantsList.{GrantsList}
use Rattle.records.specs.Records.{place_at}
use Rattle.journal.specs.Folds.{tables_of, version_of, texts_of, last_of}
use Rattle.journal.specs.Granted.{granted}
use Rattle.journal.specs.Reads.{bare}
use Rattle.journal.specs.Sizes.{size_of, size_of_entry}

-- the journal with one more entry
abbrev pub grown : List Entry → Entry → List Entry
grown journal entry = journal ++ entry ∷ []

-- whether the journal has no room for an entry of this size
abbrev pub is_full_for : ℕ → List Entry → ℕ → Bool
is_full_for limit journal size =
    nat_le limit (length journal) || nat_lt MOST_JOURNAL (size_of journal + size)

abbrev pub is_full : ℕ → List Entry → Entry → Bool
is_full limit journal entry = is_full_for limit journal (size_of_entry entry)

-- the first read whose version has moved
abbrev pub moved : List Entry → List ReadItem → Option ReadItem
moved journal [] = None
moved journal (read ∷ reads) =
    if read.version == version_of journal (place_of read) then moved journal reads else Some read

-- the entry of a run, which keeps its reads bare: of one that ended in the server, and of one that its
-- client sent
abbrev pub entry_at : Home → Call → Outcome → List Write → List ReadItem → Entry
entry_at home call outcome writes reads = entry.Invoke call outcome writes (map bare reads) home

abbrev pub entry_of : Call → Outcome → List Write → List ReadItem → Entry
entry_of call outcome writes reads = entry_at Server call outcome writes reads

abbrev pub sent_entry : Call → Outcome → List Write → List ReadItem → Entry
sent_entry call outcome writes reads = entry_at Client call outcome writes reads

abbrev pub entry_in : Ended → Entry
entry_in ended = entry_at ended.home ended.call ended.outcome ended.writes ended.reads

-- the verdict where no read has moved, and where this one has
abbrev pub verdict_on : ℕ → List Entry → Entry → Outcome → Option ReadItem → Commit
verdict_on limit journal entry outcome (Some read) =
    Conflict read.table read.key read.version read.read_at
    (version_of journal (place_of read)) (length journal)
verdict_on limit journal entry outcome None =
    if is_full limit journal entry then Full (length journal) else Committed (length journal) outcome

-- The first of these that applies: the caller has committed this number or a later one; a read's
-- version has moved; the journal is full; the call is committed under the journal's length.
abbrev pub verdict : ℕ → List Entry → Call → Entry → Outcome → List ReadItem → Commit
verdict limit journal call entry outcome reads =
    if nat_le call.number.0 (last_of journal call.caller)
    then Stale (last_of journal call.caller) (length journal)
    else verdict_on limit journal entry outcome (moved journal reads)

-- the journal after an answer: with one more entry where it committed, else as it was
abbrev pub after_commit : Commit → List Entry → Entry → List Entry
after_commit (Committed n outcome) journal entry = grown journal entry
after_commit _ journal entry = journal

-- a put is denied where the table is not writable, and full where there is no room
abbrev pub put_answer : GrantsList → ℕ → List Entry → TenantId → TableId → Entry → Put
put_answer grants limit journal tenant table entry =
    if can_write (granted grants journal tenant) table.0
    then (if is_full limit journal entry then put.Full (length journal) else put.Done (length journal))
    else put.Denied

abbrev pub after_put : Put → List Entry → Entry → List Entry
after_put (put.Done n) journal entry = grown journal entry
after_put _ journal entry = journal

-- a tenant's extensions are numbered from 0
abbrev pub install_answer : ℕ → List Entry → TenantId → Entry → Install
install_answer limit journal tenant entry =
    if is_full limit journal entry then install.Full (length journal)
    else install.Installed (length journal) (record { 0 = length (texts_of journal tenant) })

abbrev pub after_install : Install → List Entry → Entry → List Entry
after_install (install.Installed n ext) journal entry = grown journal entry
after_install _ journal entry = journal

-- what the journal leaves at a place, as a read
abbrev pub item_at : List Entry → TableId → List ℕ → ReadItem
item_at journal table key = record {
  table = table;
  key = key;
  version = version_of journal (place_at table key);
  read_at = length journal;
  value = tables_of journal (place_at table key);
}

-- a read finds what the journal leaves at the place, and is denied where the table is not readable
abbrev pub read_answer : GrantsList → List Entry → TenantId → TableId → List ℕ → Read
read_answer grants journal tenant table key =
    if can_read (granted grants journal tenant) table.0
    then read.Found (item_at journal table key)
    else read.Denied

-- which answers take memory: each refusal is decided before any memory is asked for
abbrev pub ReadTakesMemory : Read → Type 0
ReadTakesMemory (read.Found item) = Unit {0}
ReadTakesMemory _ = ⊥

abbrev pub PutTakesMemory : Put → Type 0
PutTakesMemory (put.Done n) = Unit {0}
PutTakesMemory _ = ⊥

abbrev pub InstallTakesMemory : Install → Type 0
InstallTakesMemory (install.Installed n ext) = Unit {0}
InstallTakesMemory _ = ⊥

abbrev pub CommitTakesMemory : Commit → Type 0
CommitTakesMemory (Committed n outcome) = Unit {0}
CommitTakesMemory _ = ⊥

-- a value that was found is within the limit of values
abbrev pub FoundFits : Read → Type 0
FoundFits (read.Found item) = FitsOpt item.value
FoundFits _ = Unit {0}
