-- The text of the journal's lines.
use Rattle.std.specs.Prelude.{ℕ, ◌==◌, List, [], ◌∷◌, ◌++◌, length, codes, count_by}
use Rattle.std.specs.Fmt.{decimal}
use Rattle.sp_base.specs.declared.calls.Call.{Call}
use Rattle.sp_base.specs.declared.numbers.ExtNo.{ExtNo}
use Rattle.sp_base.specs.declared.numbers.TableId.{TableId}
use Rattle.sp_base.specs.declared.numbers.TenantId.{TenantId}
use Rattle.sp_base.specs.declared.outcomes.Outcome.{Outcome}
use Rattle.sp_base.specs.declared.reads.ReadItem.{ReadItem}
use Rattle.sp_base.specs.declared.writes.Change.{Change}
use Rattle.sp_base.specs.declared.writes.Change.TheVariants as change
use Rattle.sp_base.specs.declared.writes.Write.{Write}
use Rattle.journal.specs.declared.entry.Entry.{Entry}
use Rattle.journal.specs.declared.entry.Entry.TheVariants as entry
use Rattle.journal.specs.declared.entry.Home.{Home}
use Rattle.journal.specs.declared.entry.Home.TheVariants as home
use Rattle.journal.specs.Folds.{texts_of}
use Rattle.sp_base.specs.Fields.{byte_field}
use Rattle.report.specs.Lines.{line_of, outcome_fields}

-- `TABLE KEY VERSION`
abbrev pub read_fields : ReadItem → List (List ℕ)
read_fields read = decimal read.table.0 ∷ byte_field read.key ∷ decimal read.version ∷ []

-- `put VALUE` or `del`
abbrev pub change_fields : Change → List (List ℕ)
change_fields (change.Put value) = codes "put" ∷ byte_field value ∷ []
change_fields change.Del = codes "del" ∷ []

-- `TABLE KEY` and the change
abbrev pub write_fields : Write → List (List ℕ)
write_fields write = decimal write.table.0 ∷ byte_field write.key ∷ change_fields write.change

abbrev pub home_word : Home → List ℕ
home_word home.Server = codes "server"
home_word home.Client = codes "client"

abbrev pub reads_fields : List ReadItem → List (List ℕ)
reads_fields [] = []
reads_fields (read ∷ reads) = read_fields read ++ reads_fields reads

abbrev pub writes_fields : List Write → List (List ℕ)
writes_fields [] = []
writes_fields (write ∷ writes) = write_fields write ++ writes_fields writes

-- `T C NO EXT BUDGET ARGS`
abbrev pub call_fields : Call → List (List ℕ)
call_fields call =
    decimal call.caller.tenant.0 ∷ decimal call.caller.number ∷ decimal call.number.0 ∷ decimal call.ext.0
    ∷ decimal call.budget ∷ byte_field call.args ∷ []

-- the reads with their count, and the writes with theirs
abbrev pub access_fields : List ReadItem → List Write → List (List ℕ)
access_fields reads writes =
    codes "reads" ∷ decimal (length reads) ∷ (reads_fields reads
    ++ (codes "writes" ∷ decimal (length writes) ∷ writes_fields writes))

-- the call, its home, its outcome, its reads and its writes
abbrev pub invoke_fields : Call → Outcome → List Write → List ReadItem → Home → List (List ℕ)
invoke_fields call outcome writes reads home =
    codes "invoke" ∷ (call_fields call
    ++ (home_word home ∷ (outcome_fields outcome ++ access_fields reads writes)))

abbrev pub put_fields : TenantId → TableId → List ℕ → List ℕ → List (List ℕ)
put_fields tenant table key value =
    codes "put" ∷ decimal tenant.0 ∷ decimal table.0 ∷ byte_field key ∷ byte_field value ∷ []

-- how many lines a text has
abbrev pub line_count : List ℕ → ℕ
line_count text = count_by (λ byte. byte == 10) text

-- an installation has the extension's number and the count of its text's lines
abbrev pub install_fields : TenantId → ExtNo → ℕ → List (List ℕ)
install_fields tenant ext lines =
    codes "install" ∷ decimal tenant.0 ∷ decimal ext.0 ∷ decimal lines ∷ []

-- what an entry's line says; the number is that of the extension which it installs
abbrev pub kind_fields : ExtNo → Entry → List (List ℕ)
kind_fields ext (entry.Put tenant table key value) = put_fields tenant table key value
kind_fields ext (entry.Install tenant text) = install_fields tenant ext (line_count text)
kind_fields ext (entry.Invoke call outcome writes reads home) =
    invoke_fields call outcome writes reads home

-- the line of an installation is followed by the text's lines
abbrev pub source_text : Entry → List ℕ
source_text (entry.Put tenant table key value) = []
source_text (entry.Install tenant text) = text
source_text (entry.Invoke call outcome writes reads home) = []

-- the lines of entry n: `journal N`, and what it says
abbrev pub entry_text : ℕ → ExtNo → Entry → List ℕ
entry_text n ext entry =
    line_of (codes "journal") (decimal n ∷ kind_fields ext entry) ++ source_text entry

-- the number of the extension that an entry installs: how many its tenant installed before it
abbrev pub ext_after : List Entry → Entry → ExtNo
ext_after before (entry.Install tenant text) = record { 0 = length (texts_of before tenant) }
ext_after before (entry.Put tenant table key value) = record { 0 = 0 }
ext_after before (entry.Invoke call outcome writes reads home) = record { 0 = 0 }

-- the lines of these entries, after those before them
abbrev pub journal_after : List Entry → List Entry → List ℕ
journal_after before [] = []
journal_after before (entry ∷ entries) =
    entry_text (length before) (ext_after before entry) entry ++ journal_after (before ++ entry ∷ []) entries

-- all lines of a journal
abbrev pub journal_text : List Entry → List ℕ
journal_text journal = journal_after [] journal
