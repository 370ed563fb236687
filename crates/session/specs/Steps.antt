-- Explained sessions: when an answer to a request is one that the journal and what the session has seen
-- account for.
use Rattle.std.specs.Prelude.{◌≡◌, ◌≤◌, ◌<◌, ℕ, ◌/◌, ◌++◌, Bool, true, false, not, IsTrue, List, [], ◌∷◌, length, map, Option, Some, None, slice_get, take}
use Rattle.sp_base.specs.declared.calls.Asked.{Asked}
use Rattle.sp_base.specs.declared.numbers.TableId.{TableId}
use Rattle.sp_base.specs.declared.numbers.TenantId.{TenantId}
use Rattle.sp_base.specs.declared.outcomes.Outcome.{Outcome}
use Rattle.sp_base.specs.declared.reads.ReadItem.{ReadItem}
use Rattle.sp_base.specs.declared.writes.Write.{Write}
use Rattle.sp_base.specs.RightsList.{can_read}
use Rattle.ext_mean.specs.declared.refusal.Refusal.{Refusal}
use Rattle.ext_mean.specs.declared.tree.Program.{Program}
use Rattle.ext_mean.specs.Laws.{place_in}
use Rattle.ext_mean.specs.Refusals.{refusal_number}
use Rattle.ext_check.specs.Checking.{IsAccepted, IsRefused}
use Rattle.parked.specs.declared.refused.Refused.{Refused}
use Rattle.parked.specs.declared.refused.Refused.TheVariants as refused
use Rattle.parked.specs.Taking.{refusal_of}
use Rattle.records.specs.GrantsList.{RightsList}
use Rattle.rw_set.specs.ReadLists.{read_of}
use Rattle.journal.specs.declared.entry.Entry.{Entry}
use Rattle.journal.specs.declared.entry.Entry.TheVariants as entry
use Rattle.journal.specs.declared.entry.Home.TheVariants.{Client}
use Rattle.journal.specs.Folds.{texts_of}
use Rattle.journal.specs.Granted.{granted}
use Rattle.journal.specs.Reads.{bare}
use Rattle.book.specs.declared.answers.Commit.{Commit}
use Rattle.book.specs.declared.answers.Install.{Install}
use Rattle.book.specs.declared.answers.Install.TheVariants as install
use Rattle.book.specs.declared.answers.Put.{Put}
use Rattle.book.specs.declared.answers.Put.TheVariants as put
use Rattle.book.specs.Ends.{IsShown, StandsIn, moment_of}
use Rattle.book.specs.Verdict.{install_answer, item_at, put_answer, verdict}
use Rattle.wire.specs.declared.answers.Answer.{Answer}
use Rattle.wire.specs.declared.answers.Answer.TheVariants as answer
use Rattle.wire.specs.declared.answers.FetchAnswer.{FetchAnswer}
use Rattle.wire.specs.declared.answers.FetchAnswer.TheVariants as fetched
use Rattle.wire.specs.declared.answers.InstallAnswer.{InstallAnswer}
use Rattle.wire.specs.declared.answers.InstallAnswer.TheVariants as installed
use Rattle.wire.specs.declared.answers.PutAnswer.{PutAnswer}
use Rattle.wire.specs.declared.answers.PutAnswer.TheVariants as puts
use Rattle.wire.specs.declared.answers.TextAnswer.{TextAnswer}
use Rattle.wire.specs.declared.answers.TextAnswer.TheVariants as texts
use Rattle.wire.specs.declared.items.Item.{Item}
use Rattle.wire.specs.declared.items.Item.TheVariants as item
use Rattle.wire.specs.declared.requests.Request.{Request}
use Rattle.wire.specs.declared.requests.Request.TheVariants as request
use Rattle.session.specs.declared.fault.Fault.{Fault}
use Rattle.session.specs.declared.fault.Fault.TheVariants as fault
use Rattle.session.specs.Batches.{AllLeave, AreItems, commit_item}
use Rattle.session.specs.States.{Kept, State, Terms, after_answer, kept_of, knows, with_call, without}

-- ---- Turns

abbrev pub is_hello : Request → Bool
is_hello (request.Hello tenant secret) = true
is_hello _ = false

-- the first message is Hello, and no later one is
abbrev pub is_in_turn : Option TenantId → Request → Bool
is_in_turn None message = is_hello message
is_in_turn (Some tenant) message = not (is_hello message)

-- the number of a fault, as messages tell it
abbrev pub fault_code : Fault → ℕ
fault_code fault.BadFrame = 1
fault_code fault.TooLong = 2
fault_code fault.OutOfTurn = 3
fault_code fault.WrongKey = 4
fault_code fault.Memory = 5

abbrev pub faulted : Fault → Answer
faulted why = answer.Fault (fault_code why)

-- ---- Puts and installations

-- how a put is told to the client
abbrev pub put_told : Put → PutAnswer
put_told (put.Done n) = puts.Done n
put_told put.Denied = puts.Denied
put_told (put.Full at) = puts.Full at
put_told put.Memory = puts.Memory

-- the put of this entry has its number
abbrev pub PutStands : List Entry → Entry → Put → Type 0
PutStands journal entry (put.Done n) = slice_get journal n ≡ Some entry
PutStands journal entry _ = Unit {0}

-- a put is answered by the journal up to some moment, which is the one that is shown; want of memory says nothing
pub record IsPutAnswer (terms : Terms) (tenant : TenantId) (journal : List Entry) (seen : ℕ) (table : TableId) (key value : List ℕ) (given : Put) : Type 0 where
  pub moment : ℕ
  pub shown : IsShown journal seen moment
  pub told : given ≡ put_answer terms.grants terms.limit (take moment journal) tenant table (entry.Put tenant table key value)
  pub stands : PutStands journal (entry.Put tenant table key value) given

-- how an installation is told to the client
abbrev pub install_told : Install → InstallAnswer
install_told (install.Installed n ext) = installed.Done n ext
install_told (install.Full at) = installed.Full at
install_told install.Memory = installed.Memory

abbrev pub InstallStands : List Entry → Entry → Install → Type 0
InstallStands journal entry (install.Installed n ext) = slice_get journal n ≡ Some entry
InstallStands journal entry _ = Unit {0}

-- a text that is accepted is installed, or there is no room, by the journal up to the moment that is shown
pub record IsInstallAnswer (terms : Terms) (tenant : TenantId) (journal : List Entry) (seen : ℕ) (text : List ℕ) (given : Install) : Type 0 where
  pub program : Program
  pub accepted : IsAccepted text program
  pub moment : ℕ
  pub shown : IsShown journal seen moment
  pub told : given ≡ install_answer terms.limit (take moment journal) tenant (entry.Install tenant text)
  pub stands : InstallStands journal (entry.Install tenant text) given

-- ---- Texts

-- the text of the number that is asked for, or how many there are; want of memory says nothing
pub data IsTextAnswer (tenant : TenantId) (journal : List Entry) (seen number : ℕ) : TextAnswer → Type 0 where
  text_found : (text : List ℕ) (moment : ℕ) → IsShown journal seen moment
      → slice_get (texts_of (take moment journal) tenant) number ≡ Some text
      → IsTextAnswer tenant journal seen number (texts.Text text)
  text_absent : (count moment : ℕ) → IsShown journal seen moment
      → count ≡ length (texts_of (take moment journal) tenant) → count ≤ number
      → IsTextAnswer tenant journal seen number (texts.NoExtension count moment)
  no_text_memory : IsTextAnswer tenant journal seen number texts.Memory

-- ---- Parked calls

-- no call of the caller with this number is kept
abbrev pub IsOther : ℕ → Option Kept → Type 0
IsOther number None = Unit {0}
IsOther number (Some kept) = kept.parked.call.number.0 ≡ number → ⊥

-- the call of this caller and number is kept
pub record IsKept (state : State) (caller number : ℕ) (kept : Kept) : Type 0 where
  pub found : kept_of state.kept caller ≡ Some kept
  pub number_is : kept.parked.call.number.0 ≡ number

-- the call is kept no longer where it is doubtful, and then it is as if it had not been
pub data IsGone (state : State) (caller number : ℕ) : List Kept → Type 0 where
  never : IsOther number (kept_of state.kept caller) → IsGone state caller number state.kept
  doubted : (kept : Kept) → IsKept state caller number kept → IsTrue kept.doubtful
      → IsGone state caller number (without state.kept caller)

-- a call with one read more
abbrev pub with_read : Kept → ReadItem → Kept
with_read kept read = record {
  parked = record { call = kept.parked.call; ext = kept.parked.ext; reads = kept.parked.reads ++ read ∷ [] };
  doubtful = kept.doubtful;
}

-- the record was not read before by the kept call
pub record IsNewRead (state : State) (caller number : ℕ) (table : TableId) (key : List ℕ) (kept : Kept) : Type 0 where
  pub call : IsKept state caller number kept
  pub fresh : read_of kept.parked.reads (place_in table key) ≡ None

-- The answer to a Fetch, and what is kept then: the kept read where the record was read before; else the
-- table must be readable and the kept reads fewer than the budget pays, and the record as the journal had it at
-- the moment that is shown joins them.
pub data IsFetchAnswer (terms : Terms) (tenant : TenantId) (journal : List Entry) (state : State) (caller number : ℕ) (table : TableId) (key : List ℕ) : FetchAnswer → List Kept → Type 0 where
  not_fetched : (left : List Kept) → IsGone state caller number left
      → IsFetchAnswer terms tenant journal state caller number table key fetched.NotParked left
  fetched_again : (kept : Kept) (read : ReadItem) → IsKept state caller number kept
      → read_of kept.parked.reads (place_in table key) ≡ Some read
      → IsFetchAnswer terms tenant journal state caller number table key (fetched.Found read.version read.read_at read.value) state.kept
  fetched_now : (kept : Kept) (moment : ℕ) (read : ReadItem) → IsNewRead state caller number table key kept
      → IsShown journal state.seen moment → IsTrue (can_read (granted terms.grants (take moment journal) tenant) table.0)
      → length kept.parked.reads < kept.parked.call.budget / 16 → read ≡ item_at (take moment journal) table key
      → IsFetchAnswer terms tenant journal state caller number table key (fetched.Found read.version read.read_at read.value)
      (with_call state.kept caller (with_read kept read))
  fetch_denied : (kept : Kept) (moment : ℕ) → IsNewRead state caller number table key kept
      → IsShown journal state.seen moment → can_read (granted terms.grants (take moment journal) tenant) table.0 ≡ false
      → IsFetchAnswer terms tenant journal state caller number table key fetched.Denied state.kept
  fetch_many : (kept : Kept) (moment : ℕ) → IsNewRead state caller number table key kept
      → IsShown journal state.seen moment → IsTrue (can_read (granted terms.grants (take moment journal) tenant) table.0)
      → length kept.parked.reads ≡ kept.parked.call.budget / 16
      → IsFetchAnswer terms tenant journal state caller number table key fetched.Many state.kept
  no_fetch_memory : IsFetchAnswer terms tenant journal state caller number table key fetched.Memory state.kept

-- a kept call that is doubtful from now on
abbrev pub doubted_call : Kept → Kept
doubted_call kept = record { parked = kept.parked; doubtful = true }

-- how it is told that what a client sent is not taken
abbrev pub refused_item : Refused → Item
refused_item (refused.Shape code) = item.Shape code
refused_item (refused.Foreign table) = item.Foreign table
refused_item refused.Memory = item.Memory

-- the entry of a run that ended at its client, on the reads that are kept for it
abbrev pub sent_entry : Kept → Outcome → List Write → Entry
sent_entry kept outcome writes = entry.Invoke kept.parked.call outcome writes (map bare kept.parked.reads) Client

-- a run that was sent is judged by the journal up to the moment that is shown, and its entry stands where it
-- was committed
pub record IsSentVerdict (terms : Terms) (journal : List Entry) (seen : ℕ) (kept : Kept) (outcome : Outcome) (writes : List Write) (commit : Commit) : Type 0 where
  pub shown : IsShown journal seen (moment_of commit)
  pub told : commit ≡ verdict terms.limit (take (moment_of commit) journal) kept.parked.call
      (sent_entry kept outcome writes) outcome kept.parked.reads
  pub stands : StandsIn journal (sent_entry kept outcome writes) commit

-- The answer to a Finish, and what is kept then: what the client sent is refused, for its shape or for a
-- table that may not be written, and the call stays; or it is judged, and the call is gone. Want of memory makes the
-- call doubtful.
pub data IsFinishAnswer (terms : Terms) (tenant : TenantId) (journal : List Entry) (state : State) (caller number : ℕ) (outcome : Outcome) (writes : List Write) : Item → List Kept → Type 0 where
  not_finished : (left : List Kept) → IsGone state caller number left
      → IsFinishAnswer terms tenant journal state caller number outcome writes item.NotParked left
  refused_so : (kept : Kept) (moment : ℕ) (why : Refused) → IsKept state caller number kept → IsShown journal state.seen moment
      → refusal_of (granted terms.grants (take moment journal) tenant) outcome writes ≡ Some why
      → IsFinishAnswer terms tenant journal state caller number outcome writes (refused_item why) state.kept
  judged : (kept : Kept) (moment : ℕ) (given : Commit) → IsKept state caller number kept → IsShown journal state.seen moment
      → refusal_of (granted terms.grants (take moment journal) tenant) outcome writes ≡ None
      → IsSentVerdict terms journal state.seen kept outcome writes given
      → IsFinishAnswer terms tenant journal state caller number outcome writes (commit_item given) (without state.kept caller)
  no_finish_memory : (kept : Kept) → IsKept state caller number kept
      → IsFinishAnswer terms tenant journal state caller number outcome writes item.Memory
      (with_call state.kept caller (doubted_call kept))

-- ---- Steps

-- An answer to a request, by the journal and by what the session has come to, and what it then has come to.
-- Want of memory may come at any time.
pub data Step (terms : Terms) (journal : List Entry) (state : State) : Request → Answer → State → Type 0 where
  welcomed : (tenant : TenantId) (secret moment : ℕ) (rights : RightsList) → state.tenant ≡ None
      → IsTrue (knows terms.conf tenant secret) → IsShown journal state.seen moment
      → rights ≡ granted terms.grants (take moment journal) tenant
      → Step terms journal state (request.Hello tenant secret) (answer.Welcome rights moment)
      (after_answer (record state { tenant = Some tenant }) (answer.Welcome rights moment) state.kept)
  wrong_key : (tenant : TenantId) (secret : ℕ) → state.tenant ≡ None → knows terms.conf tenant secret ≡ false
      → Step terms journal state (request.Hello tenant secret) (faulted fault.WrongKey) state
  out_of_turn : (message : Request) → is_in_turn state.tenant message ≡ false
      → Step terms journal state message (faulted fault.OutOfTurn) state
  no_memory : (message : Request) → Step terms journal state message (faulted fault.Memory) state
  installs : (tenant : TenantId) (text : List ℕ) (given : Install) → state.tenant ≡ Some tenant
      → IsInstallAnswer terms tenant journal state.seen text given
      → Step terms journal state (request.Install text) (answer.Installed (install_told given))
      (after_answer state (answer.Installed (install_told given)) state.kept)
  refuses : (tenant : TenantId) (text : List ℕ) (line : ℕ) (why : Refusal) → state.tenant ≡ Some tenant
      → IsRefused text line why
      → Step terms journal state (request.Install text) (answer.Installed (installed.Rejected line (refusal_number why))) state
  installs_nothing : (tenant : TenantId) (text : List ℕ) → state.tenant ≡ Some tenant
      → Step terms journal state (request.Install text) (answer.Installed installed.Memory) state
  puts_one : (tenant : TenantId) (table : TableId) (key value : List ℕ) (given : Put) → state.tenant ≡ Some tenant
      → IsPutAnswer terms tenant journal state.seen table key value given
      → Step terms journal state (request.Put table key value) (answer.PutDone (put_told given))
      (after_answer state (answer.PutDone (put_told given)) state.kept)
  puts_nothing : (tenant : TenantId) (table : TableId) (key value : List ℕ) → state.tenant ≡ Some tenant
      → Step terms journal state (request.Put table key value) (answer.PutDone puts.Memory) state
  tells_text : (tenant : TenantId) (number : ℕ) (given : TextAnswer) → state.tenant ≡ Some tenant
      → IsTextAnswer tenant journal state.seen number given
      → Step terms journal state (request.TextOf (record { 0 = number })) (answer.Text given)
      (after_answer state (answer.Text given) state.kept)
  fetches : (tenant : TenantId) (caller number : ℕ) (table : TableId) (key : List ℕ) (given : FetchAnswer) (left : List Kept)
      → state.tenant ≡ Some tenant → IsFetchAnswer terms tenant journal state caller number table key given left
      → Step terms journal state (request.Fetch caller (record { 0 = number }) table key) (answer.Fetched given)
      (after_answer state (answer.Fetched given) left)
  finishes : (tenant : TenantId) (caller number : ℕ) (outcome : Outcome) (writes : List Write) (given : Item) (left : List Kept)
      → state.tenant ≡ Some tenant → IsFinishAnswer terms tenant journal state caller number outcome writes given left
      → Step terms journal state (request.Finish caller (record { 0 = number }) outcome writes) (answer.Finished given)
      (after_answer state (answer.Finished given) left)
  answers_batch : (tenant : TenantId) (calls : List Asked) (items : List Item) (left : List Kept) → state.tenant ≡ Some tenant
      → AreItems terms tenant journal state calls items → AllLeave journal tenant state.kept calls items left
      → Step terms journal state (request.Batch calls) (answer.Answers items)
      (after_answer state (answer.Answers items) left)
