-- Where a session stands: the states of explained sessions that it has come to, and the journals that it fits.
use Rattle.std.specs.Prelude.{◌≡◌, ◌≢◌, ◌≤◌, ℕ, true, IsTrue, List, [], ◌∷◌, ◌++◌, ◌+◌, ◌-◌, ◌*◌, length, Option, Some, None, slice_get, take}
use Rattle.std.specs.List.{AllByRecursion}
use Rattle.sp_base.specs.declared.calls.Asked.{Asked}
use Rattle.sp_base.specs.declared.numbers.TenantId.{TenantId}
use Rattle.sp_base.specs.declared.outcomes.Outcome.{Outcome}
use Rattle.sp_base.specs.declared.limits.TheConstants.{MOST_BUDGET, MOST_PARKED, MOST_PUSHED}
use Rattle.sp_base.specs.Limits.{IsArguments, IsText}
use Rattle.sp_base.specs.RightsList.{can_read}
use Rattle.sp_base.specs.Spelling.{FitsOpt}
use Rattle.ext_mean.specs.Outcomes.{ReplyFits}
use Rattle.records.specs.GrantsList.{GrantsList, RightsList}
use Rattle.rw_set.specs.declared.sent.Sent.{Sent}
use Rattle.rw_set.specs.ReadLists.{IsReadList}
use Rattle.rw_set.specs.Weight.{weight_of}
use Rattle.task.specs.Extensions.{ExtValue}
use Rattle.task.specs.Parking.{ParkedCall}
use Rattle.task.specs.Turning.{begun}
use Rattle.journal.specs.declared.entry.Entry.{Entry}
use Rattle.journal.specs.Granted.{granted}
use Rattle.journal.specs.Reads.{IsHeld}
use Rattle.book.specs.declared.answers.Commit.TheVariants as commit
use Rattle.book.specs.declared.ends.CallEnd.{CallEnd}
use Rattle.book.specs.declared.ends.End.{End}
use Rattle.book.specs.declared.ends.End.TheVariants as ended
use Rattle.book.specs.Ends.{ItemHolds, NamesExt}
use Rattle.book.specs.Standing.{BookValue, StandsFor}
use Rattle.wire.specs.declared.answers.Answer.{Answer}
use Rattle.wire.specs.declared.answers.Answer.TheVariants as answer
use Rattle.wire.specs.declared.answers.FetchAnswer.TheVariants as fetched
use Rattle.wire.specs.declared.answers.InstallAnswer.TheVariants as installed
use Rattle.wire.specs.declared.answers.PutAnswer.TheVariants as puts
use Rattle.wire.specs.declared.answers.TextAnswer.TheVariants as texts
use Rattle.wire.specs.declared.items.Item.{Item}
use Rattle.wire.specs.declared.items.Item.TheVariants as item
use Rattle.wire.specs.declared.requests.Request.{Request}
use Rattle.wire.specs.declared.requests.Request.TheVariants as request
use Rattle.session.specs.declared.conf.SessionConf.{SessionConf}
use Rattle.session.specs.declared.plan.Ask.{Ask}
use Rattle.session.specs.declared.plan.Ask.TheVariants as ask
use Rattle.session.specs.declared.plan.Begun.{Begun}
use Rattle.session.specs.declared.plan.Plan.{Plan}
use Rattle.session.specs.declared.plan.Plan.TheVariants as plan
use Rattle.session.specs.declared.session.Admitted.{Admitted}
use Rattle.session.specs.declared.session.Phase.{Phase}
use Rattle.session.specs.declared.session.Phase.TheVariants as phase
use Rattle.session.specs.declared.session.Session.{Session}
use Rattle.session.specs.Batches.{AreFree, AreItems, CanBegin, IsRefusal, call_of}
use Rattle.session.specs.Keeping.{IsOfEach, call_in}
use Rattle.session.specs.Sending.{SentFits}
use Rattle.session.specs.States.{IsMap, Kept, State, Terms, kept_of}
use Rattle.session.specs.Steps.{Step, is_in_turn}
use Rattle.session.specs.Waiting.{BegunWait, PlacesRise}
use Rattle.wire.specs.Answers.{EndsParked, IsIn}

-- the terms of a session over a book
abbrev pub terms_of : SessionConf → GrantsList → ℕ → Terms
terms_of conf grants limit = record { conf = conf; grants = grants; limit = limit }

abbrev pub terms_over : Session → BookValue → Terms
terms_over session book = terms_of session.conf book.grants book.limit

-- the session may be given its next request: it has not ended, and waits for no end of a call
abbrev pub IsOpen : Session → Type 0
IsOpen session = session.phase ≡ phase.Open

-- the session as it is when it has ended
abbrev pub ended_now : Session → Session
ended_now session = record session { phase = phase.Ended }

abbrev pub HasEnded : Session → Type 0
HasEnded session = session.phase ≡ phase.Ended

abbrev pub tenant_of : Option Admitted → Option TenantId
tenant_of None = None
tenant_of (Some admitted) = Some admitted.tenant

-- ---- States

-- a parked call and the one that the state keeps of its caller
abbrev pub Matches : Option ParkedCall → Option Kept → Type 0
Matches None None = Unit {0}
Matches None (Some kept) = IsTrue kept.doubtful
Matches (Some parked) None = ⊥
Matches (Some parked) (Some kept) = parked ≡ kept.parked

-- each of these calls stands in the state with its reads, and each that the state has besides is doubtful
abbrev pub AreKept : List ParkedCall → List Kept → Type 0
AreKept parked kept = (caller : ℕ) → Matches (call_in parked caller) (kept_of kept caller)

-- the calls that are parked in the session
abbrev pub parked_in : Session → List ParkedCall
parked_in session = session.parked

-- how many more calls it can park
abbrev pub room_in : Session → ℕ
room_in session = MOST_PARKED - length (parked_in session)

-- the session has come to this state
pub record Stands (session : Session) (state : State) : Type 0 where
  pub tenant : state.tenant ≡ tenant_of session.admitted
  pub seen : state.seen ≡ session.seen
  pub map : IsMap state.kept
  pub kept : AreKept (parked_in session) state.kept

-- the session as it is with the call of a run that was taken from it
abbrev pub with_sent : Session → Sent → ExtValue → Session
with_sent session sent ext =
    record session { parked = session.parked ++ record { call = sent.call; ext = ext; reads = sent.reads } ∷ [] }

abbrev pub StandsWithSent : Session → Sent → State → Type 0
StandsWithSent session sent state = (ext : ExtValue) × Stands (with_sent session sent ext) state

-- The session has come to this state while an ask is on its way: the call of a Finish is counted among those
-- that are parked.
abbrev pub StandsAsking : Session → Ask → State → Type 0
StandsAsking session (ask.Finish sent) state = StandsWithSent session sent state
StandsAsking session _ state = Stands session state

-- the answer is a step from the state, and the session then stands for what it leads to
pub record Leads (terms : Terms) (journal : List Entry) (state : State) (new : Session) (message : Request) (given : Answer) : Type 0 where
  pub next : State
  pub step : Step terms journal state message given next
  pub stands : Stands new next

-- and so from each of the states for which the session stood
abbrev pub Explains : Terms → List Entry → (State → Type 0) → Session → Request → Answer → Type 0
Explains terms journal Stood new message given =
    (state : State) → Stood state → Leads terms journal state new message given

-- ---- Journals

-- a tenant's rights are those that it is granted
abbrev pub HasOwnRights : Option Admitted → List Entry → GrantsList → Type 0
HasOwnRights None journal grants = Unit {0}
HasOwnRights (Some admitted) journal grants = admitted.rights ≡ granted grants journal admitted.tenant

-- A parked call belongs to a journal: it is the tenant's, and as it began; its extension's number names its
-- extension; each of its reads is in a table that may be read, is what the journal held when it was made, and is paid
-- with 16 units of its budget.
pub record IsParkedIn (tenant : TenantId) (rights : RightsList) (journal : List Entry) (parked : ParkedCall) : Type 0 where
  pub own : parked.call.caller.tenant ≡ tenant
  pub args : IsArguments parked.call.args
  pub budget : parked.call.budget ≤ MOST_BUDGET
  pub named : NamesExt journal parked.call parked.ext
  pub held : AllByRecursion (IsHeld journal) parked.reads
  pub readable : AllByRecursion (λ read. IsTrue (can_read rights read.table.0)) parked.reads
  pub paid : 16 * length parked.reads ≤ parked.call.budget

abbrev pub ParkedFit : Option Admitted → List Entry → List ParkedCall → Type 0
ParkedFit None journal parked = parked ≡ []
ParkedFit (Some admitted) journal parked =
    (caller : ℕ) (one : ParkedCall) → call_in parked caller ≡ Some one
    → IsParkedIn admitted.tenant admitted.rights journal one

-- the session fits a journal: it has its tenant's rights, and has seen no more than is there; and its parked
-- calls, at most one of each caller and not too many, belong to it
pub record Fits (session : Session) (journal : List Entry) (grants : GrantsList) : Type 0 where
  pub rights : HasOwnRights session.admitted journal grants
  pub seen : session.seen ≤ length journal
  pub each : IsOfEach (parked_in session)
  pub few : length (parked_in session) ≤ MOST_PARKED
  pub parked : ParkedFit session.admitted journal (parked_in session)

-- an ask of the session fits a journal: its run is the tenant's, and may be committed over it
abbrev pub AskFits : Session → Ask → List Entry → GrantsList → Type 0
AskFits session (ask.Finish sent) journal grants = SentFits (tenant_of session.admitted) session.conf.audit sent journal grants
AskFits session _ journal grants = Unit {0}

-- ---- Requests on their way

-- the request that an ask stands for
abbrev pub request_of : Ask → Request
request_of (ask.Plain message) = message
request_of (ask.Install ext) = request.Install ext.text
request_of (ask.Finish sent) = request.Finish sent.call.caller.number sent.call.number sent.outcome sent.writes

-- a plain ask is neither an installation nor a Finish
abbrev pub IsPlain : Request → Type 0
IsPlain (request.Install text) = ⊥
IsPlain (request.Finish caller number outcome writes) = ⊥
IsPlain _ = Unit {0}

-- the call of a run that was sent is no longer parked
abbrev pub IsTaken : Session → Sent → Type 0
IsTaken session sent = call_in (parked_in session) sent.call.caller.number ≡ None

-- only a session with a tenant is asked to install
abbrev pub IsAsked : Session → Ask → Type 0
IsAsked session (ask.Plain message) = IsPlain message
IsAsked session (ask.Install ext) = (tenant : TenantId) × (tenant_of session.admitted ≡ Some tenant)
IsAsked session (ask.Finish sent) = IsTaken session sent

-- ---- Batches that run

-- a call of the batch that began, as its task: the extension that it names, and its tenant's rights
pub record HasBegun (session : Session) (grants : GrantsList) (journal : List Entry) (calls : List Asked) (begun_call : Begun) : Type 0 where
  pub tenant : TenantId
  pub admitted : tenant_of session.admitted ≡ Some tenant
  pub asked : Asked
  pub at : slice_get calls begun_call.place ≡ Some asked
  pub ext : ExtValue
  pub named : NamesExt journal (call_of tenant asked) ext
  pub task_is : begun_call.task ≡ begun (call_of tenant asked) ext (granted grants journal tenant)
  pub may : (state : State) → Stands session state → CanBegin tenant journal state (take begun_call.place calls) asked

abbrev pub ItemsSoFar : Phase → List Item → Type 0
ItemsSoFar phase.Open items = ⊥
ItemsSoFar (phase.Running so_far) items = so_far.items ≡ items
ItemsSoFar phase.Ended items = ⊥

-- The session waits for the ends of these calls: what it has for each of them so far is its item, with want of
-- memory in the place of an end that has not come.
pub record Awaits (session : Session) (terms : Terms) (journal : List Entry) (calls : List Asked) : Type 0 where
  pub tenant : TenantId
  pub admitted : tenant_of session.admitted ≡ Some tenant
  pub items : List Item
  pub so_far : ItemsSoFar session.phase items
  pub some : 1 ≤ length calls
  pub few : length calls ≤ 64
  pub refusals : AllByRecursion IsRefusal items
  pub args : AllByRecursion (λ asked. IsArguments asked.args) calls
  pub free : AreFree (parked_in session) calls items
  pub each : (state : State) → Stands session state → AreItems terms tenant journal state calls items

-- the end of a call that may begin holds by the journal
pub record EndHolds (session : Session) (terms : Terms) (journal : List Entry) (calls : List Asked) (one : CallEnd) : Type 0 where
  pub tenant : TenantId
  pub admitted : tenant_of session.admitted ≡ Some tenant
  pub asked : Asked
  pub at : slice_get calls one.place ≡ Some asked
  pub may : (state : State) → Stands session state → CanBegin tenant journal state (take one.place calls) asked
  pub holds : ItemHolds terms.grants terms.limit terms.conf.policy journal session.seen (call_of tenant asked) one.end

-- how many of these calls are handed back
abbrev pub is_handed_back : End → ℕ
is_handed_back (ended.Pushed load spent parked) = 1
is_handed_back _ = 0

abbrev pub handed_back : List CallEnd → ℕ
handed_back [] = 0
handed_back (one ∷ ends) = is_handed_back one.end + handed_back ends

-- a batch runs
abbrev pub IsInPhase : Phase → Type 0
IsInPhase phase.Open = ⊥
IsInPhase (phase.Running so_far) = Unit {0}
IsInPhase phase.Ended = ⊥

abbrev pub IsRunning : Session → Type 0
IsRunning session = IsInPhase session.phase

-- ---- What calls of a session promise

-- a Fault ends the session, and behind any other answer it may be given its next request
abbrev pub EndsBy : Answer → Session → Type 0
EndsBy (answer.Fault code) session = HasEnded session
EndsBy _ session = IsOpen session

-- a reply and reads are within their limits, and a call of a batch may end so
abbrev pub IsItemWithin : Item → Type 0
IsItemWithin (item.Committed n outcome) = ReplyFits outcome
IsItemWithin (item.Pushed load spent reads) = IsReadList reads × (weight_of reads ≤ MOST_PUSHED)
IsItemWithin (item.Foreign table) = ⊥
IsItemWithin (item.Shape code) = ⊥
IsItemWithin item.Lied = ⊥
IsItemWithin item.NotParked = ⊥
IsItemWithin _ = Unit {0}

-- from 1 to 64 items, each within its limits
pub record IsItemList (items : List Item) : Type 0 where
  pub some : 1 ≤ length items
  pub few : length items ≤ 64
  pub each : AllByRecursion IsItemWithin items

-- a parked call may end so
abbrev pub IsParkedItemWithin : Item → Type 0
IsParkedItemWithin (item.Committed n outcome) = ReplyFits outcome
IsParkedItemWithin (item.Shape code) = IsIn 1 3 code
IsParkedItemWithin given = EndsParked given

-- what the types of an answer's parts do not say of its limits
abbrev pub IsWithin : Answer → Type 0
IsWithin (answer.Welcome rights at) = Unit {0}
IsWithin (answer.Installed (installed.Rejected line code)) = IsIn 1 16 code
IsWithin (answer.Installed given) = Unit {0}
IsWithin (answer.Answers items) = IsItemList items
IsWithin (answer.Fetched (fetched.Found version read_at value)) = FitsOpt value
IsWithin (answer.Fetched given) = Unit {0}
IsWithin (answer.Finished given) = IsParkedItemWithin given
IsWithin (answer.PutDone given) = Unit {0}
IsWithin (answer.Text (texts.Text text)) = IsText text
IsWithin (answer.Text given) = Unit {0}
IsWithin (answer.Fault code) = IsIn 1 5 code

-- the session answers a request that was refused without the book
pub record Refused (old new : Session) (message : Request) (given : Answer) : Type 0 where
  pub explained : (grants : GrantsList) (limit : ℕ) (journal : List Entry) → Fits old journal grants
      → Explains (terms_of old.conf grants limit) journal (Stands old) new message given
  pub ends : EndsBy given new
  pub fits : (journal : List Entry) (grants : GrantsList) → Fits old journal grants → Fits new journal grants
  pub within : IsWithin given
  pub conf : new.conf ≡ old.conf

-- An ask stands for this request, and may be answered. The session stands for the states for which it stood,
-- with the ask on its way, and both fit what the session fitted.
pub record Asks (old new : Session) (message : Request) (given : Ask) : Type 0 where
  pub stands_for : request_of given ≡ message
  pub admitted : new.admitted ≡ old.admitted
  pub asked : IsAsked new given
  pub ready : IsOpen new
  pub still : (state : State) → Stands old state → StandsAsking new given state
  pub fits : (journal : List Entry) (grants : GrantsList) → Fits old journal grants → Fits new journal grants
  pub ask_fits : (journal : List Entry) (grants : GrantsList) → Fits old journal grants → AskFits new given journal grants
  pub conf : new.conf ≡ old.conf

-- the answer of a session
pub record Sends (terms : Terms) (journal : List Entry) (Stood : State → Type 0) (new : Session) (message : Request) (given : Answer) : Type 0 where
  pub explained : Explains terms journal Stood new message given
  pub ends : EndsBy given new
  pub within : IsWithin given

-- the session stands for the states for which it stood
abbrev pub StandsAsBefore : (State → Type 0) → Session → Type 0
StandsAsBefore Stood new = (state : State) → Stood state → Stands new state

-- calls of a batch began
pub record Runs (terms : Terms) (journal : List Entry) (Stood : State → Type 0) (new : Session) (message : Request) (begun_calls : List Begun) : Type 0 where
  pub calls : List Asked
  pub batch : message ≡ request.Batch calls
  pub awaits : Awaits new terms journal calls
  pub some : begun_calls ≢ []
  pub each : AllByRecursion (HasBegun new terms.grants journal calls) begun_calls
  pub places : PlacesRise 0 begun_calls
  pub waiting : BegunWait new begun_calls
  pub still : StandsAsBefore Stood new

-- the session ends without an answer, behind a Bye in turn
pub record Leaves (Stood : State → Type 0) (old new : Session) (message : Request) : Type 0 where
  pub bye : message ≡ request.Bye
  pub in_turn : is_in_turn (tenant_of old.admitted) message ≡ true
  pub ended : HasEnded new
  pub still : StandsAsBefore Stood new

-- what a plan does about a request
abbrev pub Does : Terms → List Entry → (State → Type 0) → Session → Session → Request → Plan → Type 0
Does terms journal Stood old new message (plan.Send given) =
    Sends terms journal Stood new message given × IsOpen new
Does terms journal Stood old new message (plan.Run begun_calls) = Runs terms journal Stood new message begun_calls.items
Does terms journal Stood old new message (plan.Stop (Some given)) =
    Sends terms journal Stood new message given × HasEnded new
Does terms journal Stood old new message (plan.Stop None) = Leaves Stood old new message

-- the number of the entry that an answer shows as this request's own
abbrev pub own_entry : Answer → Option ℕ
own_entry (answer.Installed (installed.Done n ext)) = Some n
own_entry (answer.PutDone (puts.Done n)) = Some n
own_entry (answer.Finished (item.Committed n outcome)) = Some n
own_entry _ = None

abbrev pub entry_of_plan : Plan → Option ℕ
entry_of_plan (plan.Send given) = own_entry given
entry_of_plan _ = None

-- the journal has one entry more, with this number, where one is shown, and else none
abbrev pub Adds : List Entry → List Entry → Option ℕ → Type 0
Adds journal later None = later ≡ []
Adds journal later (Some n) = (n ≡ length journal) × (length later ≡ 1)

-- the session, which stood for these states, answers a request over a book that stood for this journal
pub record PlannedFrom (Stood : State → Type 0) (old new : Session) (before after : BookValue) (journal : List Entry) (message : Request) (given : Plan) : Type 0 where
  pub later : List Entry
  pub stands : StandsFor after (journal ++ later)
  pub adds : Adds journal later (entry_of_plan given)
  pub fits : Fits new (journal ++ later) after.grants
  pub conf : new.conf ≡ old.conf
  pub does : Does (terms_over old before) (journal ++ later) Stood old new message given

-- and so where no ask is on its way
abbrev pub Planned : Session → Session → BookValue → BookValue → List Entry → Request → Plan → Type 0
Planned old new before after journal message given = PlannedFrom (Stands old) old new before after journal message given

-- an end is that the call at this place was committed under this number
pub record IsCommitted (ends : List CallEnd) (place n : ℕ) : Type 0 where
  pub at : ℕ
  pub one : CallEnd
  pub there : slice_get ends at ≡ Some one
  pub place_is : one.place ≡ place
  pub outcome : Outcome
  pub end_is : one.end ≡ ended.Settled (commit.Committed n outcome)

-- an item shows an entry only where its call was committed under that number
abbrev pub ShowsEnds : List CallEnd → Answer → Type 0
ShowsEnds ends (answer.Answers items) =
    (place n : ℕ) (outcome : Outcome) → slice_get items place ≡ Some (item.Committed n outcome) → IsCommitted ends place n
ShowsEnds ends _ = Unit {0}

-- a batch is answered once its calls have ended
pub record Finishes (terms : Terms) (journal : List Entry) (calls : List Asked) (ends : List CallEnd) (old new : Session) (given : Answer) : Type 0 where
  pub sends : Sends terms journal (Stands old) new (request.Batch calls) given
  pub fits : Fits new journal terms.grants
  pub conf : new.conf ≡ old.conf
  pub shows : ShowsEnds ends given
