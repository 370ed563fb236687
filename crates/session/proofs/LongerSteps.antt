-- What a journal says of a session, every longer one says too.
use Rattle.std.specs.List.{AllByRecursion}
use Rattle.std.proofs.lemmas.List.{take-append-le}
use Rattle.std.specs.Prelude.{◌==◌, Bool, true, false, slice_get, if◌then◌else◌}
use Rattle.std.proofs.Common.{◌≡◌, ◌≤◌, ℕ, List, [], ◌∷◌, ◌++◌, length, take, Option, Some, None, refl, sym, subst, ap, ◌∙◌, arith, length-append}
use Rattle.sp_base.specs.declared.calls.Asked.{Asked}
use Rattle.sp_base.specs.declared.calls.Call.{Call}
use Rattle.sp_base.specs.declared.numbers.TableId.{TableId}
use Rattle.sp_base.specs.declared.numbers.TenantId.{TenantId}
use Rattle.sp_base.specs.declared.outcomes.Outcome.{Outcome}
use Rattle.sp_base.specs.declared.reads.ReadItem.{ReadItem}
use Rattle.sp_base.specs.declared.writes.Write.{Write}
use Rattle.ext_mean.specs.declared.tree.Program.{Program}
use Rattle.ext_mean.specs.Views.{place_of}
use Rattle.records.specs.GrantsList.{GrantsList, RightsList}
use Rattle.rw_set.specs.declared.sent.Sent.{Sent}
use Rattle.task.specs.Extensions.{ExtValue}
use Rattle.task.specs.Parking.{ParkedCall}
use Rattle.journal.specs.declared.entry.Entry.{Entry}
use Rattle.journal.specs.declared.entry.Entry.TheVariants as entry
use Rattle.journal.specs.Folds.{tables_of, texts_of, version_of}
use Rattle.journal.specs.Legal.{Names}
use Rattle.journal.specs.Reads.{IsHeld}
use Rattle.book.specs.declared.answers.Commit.{Commit}
use Rattle.book.specs.declared.answers.Install.{Install}
use Rattle.book.specs.declared.answers.Install.TheVariants as install
use Rattle.book.specs.declared.answers.Put.{Put}
use Rattle.book.specs.declared.answers.Put.TheVariants as put
use Rattle.book.specs.Ends.{NamesExt, moment_of}
use Rattle.book.specs.Verdict.{install_answer, item_at, put_answer, verdict}
use Rattle.wire.specs.declared.answers.Answer.{Answer}
use Rattle.wire.specs.declared.answers.FetchAnswer.{FetchAnswer}
use Rattle.wire.specs.declared.answers.TextAnswer.{TextAnswer}
use Rattle.wire.specs.declared.items.Item.{Item}
use Rattle.wire.specs.declared.items.Item.TheVariants as item
use Rattle.wire.specs.declared.requests.Request.{Request}
use Rattle.session.specs.declared.session.Session.{Session}
use Rattle.session.specs.Batches as batches
use Rattle.session.specs.Batches.{AllLeave, AreItems, CanBegin, IsItemOf, IsParked, Leaves, call_of}
use Rattle.session.specs.declared.session.Admitted.{Admitted}
use Rattle.session.specs.declared.plan.Ask.{Ask}
use Rattle.session.specs.declared.plan.Ask.TheVariants as ask
use Rattle.session.specs.Sending.{SentFits}
use Rattle.session.specs.Standing.{AskFits, Awaits, Fits, HasOwnRights, IsParkedIn, ParkedFit, tenant_of}
use Rattle.session.specs.States.{Kept, State, Terms}
use Rattle.session.specs.Steps as steps
use Rattle.session.specs.Steps.{InstallStands, IsFetchAnswer, IsFinishAnswer, IsInstallAnswer, IsPutAnswer, IsSentVerdict, IsTextAnswer, PutStands, Step, sent_entry}
use Rattle.session.proofs.Longer.{before-longer, found-longer, item-longer, shown-longer, stands-longer}

-- a fact about the journal up to a moment
moved : (Holds : List Entry → Type 0) (journal later : List Entry) (moment : ℕ) → moment ≤ length journal
    → Holds (take moment journal) → Holds (take moment (journal ++ later))
moved Holds journal later moment by holds = subst Holds (before-longer journal later moment by) holds

-- ---- Batches

texts-longer-by : (same : Bool) (text : List ℕ) (before behind last : List (List ℕ)) → behind ≡ before ++ last
    → (if same then text ∷ behind else behind) ≡ (if same then text ∷ before else before) ++ last
texts-longer-by true text before behind last is = ap (λ (texts : List (List ℕ)). text ∷ texts) is
texts-longer-by false text before behind last is = is

-- texts of a tenant stay, in front
pub texts-longer : (journal later : List Entry) (tenant : TenantId)
    → texts_of (journal ++ later) tenant ≡ texts_of journal tenant ++ texts_of later tenant
texts-longer [] later tenant = refl
texts-longer (entry.Invoke call outcome writes reads home ∷ journal) later tenant = texts-longer journal later tenant
texts-longer (entry.Put putter table key value ∷ journal) later tenant = texts-longer journal later tenant
texts-longer (entry.Install installer text ∷ journal) later tenant =
    texts-longer-by (installer.0 == tenant.0) text (texts_of journal tenant) (texts_of (journal ++ later) tenant)
    (texts_of later tenant) (texts-longer journal later tenant)

pub can-begin-longer : (tenant : TenantId) (journal later : List Entry) (state : State) (earlier : List Asked) (asked : Asked)
    → CanBegin tenant journal state earlier asked → CanBegin tenant (journal ++ later) state earlier asked
can-begin-longer tenant journal later state earlier asked can = record {
  alone = can.alone;
  budget = can.budget;
  there = omega (arith, can.there, ap length (texts-longer journal later tenant), length-append (texts_of journal tenant) (texts_of later tenant));
}

item-of-longer : (terms : Terms) (tenant : TenantId) (journal later : List Entry) (state : State) (earlier : List Asked) (asked : Asked) (given : Item)
    → IsItemOf terms tenant journal state earlier asked given → IsItemOf terms tenant (journal ++ later) state earlier asked given
item-of-longer terms tenant journal later state earlier asked given (batches.repeated among) = batches.repeated among
item-of-longer terms tenant journal later state earlier asked given (batches.busy kept first found) = batches.busy kept first found
item-of-longer terms tenant journal later state earlier asked given (batches.bad_budget alone bad) = batches.bad_budget alone bad
item-of-longer terms tenant journal later state earlier asked given (batches.no_extension count moment alone budget shown is past) =
    batches.no_extension count moment alone budget (shown-longer journal later state.seen moment shown)
    (moved (λ (before : List Entry). count ≡ length (texts_of before tenant)) journal later moment shown.by_now is) past
item-of-longer terms tenant journal later state earlier asked given (batches.ends end can holds) =
    batches.ends end (can-begin-longer tenant journal later state earlier asked can)
    (item-longer terms.grants terms.limit terms.conf.policy journal later state.seen (call_of tenant asked) end holds)
item-of-longer terms tenant journal later state earlier asked given batches.no_memory = batches.no_memory

pub items-longer : (terms : Terms) (tenant : TenantId) (journal later : List Entry) (state : State) (calls : List Asked) (items : List Item)
    → AreItems terms tenant journal state calls items → AreItems terms tenant (journal ++ later) state calls items
items-longer terms tenant journal later state calls items are = record {
  many = are.many;
  each = λ place given found.
      let one = are.each place given found in
      record {
        asked = one.asked;
        at = one.at;
        is = item-of-longer terms tenant journal later state (take place calls) one.asked given one.is;
      };
}

parked-longer : (journal later : List Entry) (tenant : TenantId) (kept : List Kept) (asked : Asked) (reads : List ReadItem) (after : List Kept)
    → IsParked journal tenant kept asked reads after → IsParked (journal ++ later) tenant kept asked reads after
parked-longer journal later tenant kept asked reads after is = record {
  moment = is.moment;
  by_now = omega (arith, is.by_now, length-append journal later);
  ext = is.ext;
  named = moved (λ (before : List Entry). NamesExt before (call_of tenant asked) is.ext) journal later is.moment is.by_now is.named;
  parked = is.parked;
  few = is.few;
}

leaves-longer : (journal later : List Entry) (tenant : TenantId) (kept : List Kept) (asked : Asked) (given : Item) (after : List Kept)
    → Leaves journal tenant kept asked given after → Leaves (journal ++ later) tenant kept asked given after
leaves-longer journal later tenant kept asked (item.Pushed load spent reads) after leaves =
    parked-longer journal later tenant kept asked reads after leaves
leaves-longer journal later tenant kept asked (item.Committed n outcome) after leaves = leaves
leaves-longer journal later tenant kept asked (item.Stale last at) after leaves = leaves
leaves-longer journal later tenant kept asked (item.Conflict table key read read_at now now_at) after leaves = leaves
leaves-longer journal later tenant kept asked (item.Full at) after leaves = leaves
leaves-longer journal later tenant kept asked (item.Busy number) after leaves = leaves
leaves-longer journal later tenant kept asked item.Repeated after leaves = leaves
leaves-longer journal later tenant kept asked (item.NoExtension count at) after leaves = leaves
leaves-longer journal later tenant kept asked item.BadBudget after leaves = leaves
leaves-longer journal later tenant kept asked item.Memory after leaves = leaves
leaves-longer journal later tenant kept asked (item.Foreign table) after leaves = leaves
leaves-longer journal later tenant kept asked (item.Shape code) after leaves = leaves
leaves-longer journal later tenant kept asked item.Lied after leaves = leaves
leaves-longer journal later tenant kept asked item.NotParked after leaves = leaves

all-leave-longer : (journal later : List Entry) (tenant : TenantId) (kept : List Kept) (calls : List Asked) (items : List Item) (after : List Kept)
    → AllLeave journal tenant kept calls items after → AllLeave (journal ++ later) tenant kept calls items after
all-leave-longer journal later tenant kept [] [] after leave = leave
all-leave-longer journal later tenant kept [] (one ∷ items) after leave = leave
all-leave-longer journal later tenant kept (asked ∷ calls) [] after leave = leave
all-leave-longer journal later tenant kept (asked ∷ calls) (one ∷ items) after leave = (
  leave.0,
  leaves-longer journal later tenant kept asked one leave.0 leave.1,
  all-leave-longer journal later tenant leave.0 calls items after leave.2,
)

-- ---- Puts, installations and texts

put-stands-longer : (journal later : List Entry) (own : Entry) (given : Put) → PutStands journal own given → PutStands (journal ++ later) own given
put-stands-longer journal later own (put.Done n) stands = found-longer journal later n own stands
put-stands-longer journal later own put.Denied stands = tt
put-stands-longer journal later own (put.Full at) stands = tt
put-stands-longer journal later own put.Memory stands = tt

put-longer : (terms : Terms) (tenant : TenantId) (journal later : List Entry) (seen : ℕ) (table : TableId) (key value : List ℕ) (given : Put)
    → IsPutAnswer terms tenant journal seen table key value given → IsPutAnswer terms tenant (journal ++ later) seen table key value given
put-longer terms tenant journal later seen table key value given is = record {
  moment = is.moment;
  shown = shown-longer journal later seen is.moment is.shown;
  told = moved (λ (before : List Entry). given ≡ put_answer terms.grants terms.limit before tenant table (entry.Put tenant table key value))
      journal later is.moment is.shown.by_now is.told;
  stands = put-stands-longer journal later (entry.Put tenant table key value) given is.stands;
}

install-stands-longer : (journal later : List Entry) (own : Entry) (given : Install) → InstallStands journal own given → InstallStands (journal ++ later) own given
install-stands-longer journal later own (install.Installed n ext) stands = found-longer journal later n own stands
install-stands-longer journal later own (install.Full at) stands = tt
install-stands-longer journal later own install.Memory stands = tt

install-longer : (terms : Terms) (tenant : TenantId) (journal later : List Entry) (seen : ℕ) (text : List ℕ) (given : Install)
    → IsInstallAnswer terms tenant journal seen text given → IsInstallAnswer terms tenant (journal ++ later) seen text given
install-longer terms tenant journal later seen text given is = record {
  program = is.program;
  accepted = is.accepted;
  moment = is.moment;
  shown = shown-longer journal later seen is.moment is.shown;
  told = moved (λ (before : List Entry). given ≡ install_answer terms.limit before tenant (entry.Install tenant text))
      journal later is.moment is.shown.by_now is.told;
  stands = install-stands-longer journal later (entry.Install tenant text) given is.stands;
}

pub text-longer : (tenant : TenantId) (journal later : List Entry) (seen number : ℕ) (given : TextAnswer)
    → IsTextAnswer tenant journal seen number given → IsTextAnswer tenant (journal ++ later) seen number given
text-longer tenant journal later seen number given (steps.text_found text moment shown is) =
    steps.text_found text moment (shown-longer journal later seen moment shown)
    (moved (λ (before : List Entry). slice_get (texts_of before tenant) number ≡ Some text) journal later moment shown.by_now is)
text-longer tenant journal later seen number given (steps.text_absent count moment shown is past) =
    steps.text_absent count moment (shown-longer journal later seen moment shown)
    (moved (λ (before : List Entry). count ≡ length (texts_of before tenant)) journal later moment shown.by_now is) past
text-longer tenant journal later seen number given steps.no_text_memory = steps.no_text_memory

-- ---- Parked calls

fetch-longer : (terms : Terms) (tenant : TenantId) (journal later : List Entry) (state : State) (caller number : ℕ) (table : TableId) (key : List ℕ) (given : FetchAnswer) (left : List Kept)
    → IsFetchAnswer terms tenant journal state caller number table key given left
    → IsFetchAnswer terms tenant (journal ++ later) state caller number table key given left
fetch-longer terms tenant journal later state caller number table key given left (steps.not_fetched l gone) = steps.not_fetched l gone
fetch-longer terms tenant journal later state caller number table key given left (steps.fetched_again kept read call is) = steps.fetched_again kept read call is
fetch-longer terms tenant journal later state caller number table key given left (steps.fetched_now kept moment read new shown readable few is) =
    steps.fetched_now kept moment read new (shown-longer journal later state.seen moment shown) readable few
    (moved (λ (before : List Entry). read ≡ item_at before table key) journal later moment shown.by_now is)
fetch-longer terms tenant journal later state caller number table key given left (steps.fetch_denied kept moment new shown closed) =
    steps.fetch_denied kept moment new (shown-longer journal later state.seen moment shown) closed
fetch-longer terms tenant journal later state caller number table key given left (steps.fetch_many kept moment new shown readable full) =
    steps.fetch_many kept moment new (shown-longer journal later state.seen moment shown) readable full
fetch-longer terms tenant journal later state caller number table key given left steps.no_fetch_memory = steps.no_fetch_memory

sent-longer : (terms : Terms) (journal later : List Entry) (seen : ℕ) (kept : Kept) (outcome : Outcome) (writes : List Write) (given : Commit)
    → IsSentVerdict terms journal seen kept outcome writes given → IsSentVerdict terms (journal ++ later) seen kept outcome writes given
sent-longer terms journal later seen kept outcome writes given is = record {
  shown = shown-longer journal later seen (moment_of given) is.shown;
  told = moved (λ (before : List Entry). given ≡ verdict terms.limit before kept.parked.call (sent_entry kept outcome writes) outcome kept.parked.reads)
      journal later (moment_of given) is.shown.by_now is.told;
  stands = stands-longer journal later (sent_entry kept outcome writes) given is.stands;
}

finish-longer : (terms : Terms) (tenant : TenantId) (journal later : List Entry) (state : State) (caller number : ℕ) (outcome : Outcome) (writes : List Write) (given : Item) (left : List Kept)
    → IsFinishAnswer terms tenant journal state caller number outcome writes given left
    → IsFinishAnswer terms tenant (journal ++ later) state caller number outcome writes given left
finish-longer terms tenant journal later state caller number outcome writes given left (steps.not_finished l gone) = steps.not_finished l gone
finish-longer terms tenant journal later state caller number outcome writes given left (steps.refused_so kept moment why call shown is) =
    steps.refused_so kept moment why call (shown-longer journal later state.seen moment shown) is
finish-longer terms tenant journal later state caller number outcome writes given left (steps.judged kept moment how call shown none is) =
    steps.judged kept moment how call (shown-longer journal later state.seen moment shown) none
    (sent-longer terms journal later state.seen kept outcome writes how is)
finish-longer terms tenant journal later state caller number outcome writes given left (steps.no_finish_memory kept call) = steps.no_finish_memory kept call

-- ---- Steps

pub step-longer : (terms : Terms) (journal later : List Entry) (state : State) (message : Request) (given : Answer) (next : State)
    → Step terms journal state message given next → Step terms (journal ++ later) state message given next
step-longer terms journal later state message given next (steps.welcomed tenant secret moment rights first known shown own) =
    steps.welcomed tenant secret moment rights first known (shown-longer journal later state.seen moment shown) own
step-longer terms journal later state message given next (steps.wrong_key tenant secret first unknown) = steps.wrong_key tenant secret first unknown
step-longer terms journal later state message given next (steps.out_of_turn heard out) = steps.out_of_turn heard out
step-longer terms journal later state message given next (steps.no_memory heard) = steps.no_memory heard
step-longer terms journal later state message given next (steps.installs tenant text how own is) =
    steps.installs tenant text how own (install-longer terms tenant journal later state.seen text how is)
step-longer terms journal later state message given next (steps.refuses tenant text line why own is) = steps.refuses tenant text line why own is
step-longer terms journal later state message given next (steps.installs_nothing tenant text own) = steps.installs_nothing tenant text own
step-longer terms journal later state message given next (steps.puts_one tenant table key value how own is) =
    steps.puts_one tenant table key value how own (put-longer terms tenant journal later state.seen table key value how is)
step-longer terms journal later state message given next (steps.puts_nothing tenant table key value own) = steps.puts_nothing tenant table key value own
step-longer terms journal later state message given next (steps.tells_text tenant number how own is) =
    steps.tells_text tenant number how own (text-longer tenant journal later state.seen number how is)
step-longer terms journal later state message given next (steps.fetches tenant caller number table key how left own is) =
    steps.fetches tenant caller number table key how left own
    (fetch-longer terms tenant journal later state caller number table key how left is)
step-longer terms journal later state message given next (steps.finishes tenant caller number outcome writes how left own is) =
    steps.finishes tenant caller number outcome writes how left own
    (finish-longer terms tenant journal later state caller number outcome writes how left is)
step-longer terms journal later state message given next (steps.answers_batch tenant calls items left own are leave) =
    steps.answers_batch tenant calls items left own (items-longer terms tenant journal later state calls items are)
    (all-leave-longer journal later tenant state.kept calls items left leave)

-- ---- Sessions

pub rights-longer : (own : Option Admitted) (journal later : List Entry) (grants : GrantsList) → HasOwnRights own journal grants → HasOwnRights own (journal ++ later) grants
rights-longer None journal later grants has = tt
rights-longer (Some admitted) journal later grants has = has

-- a text that is there stays at its number
text-there : (journal later : List Entry) (tenant : TenantId) (number : ℕ) (text : List ℕ) → slice_get (texts_of journal tenant) number ≡ Some text
    → slice_get (texts_of (journal ++ later) tenant) number ≡ Some text
text-there journal later tenant number text found =
    ap (λ (texts : List (List ℕ)). slice_get texts number) (texts-longer journal later tenant)
    ∙ found-longer (texts_of journal tenant) (texts_of later tenant) number text found

pub names-ext-longer : (journal later : List Entry) (call : Call) (ext : ExtValue) → NamesExt journal call ext → NamesExt (journal ++ later) call ext
names-ext-longer journal later call ext named = record {
  found = text-there journal later call.caller.tenant call.ext.0 ext.text named.found;
  accepted = named.accepted;
}

pub names-longer : (journal later : List Entry) (call : Call) (program : Program) → Names journal call program → Names (journal ++ later) call program
names-longer journal later call program names = record {
  text = names.text;
  found = text-there journal later call.caller.tenant call.ext.0 names.text names.found;
  spelled = names.spelled;
}

held-longer : (journal later : List Entry) (read : ReadItem) → IsHeld journal read → IsHeld (journal ++ later) read
held-longer journal later read held =
    let same : take read.read_at (journal ++ later) ≡ take read.read_at journal = take-append-le read.read_at journal later held.by_then in
    record {
      by_then = omega (arith, held.by_then, length-append journal later);
      version = held.version ∙ ap (λ (before : List Entry). version_of before (place_of read)) (sym same);
      value = held.value ∙ ap (λ (before : List Entry). tables_of before (place_of read)) (sym same);
    }

pub all-held-longer : (journal later : List Entry) (reads : List ReadItem) → AllByRecursion (IsHeld journal) reads
    → AllByRecursion (IsHeld (journal ++ later)) reads
all-held-longer journal later [] held = tt
all-held-longer journal later (read ∷ reads) held = (held-longer journal later read held.0, all-held-longer journal later reads held.1)

pub parked-in-longer : (tenant : TenantId) (rights : RightsList) (journal later : List Entry) (parked : ParkedCall)
    → IsParkedIn tenant rights journal parked → IsParkedIn tenant rights (journal ++ later) parked
parked-in-longer tenant rights journal later parked is = record {
  own = is.own;
  args = is.args;
  budget = is.budget;
  named = names-ext-longer journal later parked.call parked.ext is.named;
  held = all-held-longer journal later parked.reads is.held;
  readable = is.readable;
  paid = is.paid;
}

pub parked-fit-longer : (own : Option Admitted) (journal later : List Entry) (parked : List ParkedCall)
    → ParkedFit own journal parked → ParkedFit own (journal ++ later) parked
parked-fit-longer None journal later parked fit = fit
parked-fit-longer (Some admitted) journal later parked fit = λ caller one found.
    parked-in-longer admitted.tenant admitted.rights journal later one (fit caller one found)

pub fits-longer : (session : Session) (journal later : List Entry) (grants : GrantsList)
    → Fits session journal grants → Fits session (journal ++ later) grants
fits-longer session journal later grants fits = record {
  rights = rights-longer session.admitted journal later grants fits.rights;
  seen = omega (arith, fits.seen, length-append journal later);
  each = fits.each;
  few = fits.few;
  parked = parked-fit-longer session.admitted journal later session.parked fits.parked;
}

-- a run that may be committed may be committed later
sent-fits-longer : (tenant : Option TenantId) (audit : Bool) (sent : Sent) (journal later : List Entry) (grants : GrantsList)
    → SentFits tenant audit sent journal grants → SentFits tenant audit sent (journal ++ later) grants
sent-fits-longer tenant audit sent journal later grants fits = record {
  own = fits.own;
  args = fits.args;
  ran = record {
    program = fits.ran.program;
    held = all-held-longer journal later sent.reads fits.ran.held;
    named = names-longer journal later sent.call fits.ran.program fits.ran.named;
    within = record { reading = fits.ran.within.reading; writing = fits.ran.within.writing };
    true_to = fits.ran.true_to;
  };
}

pub asks-longer : (session : Session) (given : Ask) (journal later : List Entry) (grants : GrantsList)
    → AskFits session given journal grants → AskFits session given (journal ++ later) grants
asks-longer session (ask.Plain message) journal later grants fits = tt
asks-longer session (ask.Install ext) journal later grants fits = tt
asks-longer session (ask.Finish sent) journal later grants fits =
    sent-fits-longer (tenant_of session.admitted) session.conf.audit sent journal later grants fits

pub waits-longer : (session : Session) (terms : Terms) (journal later : List Entry) (calls : List Asked)
    → Awaits session terms journal calls → Awaits session terms (journal ++ later) calls
waits-longer session terms journal later calls awaits = record {
  tenant = awaits.tenant;
  admitted = awaits.admitted;
  items = awaits.items;
  so_far = awaits.so_far;
  some = awaits.some;
  few = awaits.few;
  refusals = awaits.refusals;
  args = awaits.args;
  free = awaits.free;
  each = λ state stands. items-longer terms awaits.tenant journal later state calls awaits.items (awaits.each state stands);
}
