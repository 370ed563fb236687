-- A batch is answered at once, or its calls run; and it is answered when they have ended.
use Rattle.std.specs.declared.alloc.Global.{Global}
use Rattle.std.specs.declared.vec.Vec.{Vec}
use Rattle.std.specs.Prelude.{slice_get}
use Rattle.std.specs.List.{AllByRecursion}
use Rattle.std.proofs.Common.{◌≡◌, ◌≢◌, ◌≤◌, ◌<◌, ◌+◌, ◌^◌, ℕ, List, [], ◌++◌, length, take, Some, refl, sym, subst, ap, ◌∙◌, arith, length-append, append-nil}
use Rattle.sp_base.specs.declared.calls.Asked.{Asked}
use Rattle.sp_base.specs.declared.numbers.TenantId.{TenantId}
use Rattle.sp_base.specs.declared.limits.TheConstants.{MOST_PARKED}
use Rattle.sp_base.specs.Limits.{IsArguments}
use Rattle.sp_base.specs.Spelling.{FitCalls, FitsAsked}
use Rattle.task.specs.Parking.{ParkedCall}
use Rattle.records.specs.GrantsList.{GrantsList}
use Rattle.journal.specs.declared.entry.Entry.{Entry}
use Rattle.book.specs.declared.ends.CallEnd.{CallEnd}
use Rattle.book.specs.Ends.{NamesExt}
use Rattle.book.specs.Standing.{BookValue, StandsFor}
use Rattle.wire.specs.declared.answers.Answer.TheVariants as answer
use Rattle.wire.specs.declared.items.Item.{Item}
use Rattle.wire.specs.declared.requests.Request.TheVariants as request
use Rattle.session.specs.declared.plan.Begun.{Begun}
use Rattle.session.specs.declared.plan.Plan.TheVariants as plan
use Rattle.session.specs.declared.session.Phase.{Phase}
use Rattle.session.specs.declared.session.Phase.TheVariants as phase
use Rattle.session.specs.declared.session.Session.{Session}
use Rattle.session.specs.Batches.{AreFree, AreItems, IsRefusal, call_of}
use Rattle.session.specs.Seeing.{AllCounted}
use Rattle.session.specs.Filling.{Fills}
use Rattle.session.specs.Standing.{Awaits, EndHolds, Finishes, Fits, HasBegun, IsOpen, ItemsSoFar, Planned, handed_back, room_in, tenant_of, terms_over}
use Rattle.session.specs.Starting.{AllStart}
use Rattle.session.specs.States.{Terms, seen_in_items}
use Rattle.session.specs.Waiting.{WaitsAt}
use Rattle.session.proofs.Filling.{Filling, batch-told, filled-all, filling-at-first, fills-long, fills-show, refusals-show}
use Rattle.session.proofs.Items.{all-map}
use Rattle.session.proofs.LongerSteps.{can-begin-longer, fits-longer, items-longer}
use Rattle.session.proofs.Planning.{fits-so, stands-nil, stands-still}

pub small-journal : (book : BookValue) (journal : List Entry) → StandsFor book journal → length journal < 2 ^ 64
small-journal book journal stands = omega (arith, stands.sound.few, stands.sound.most)

-- every call of the batch was refused
pub batch-sent : (old new : Session) (book : BookValue) (journal : List Entry) (tenant : TenantId) (calls : List Asked) (items : List Item) (begun_calls : List Begun)
    → IsOpen old → Fits old journal book.grants → tenant_of old.admitted ≡ Some tenant → StandsFor book journal → FitCalls calls
    → AllStart old book journal tenant calls items begun_calls → new ≡ record old { seen = new.seen }
    → (AllCounted items → new.seen ≡ seen_in_items old.seen items)
    → Planned old new book book journal (request.Batch calls) (plan.Send (answer.Answers items))
batch-sent old new book journal tenant calls items begun_calls ready fits admitted stands fit all new_is shown =
    let small : length journal < 2 ^ 64 = small-journal book journal stands in
    let longer : length (journal ++ []) ≡ length journal + 0 = length-append journal [] in
    let opened : IsOpen new = ap (λ (s : Session). s.phase) new_is ∙ ready in
    let own : new.admitted ≡ old.admitted = ap (λ (s : Session). s.admitted) new_is in
    let parked : new.parked ≡ old.parked = ap (λ (s : Session). s.parked) new_is in
    let fits_then : Fits old (journal ++ []) book.grants = fits-longer old journal [] book.grants fits in
    let filling = filling-at-first old (terms_over old book) tenant (journal ++ []) calls items fits_then
    (λ state was. items-longer (terms_over old book) tenant journal [] state calls items (all.each state was)) all.refusals all.free in
    let told = batch-told old new (terms_over old book) (journal ++ []) tenant calls items admitted (omega (arith, small, longer))
    fits_then fit.some fit.few (subst (λ (list : List ParkedCall). length list ≤ MOST_PARKED) (sym parked) fits.few)
    (subst (λ (list : List ParkedCall). Filling old (terms_over old book) tenant (journal ++ []) calls list items) (sym parked) filling)
    own opened shown in
    record {
      later = [];
      stands = stands-nil book journal stands;
      adds = refl;
      fits = told.fits;
      conf = ap (λ (s : Session). s.conf) new_is;
      does = (told.sends, opened);
    }

names-ext-nil : (journal : List Entry) (calls : List Asked) (one : Begun) (old new : Session) (grants : GrantsList)
    → new.admitted ≡ old.admitted → new.parked ≡ old.parked → new.seen ≡ old.seen
    → HasBegun old grants journal calls one → HasBegun new grants (journal ++ []) calls one
names-ext-nil journal calls one old new grants own parked seen has = record {
  tenant = has.tenant;
  admitted = ap tenant_of own ∙ has.admitted;
  asked = has.asked;
  at = has.at;
  ext = has.ext;
  named = subst (λ (j : List Entry). NamesExt j (call_of has.tenant has.asked) has.ext) (sym (append-nil journal)) has.named;
  task_is = has.task_is;
  may = λ state stands.
      can-begin-longer has.tenant journal [] state (take one.place calls) has.asked
      (has.may state (stands-still new old state stands (sym own) (sym parked) (sym seen)));
}

-- some calls of the batch run
pub batch-runs : (old new : Session) (book : BookValue) (journal : List Entry) (tenant : TenantId) (calls : List Asked) (items : Vec Item Global) (begun_calls : Vec Begun Global)
    → Fits old journal book.grants → tenant_of old.admitted ≡ Some tenant → StandsFor book journal → FitCalls calls
    → AllStart old book journal tenant calls items.items begun_calls.items → begun_calls.items ≢ [] → new ≡ record old { phase = phase.Running items }
    → Planned old new book book journal (request.Batch calls) (plan.Run begun_calls)
batch-runs old new book journal tenant calls items begun_calls fits admitted stands fit all some new_is =
    let own : new.admitted ≡ old.admitted = ap (λ (s : Session). s.admitted) new_is in
    let parked : new.parked ≡ old.parked = ap (λ (s : Session). s.parked) new_is in
    let seen : new.seen ≡ old.seen = ap (λ (s : Session). s.seen) new_is in
    record {
      later = [];
      stands = stands-nil book journal stands;
      adds = refl;
      fits = fits-so old new journal [] book.grants fits own parked (omega (arith, seen, fits.seen, length-append journal []));
      conf = ap (λ (s : Session). s.conf) new_is;
      does = record {
        calls = calls;
        batch = refl;
        awaits = record {
          tenant = tenant;
          admitted = ap tenant_of own ∙ admitted;
          items = items.items;
          so_far = subst (λ (p : Phase). ItemsSoFar p items.items) (sym (ap (λ (s : Session). s.phase) new_is)) refl;
          some = fit.some;
          few = fit.few;
          refusals = all.refusals;
          args = all-map FitsAsked (λ (asked : Asked). IsArguments asked.args) calls (λ asked fits_asked. fits_asked.args) fit.each;
          free = subst (λ (list : List ParkedCall). AreFree list calls items.items) (sym parked) all.free;
          each = λ state was. items-longer (terms_over old book) tenant journal [] state calls items.items
              (all.each state (stands-still new old state was (sym own) (sym parked) (sym seen)));
        };
        some = some;
        each = all-map (HasBegun old book.grants journal calls) (HasBegun new book.grants (journal ++ []) calls) begun_calls.items
            (λ one has. names-ext-nil journal calls one old new book.grants own parked seen has) all.have_begun;
        places = all.places;
        waiting = all-map (λ (one : Begun). WaitsAt (phase.Running items) one.place) (λ (one : Begun). WaitsAt new.phase one.place) begun_calls.items
            (λ one waits. subst (λ (p : Phase). WaitsAt p one.place) (sym (ap (λ (s : Session). s.phase) new_is)) waits) all.untold;
        still = λ state was. stands-still old new state was own parked seen;
      };
    }

one-so-far : (now : Phase) (items others : List Item) → ItemsSoFar now items → ItemsSoFar now others → items ≡ others
one-so-far phase.Open items others is are = absurd is
one-so-far (phase.Running so_far) items others is are = sym is ∙ are
one-so-far phase.Ended items others is are = absurd is

-- the phase, the parked calls and what was seen, together
pub batch-over : (old new : Session) (between : List ParkedCall) (now : Phase) → new ≡ record old { phase = now; parked = between; seen = new.seen }
    → now ≡ phase.Open → (between ≡ new.parked) × (new ≡ record old { phase = phase.Open; parked = new.parked; seen = new.seen })
batch-over old new between now new_is opened =
    let parked : between ≡ new.parked = sym (ap (λ (s : Session). s.parked) new_is) in (
      parked,
      new_is ∙ ap (λ (p : Phase). let s : Session = record old { phase = p; parked = between; seen = new.seen } in s) opened
          ∙ ap (λ (l : List ParkedCall). let s : Session = record old { phase = phase.Open; parked = l; seen = new.seen } in s) parked,
    )

-- the calls of the batch have ended
pub batch-finishes : (old new : Session) (terms : Terms) (journal : List Entry) (calls : List Asked) (items told : List Item) (ends : List CallEnd)
    → length journal < 2 ^ 64 → Fits old journal terms.grants → Awaits old terms journal calls → ItemsSoFar old.phase items
    → AllByRecursion (EndHolds old terms journal calls) ends → handed_back ends ≤ room_in old → Fills old.parked items ends new.parked told
    → new ≡ record old { phase = phase.Open; parked = new.parked; seen = new.seen } → (AllCounted told → new.seen ≡ seen_in_items old.seen told)
    → Finishes terms journal calls ends old new (answer.Answers told)
batch-finishes old new terms journal calls items told ends small fits awaits so_far hold room fills new_is shown =
    let own : new.admitted ≡ old.admitted = ap (λ (s : Session). s.admitted) new_is in
    let opened : IsOpen new = ap (λ (s : Session). s.phase) new_is in
    let same : awaits.items ≡ items = one-so-far old.phase awaits.items items awaits.so_far so_far in
    let refusals : AllByRecursion IsRefusal items = subst (λ (list : List Item). AllByRecursion IsRefusal list) same awaits.refusals in
    let first = filling-at-first old terms awaits.tenant journal calls items fits
    (λ state was. subst (λ (list : List Item). AreItems terms awaits.tenant journal state calls list) same (awaits.each state was)) refusals
    (subst (λ (list : List Item). AreFree old.parked calls list) same awaits.free) in
    let filling = filled-all old terms awaits.tenant journal calls old.parked new.parked items told ends awaits.admitted fits awaits.args hold fills first in
    let long = fills-long old.parked new.parked items told ends fills in
    let done = batch-told old new terms journal awaits.tenant calls told awaits.admitted small fits awaits.some awaits.few
    (let few = fits.few in omega (arith, long, few, room)) filling own opened shown in
    record {
      sends = done.sends;
      fits = done.fits;
      conf = ap (λ (s : Session). s.conf) new_is;
      shows = fills-show ends 0 old.parked new.parked items told ends
          (λ k one found. subst (λ (m : ℕ). slice_get ends m ≡ Some one) (let e : k ≡ 0 + k = omega arith in e) found) fills (refusals-show ends items refusals);
    }
