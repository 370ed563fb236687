-- The calls of a batch begin, one after another.
use Rattle.std.specs.Prelude.{◌==◌, ◌||◌, Bool, true, false, IsTrue, slice_get, map}
use Rattle.std.specs.List.{AllByRecursion, list_any}
use Rattle.std.proofs.Common.{◌≡◌, ◌≤◌, ℕ, zero, suc, List, [], ◌∷◌, ◌++◌, length, take, Option, Some, None, refl, sym, subst, ap, ◌∙◌, inl, inr, arith, length-append}
use Rattle.std.proofs.Math.Seq.{take-append_seam, take-length}
use Rattle.std.proofs.lemmas.List.{take-append-le}
use Rattle.std.proofs.lemmas.Option.{slice_get_within}
use Rattle.sp_base.specs.declared.calls.Asked.{Asked}
use Rattle.sp_base.specs.declared.numbers.TenantId.{TenantId}
use Rattle.ext_check.specs.Checking.{IsAccepted}
use Rattle.journal.specs.declared.entry.Entry.{Entry}
use Rattle.journal.specs.Folds.{texts_of}
use Rattle.journal.specs.Granted.{granted}
use Rattle.journal.proofs.Growing.{slice_get-append_one}
use Rattle.journal.proofs.Versions.{slice_get-append_seam}
use Rattle.task.specs.Extensions.{ExtValue}
use Rattle.task.specs.Parking.{ParkedCall}
use Rattle.task.specs.Turning.{Live, begun}
use Rattle.book.specs.Ends.{IsShown}
use Rattle.book.specs.Standing.{BookValue}
use Rattle.wire.specs.declared.items.Item.{Item}
use Rattle.wire.specs.declared.items.Item.TheVariants as item
use Rattle.session.specs.declared.batch.Start.{Start}
use Rattle.session.specs.declared.batch.Start.TheVariants as start
use Rattle.session.specs.declared.plan.Begun.{Begun}
use Rattle.session.specs.declared.session.Session.{Session}
use Rattle.session.specs.Batches as batches
use Rattle.session.specs.Batches.{AreFree, AreItems, CanBegin, IsAlone, IsFree, IsFreeAt, IsFreeBut, IsItemAt, IsItemOf, IsRefusal, IsUnparked, call_of, is_among, is_bad_budget}
use Rattle.session.specs.Keeping.{call_in}
use Rattle.session.specs.Standing.{Fits, HasBegun, Stands, tenant_of, terms_over}
use Rattle.session.specs.Starting.{AllStart, Starts, begun_with, caller_of, item_so_far}
use Rattle.session.specs.States.{Kept, State, kept_of}
use Rattle.session.proofs.Keeping.{free-of, kept-there}
use Rattle.session.proofs.Longer.{found-longer}
use Rattle.session.proofs.Telling.{now-shown}
use Rattle.session.proofs.Planning.{seen-by}
use Rattle.session.proofs.Waiting.{all-push, begun-rise, begun-untold}

-- ---- One call

pub among-callers : (before : List Asked) (caller : ℕ) → list_any (λ other. other == caller) (map caller_of before) ≡ is_among before caller
among-callers [] caller = refl
among-callers (asked ∷ before) caller = ap (λ (rest : Bool). (asked.caller == caller) || rest) (among-callers before caller)

-- whether a caller was found among the earlier ones
pub among-is : (earlier : List ℕ) (before : List Asked) (caller : ℕ) (found is : Bool) → earlier ≡ map caller_of before
    → found ≡ list_any (λ other. other == caller) earlier → found ≡ is → is_among before caller ≡ is
among-is earlier before caller found is callers value same =
    sym (among-callers before caller) ∙ ap (λ (list : List ℕ). list_any (λ other. other == caller) list) (sym callers) ∙ sym value ∙ same

pub callers-more : (calls : List Asked) (asked : Asked) → map caller_of (calls ++ asked ∷ []) ≡ map caller_of calls ++ asked.caller ∷ []
callers-more [] asked = refl
callers-more (first ∷ calls) asked = ap (λ (rest : List ℕ). first.caller ∷ rest) (callers-more calls asked)

is-free : (found : Option Kept) → ((one : Kept) → found ≡ Some one → IsTrue one.doubtful) → IsFree found
is-free None doubtful = tt
is-free (Some one) doubtful = doubtful one refl

alone : (session : Session) (state : State) (before : List Asked) (asked : Asked) → Stands session state
    → IsUnparked session.parked before asked → IsAlone state before asked
alone session state before asked stands unparked = record {
  first = unparked.first;
  free = is-free (kept_of state.kept asked.caller) (free-of session.parked state.kept asked.caller stands.kept unparked.free);
}

pub unparked-so : (parked : List ParkedCall) (before : List Asked) (asked : Asked) → is_among before asked.caller ≡ false → call_in parked asked.caller ≡ None
    → IsUnparked parked before asked
unparked-so parked before asked first free = record { first = first; free = free }

pub starts-repeated : (session : Session) (book : BookValue) (journal : List Entry) (tenant : TenantId) (before : List Asked) (asked : Asked)
    → is_among before asked.caller ≡ true → Starts session book journal tenant before asked (start.Refused item.Repeated)
starts-repeated session book journal tenant before asked among = record {
  is = λ state stands. batches.repeated among;
  refusal = tt;
  free = tt;
}

pub starts-busy : (session : Session) (book : BookValue) (journal : List Entry) (tenant : TenantId) (before : List Asked) (asked : Asked) (one : ParkedCall)
    → is_among before asked.caller ≡ false → call_in session.parked asked.caller ≡ Some one
    → Starts session book journal tenant before asked (start.Refused (item.Busy one.call.number))
starts-busy session book journal tenant before asked one first found = record {
  is = λ state stands.
      let kept = kept-there session.parked state.kept asked.caller one stands.kept found in
      subst (λ (p : ParkedCall). IsItemOf (terms_over session book) tenant journal state before asked (item.Busy p.call.number)) (sym kept.is)
      (batches.busy kept.one first kept.found);
  refusal = tt;
  free = tt;
}

pub starts-bad : (session : Session) (book : BookValue) (journal : List Entry) (tenant : TenantId) (before : List Asked) (asked : Asked)
    → IsUnparked session.parked before asked → is_bad_budget asked.budget ≡ true
    → Starts session book journal tenant before asked (start.Refused item.BadBudget)
starts-bad session book journal tenant before asked unparked bad = record {
  is = λ state stands. batches.bad_budget (alone session state before asked stands unparked) bad;
  refusal = tt;
  free = unparked;
}

pub starts-memory : (session : Session) (book : BookValue) (journal : List Entry) (tenant : TenantId) (before : List Asked) (asked : Asked)
    → IsUnparked session.parked before asked → Starts session book journal tenant before asked (start.Refused item.Memory)
starts-memory session book journal tenant before asked unparked =
    record { is = λ state stands. batches.no_memory; refusal = tt; free = unparked }

past-none : {A : Type 0} (xs : List A) (i : ℕ) → slice_get xs i ≡ None → length xs ≤ i
past-none [] i is = omega arith
past-none (x ∷ xs) zero is = absurd cc
past-none (x ∷ xs) (suc i) is = let rest = past-none xs i is in omega (arith, rest)

pub starts-absent : (session : Session) (book : BookValue) (journal : List Entry) (tenant : TenantId) (before : List Asked) (asked : Asked) (count now : ℕ)
    → Fits session journal book.grants → IsUnparked session.parked before asked → is_bad_budget asked.budget ≡ false
    → count ≡ length (texts_of journal tenant) → now ≡ length journal → slice_get (texts_of journal tenant) asked.ext.0 ≡ None
    → Starts session book journal tenant before asked (start.Refused (item.NoExtension count now))
starts-absent session book journal tenant before asked count now fits unparked good counted now_is none = record {
  is = λ state stands.
      batches.no_extension count now (alone session state before asked stands unparked) good
      (subst (λ (m : ℕ). IsShown journal state.seen m) (sym now_is) (now-shown journal state.seen (seen-by session state journal book.grants stands fits)))
      (subst (λ (m : ℕ). count ≡ length (texts_of (take m journal) tenant)) (sym now_is)
      (counted ∙ ap (λ (all : List Entry). length (texts_of all tenant)) (sym (take-length journal))))
      (let past = past-none (texts_of journal tenant) asked.ext.0 none in omega (arith, past, counted));
  refusal = tt;
  free = unparked;
}

pub starts-begun : (session : Session) (book : BookValue) (journal : List Entry) (tenant : TenantId) (before : List Asked) (asked : Asked) (ext : ExtValue) (task : Live)
    → IsUnparked session.parked before asked → is_bad_budget asked.budget ≡ false
    → Some ext.text ≡ slice_get (texts_of journal tenant) asked.ext.0 → IsAccepted ext.text ext.program
    → task ≡ begun (call_of tenant asked) ext (granted book.grants journal tenant)
    → Starts session book journal tenant before asked (start.Began task)
starts-begun session book journal tenant before asked ext task unparked good found accepted is = record {
  ext = ext;
  named = record { found = sym found; accepted = accepted };
  task_is = is;
  may = λ state stands. record {
    alone = alone session state before asked stands unparked;
    budget = good;
    there = slice_get_within (texts_of journal tenant) asked.ext.0 ext.text (sym found);
  };
  free = unparked;
}

-- ---- All of them

all-over : {A : Type 0} (P Q : A → Type 0) (xs : List A) → ((x : A) → P x → Q x) → AllByRecursion P xs → AllByRecursion Q xs
all-over P Q [] maps all = tt
all-over P Q (x ∷ xs) maps all = (maps x all.0, all-over P Q xs maps all.1)

-- the calls before a place, with one call more behind
front-same : (calls : List Asked) (asked : Asked) (place : ℕ) → place ≤ length calls → take place calls ≡ take place (calls ++ asked ∷ [])
front-same calls asked place within = sym (take-append-le place calls (asked ∷ []) within)

pub no-calls : (session : Session) (book : BookValue) (journal : List Entry) (tenant : TenantId) → AllStart session book journal tenant [] [] []
no-calls session book journal tenant = record {
  each = λ state stands. record { many = refl; each = λ place given found. absurd cc };
  refusals = tt;
  have_begun = tt;
  places = tt;
  untold = tt;
  free = λ place given found. absurd cc;
}

item-row : (session : Session) (book : BookValue) (journal : List Entry) (tenant : TenantId) (before : List Asked) (asked : Asked) (given : Start) (state : State)
    → Stands session state → Starts session book journal tenant before asked given
    → IsItemOf (terms_over session book) tenant journal state before asked (item_so_far given)
item-row session book journal tenant before asked (start.Refused refusal) state stands starts = starts.is state stands
item-row session book journal tenant before asked (start.Began task) state stands starts = batches.no_memory

so-far-refusal : (session : Session) (book : BookValue) (journal : List Entry) (tenant : TenantId) (before : List Asked) (asked : Asked) (given : Start)
    → Starts session book journal tenant before asked given → IsRefusal (item_so_far given)
so-far-refusal session book journal tenant before asked (start.Refused refusal) starts = starts.refusal
so-far-refusal session book journal tenant before asked (start.Began task) starts = tt

items-more : (session : Session) (book : BookValue) (journal : List Entry) (tenant : TenantId) (calls : List Asked) (items : List Item) (asked : Asked) (given : Start) (state : State)
    → Stands session state → Starts session book journal tenant calls asked given → AreItems (terms_over session book) tenant journal state calls items
    → AreItems (terms_over session book) tenant journal state (calls ++ asked ∷ []) (items ++ item_so_far given ∷ [])
items-more session book journal tenant calls items asked given state stands starts are =
    let many : length items ≡ length calls = are.many in
    record {
      many = omega (arith, many, length-append items (item_so_far given ∷ []), length-append calls (asked ∷ []));
      each = λ place one found.
          elim (slice_get-append_one items (item_so_far given) place one found) [
            | inl h ↦
                let old = are.each place one h.0 in
                let within : place ≤ length calls = omega (arith, h.1, many) in
                record {
                  asked = old.asked;
                  at = found-longer calls (asked ∷ []) place old.asked old.at;
                  is = subst (λ (front : List Asked). IsItemOf (terms_over session book) tenant journal state front old.asked one)
                      (front-same calls asked place within) old.is;
                }
            | inr h ↦
                let place_is : place ≡ length calls = h.0 ∙ many in
                record {
                  asked = asked;
                  at = subst (λ (m : ℕ). slice_get (calls ++ asked ∷ []) m ≡ Some asked) (sym place_is) (slice_get-append_seam calls asked []);
                  is = subst (λ (m : ℕ). IsItemOf (terms_over session book) tenant journal state (take m (calls ++ asked ∷ [])) asked one) (sym place_is)
                      (subst (λ (front : List Asked). IsItemOf (terms_over session book) tenant journal state front asked one) (sym (take-append_seam calls (asked ∷ [])))
                      (subst (λ (i : Item). IsItemOf (terms_over session book) tenant journal state calls asked i) h.1
                      (item-row session book journal tenant calls asked given state stands starts)));
                }
          ];
    }

begun-longer : (session : Session) (book : BookValue) (journal : List Entry) (calls : List Asked) (asked : Asked) (one : Begun)
    → HasBegun session book.grants journal calls one → HasBegun session book.grants journal (calls ++ asked ∷ []) one
begun-longer session book journal calls asked one has =
    let within = slice_get_within calls one.place has.asked has.at in
    record {
      tenant = has.tenant;
      admitted = has.admitted;
      asked = has.asked;
      at = found-longer calls (asked ∷ []) one.place has.asked has.at;
      ext = has.ext;
      named = has.named;
      task_is = has.task_is;
      may = λ state stands.
          subst (λ (front : List Asked). CanBegin has.tenant journal state front has.asked)
          (front-same calls asked one.place (omega (arith, within))) (has.may state stands);
    }

begun-more : (session : Session) (book : BookValue) (journal : List Entry) (tenant : TenantId) (calls : List Asked) (place : ℕ) (asked : Asked) (given : Start) (begun_calls : List Begun)
    → tenant_of session.admitted ≡ Some tenant → place ≡ length calls → Starts session book journal tenant calls asked given
    → AllByRecursion (HasBegun session book.grants journal calls) begun_calls
    → AllByRecursion (HasBegun session book.grants journal (calls ++ asked ∷ [])) (begun_with begun_calls place given)
begun-more session book journal tenant calls place asked (start.Refused refusal) begun_calls admitted place_is starts all =
    all-over (HasBegun session book.grants journal calls) (HasBegun session book.grants journal (calls ++ asked ∷ [])) begun_calls
    (begun-longer session book journal calls asked) all
begun-more session book journal tenant calls place asked (start.Began task) begun_calls admitted place_is starts all =
    all-push (HasBegun session book.grants journal (calls ++ asked ∷ [])) begun_calls (record { place = place; task = task })
    (all-over (HasBegun session book.grants journal calls) (HasBegun session book.grants journal (calls ++ asked ∷ [])) begun_calls
    (begun-longer session book journal calls asked) all)
    (record {
      tenant = tenant;
      admitted = admitted;
      asked = asked;
      at = subst (λ (m : ℕ). slice_get (calls ++ asked ∷ []) m ≡ Some asked) (sym place_is) (slice_get-append_seam calls asked []);
      ext = starts.ext;
      named = starts.named;
      task_is = starts.task_is;
      may = λ state stands.
          subst (λ (m : ℕ). CanBegin tenant journal state (take m (calls ++ asked ∷ [])) asked) (sym place_is)
          (subst (λ (front : List Asked). CanBegin tenant journal state front asked) (sym (take-append_seam calls (asked ∷ []))) (starts.may state stands));
    })

free-so-far : (session : Session) (book : BookValue) (journal : List Entry) (tenant : TenantId) (before : List Asked) (asked : Asked) (given : Start)
    → Starts session book journal tenant before asked given → IsFreeBut session.parked before asked (item_so_far given)
free-so-far session book journal tenant before asked (start.Refused refusal) starts = starts.free
free-so-far session book journal tenant before asked (start.Began task) starts = starts.free

free-more : (session : Session) (book : BookValue) (journal : List Entry) (tenant : TenantId) (calls : List Asked) (items : List Item) (asked : Asked) (given : Start)
    → length items ≡ length calls → Starts session book journal tenant calls asked given → AreFree session.parked calls items
    → AreFree session.parked (calls ++ asked ∷ []) (items ++ item_so_far given ∷ [])
free-more session book journal tenant calls items asked given many starts free place one found =
    elim (slice_get-append_one items (item_so_far given) place one found) [
      | inl h ↦
          let old = free place one h.0 in
          let within : place ≤ length calls = omega (arith, h.1, many) in
          record {
            asked = old.asked;
            at = found-longer calls (asked ∷ []) place old.asked old.at;
            free = subst (λ (front : List Asked). IsFreeBut session.parked front old.asked one) (front-same calls asked place within) old.free;
          }
      | inr h ↦
          let place_is : place ≡ length calls = h.0 ∙ many in
          record {
            asked = asked;
            at = subst (λ (m : ℕ). slice_get (calls ++ asked ∷ []) m ≡ Some asked) (sym place_is) (slice_get-append_seam calls asked []);
            free = subst (λ (m : ℕ). IsFreeBut session.parked (take m (calls ++ asked ∷ [])) asked one) (sym place_is)
                (subst (λ (front : List Asked). IsFreeBut session.parked front asked one) (sym (take-append_seam calls (asked ∷ [])))
                (subst (λ (i : Item). IsFreeBut session.parked calls asked i) h.1
                (free-so-far session book journal tenant calls asked given starts)));
          }
    ]

-- one more call of the batch begins, or is refused
pub starts-more : (session : Session) (book : BookValue) (journal : List Entry) (tenant : TenantId) (calls : List Asked) (items : List Item) (begun_calls : List Begun) (asked : Asked) (given : Start)
    → tenant_of session.admitted ≡ Some tenant → length items ≡ length calls → Starts session book journal tenant calls asked given
    → AllStart session book journal tenant calls items begun_calls
    → AllStart session book journal tenant (calls ++ asked ∷ []) (items ++ item_so_far given ∷ []) (begun_with begun_calls (length items) given)
starts-more session book journal tenant calls items begun_calls asked given admitted many starts all = record {
  each = λ state stands. items-more session book journal tenant calls items asked given state stands starts (all.each state stands);
  refusals = all-push IsRefusal items (item_so_far given) all.refusals (so-far-refusal session book journal tenant calls asked given starts);
  have_begun = begun-more session book journal tenant calls (length items) asked given begun_calls admitted many starts all.have_begun;
  places = begun-rise items begun_calls given all.places all.untold;
  untold = begun-untold items begun_calls given all.untold;
  free = free-more session book journal tenant calls items asked given many starts all.free;
}
