-- A record is told to the client of a parked call.
use Rattle.std.specs.Prelude.{◌==◌, Bool, true, false, IsTrue, if◌then◌else◌}
use Rattle.std.specs.List.{AllByRecursion}
use Rattle.std.proofs.Common.{◌≡◌, ◌≤◌, ◌<◌, ◌+◌, ◌*◌, ◌/◌, ◌⊎◌, ℕ, List, [], ◌∷◌, ◌++◌, length, Option, Some, None, refl, sym, subst, ap, ◌∙◌, inl, inr, arith, eq-eqb, length-append}
use Rattle.std.proofs.lemmas.Bool.{eqb-true}
use Rattle.std.proofs.Math.Nat.{le-div_iff_mul-le}
use Rattle.std.proofs.Math.Seq.{take-length}
use Rattle.sp_base.specs.declared.limits.TheConstants.{MOST_PARKED}
use Rattle.sp_base.specs.declared.numbers.TableId.{TableId}
use Rattle.sp_base.specs.declared.numbers.TenantId.{TenantId}
use Rattle.sp_base.specs.declared.reads.ReadItem.{ReadItem}
use Rattle.sp_base.specs.Places.{Place, same_place}
use Rattle.sp_base.specs.RightsList.{can_read}
use Rattle.ext_mean.specs.Laws.{place_in}
use Rattle.ext_mean.specs.Views.{place_of}
use Rattle.records.specs.GrantsList.{GrantsList, RightsList}
use Rattle.records.specs.Records.{place_at}
use Rattle.rw_set.specs.ReadLists.{read_of}
use Rattle.task.specs.Parking.{ParkedCall}
use Rattle.journal.specs.declared.entry.Entry.{Entry}
use Rattle.journal.specs.Folds.{tables_of, version_of}
use Rattle.journal.specs.Granted.{granted}
use Rattle.journal.specs.Reads.{IsHeld}
use Rattle.book.specs.declared.answers.Read.TheVariants as reading
use Rattle.book.specs.Standing.{BookValue, StandsFor}
use Rattle.book.specs.Verdict.{item_at}
use Rattle.wire.specs.declared.answers.Answer.TheVariants as answer
use Rattle.wire.specs.declared.answers.FetchAnswer.{FetchAnswer}
use Rattle.wire.specs.declared.requests.Request.TheVariants as request
use Rattle.session.specs.declared.plan.Plan.TheVariants as plan
use Rattle.session.specs.declared.session.Admitted.{Admitted}
use Rattle.session.specs.declared.session.Session.{Session}
use Rattle.session.specs.Fetching as fetching
use Rattle.session.specs.Fetching.{HasFetched, IsFoundOr, IsFresh, JoinsOr}
use Rattle.session.specs.Sending.{MayJoin}
use Rattle.session.specs.Keeping.{Changes, IsOfEach, IsParkedAs, call_in, has_number, joined}
use Rattle.session.specs.Standing.{AreKept, Fits, HasOwnRights, IsOpen, IsParkedIn, IsWithin, Matches, ParkedFit, Planned, Stands, tenant_of, terms_over}
use Rattle.session.specs.States.{IsMap, Kept, State, after_answer, kept_of, seen_in_fetch, with_call, without}
use Rattle.session.specs.Steps as steps
use Rattle.session.specs.Steps.{IsFetchAnswer, IsGone, IsKept, IsNewRead, IsOther, with_read}
use Rattle.session.proofs.Keeping.{call-caller, kept-changed, kept-there, split, unlike, with-map, with-so, without-map, without-so}
use Rattle.session.proofs.LongerSteps.{parked-fit-longer, rights-longer}
use Rattle.session.proofs.Planning.{at-now, now-in, seen-by, stands-nil}

-- ---- Calls that are not parked

-- the call is not parked, and what is kept then
pub record IsLost (parked : List ParkedCall) (state : State) (caller number : ℕ) : Type 0 where
  pub left : List Kept
  pub gone : IsGone state caller number left
  pub map : IsMap left
  pub kept_so : AreKept parked left

stays-lost : (parked : List ParkedCall) (state : State) (caller number : ℕ) → IsMap state.kept → AreKept parked state.kept
    → IsOther number (kept_of state.kept caller) → IsLost parked state caller number
stays-lost parked state caller number map are other = record { left = state.kept; gone = steps.never other; map = map; kept_so = are }

doubtful-lost : (parked : List ParkedCall) (state : State) (caller number : ℕ) (one : Kept) (found : Option ParkedCall) → IsMap state.kept → AreKept parked state.kept
    → kept_of state.kept caller ≡ Some one → one.parked.call.number.0 ≡ number → call_in parked caller ≡ found → has_number number found ≡ false
    → Matches found (Some one) → IsLost parked state caller number
doubtful-lost parked state caller number one None map are kept same none not_this matches = record {
  left = without state.kept caller;
  gone = steps.doubted one (record { found = kept; number_is = same }) matches;
  map = without-map state.kept caller map;
  kept_so = kept-changed parked parked state.kept (without state.kept caller) caller None None are
      (record { own = none; others = λ other apart_from. refl }) (without-so state.kept caller) tt;
}
doubtful-lost parked state caller number one (Some call) map are kept same found not_this matches =
    let number_so : call.call.number.0 ≡ number = ap (λ (p : ParkedCall). p.call.number.0) matches ∙ same in
    let clash : false ≡ true = sym not_this ∙ eq-eqb call.call.number.0 number number_so in absurd cc

lost-by : (parked : List ParkedCall) (state : State) (caller number : ℕ) (found : Option Kept) → IsMap state.kept → AreKept parked state.kept
    → kept_of state.kept caller ≡ found → has_number number (call_in parked caller) ≡ false → IsLost parked state caller number
lost-by parked state caller number None map are is not_this =
    stays-lost parked state caller number map are (subst (λ (k : Option Kept). IsOther number k) (sym is) tt)
lost-by parked state caller number (Some one) map are is not_this =
    split (one.parked.call.number.0 == number)
    (λ holds.
    doubtful-lost parked state caller number one (call_in parked caller) map are is (eqb-true one.parked.call.number.0 number holds) refl not_this
    (subst (λ (k : Option Kept). Matches (call_in parked caller) k) is (are caller)))
    (λ fails.
    let other : IsOther number (Some one) = unlike one.parked.call.number.0 number fails in
    stays-lost parked state caller number map are (subst (λ (k : Option Kept). IsOther number k) (sym is) other))

pub is-lost : (parked : List ParkedCall) (state : State) (caller number : ℕ) → IsMap state.kept → AreKept parked state.kept
    → has_number number (call_in parked caller) ≡ false → IsLost parked state caller number
is-lost parked state caller number map are not_this = lost-by parked state caller number (kept_of state.kept caller) map are refl not_this

-- ---- Calls that are parked

-- what a state keeps of a parked call
pub record IsKeptOf (state : State) (caller number : ℕ) (parked : ParkedCall) : Type 0 where
  pub one : Kept
  pub kept : IsKept state caller number one
  pub is : parked ≡ one.parked

pub kept-as : (parked : List ParkedCall) (state : State) (caller number : ℕ) (one : ParkedCall) → AreKept parked state.kept → IsParkedAs parked caller number one
    → IsKeptOf state caller number one
kept-as parked state caller number one are parked_as =
    let there = kept-there parked state.kept caller one are parked_as.found in
    record {
      one = there.one;
      kept = record { found = there.found; number_is = ap (λ (p : ParkedCall). p.call.number.0) (sym there.is) ∙ parked_as.number_is };
      is = there.is;
    }

fresh-of : (state : State) (caller number : ℕ) (table : TableId) (key : List ℕ) (parked : List ParkedCall) (one : ParkedCall)
    → IsFresh parked caller number table key one → (kept : IsKeptOf state caller number one) → IsNewRead state caller number table key kept.one
fresh-of state caller number table key parked one fresh kept = record {
  call = kept.kept;
  fresh = ap (λ (p : ParkedCall). read_of p.reads (place_in table key)) (sym kept.is) ∙ fresh.fresh;
}

-- ---- Reads

read-all-by : (Holds : ReadItem → Type 0) (first : ReadItem) (found : Option ReadItem) (read : ReadItem) (same : Bool) → Holds first
    → (found ≡ Some read → Holds read) → (if same then Some first else found) ≡ Some read → Holds read
read-all-by Holds first found read true holds rest is = let one : first ≡ read = cc in subst Holds one holds
read-all-by Holds first found read false holds rest is = rest is

-- what holds of each read holds of one that is found
pub read-all : (Holds : ReadItem → Type 0) (reads : List ReadItem) (place : Place) (read : ReadItem) → AllByRecursion Holds reads → read_of reads place ≡ Some read → Holds read
read-all Holds [] place read all found = absurd cc
read-all Holds (first ∷ reads) place read all found =
    read-all-by Holds first (read_of reads place) read (same_place (place_of first) place) all.0 (λ rest. read-all Holds reads place read all.1 rest) found

all-more : (Holds : ReadItem → Type 0) (reads : List ReadItem) (last : ReadItem) → AllByRecursion Holds reads → Holds last → AllByRecursion Holds (reads ++ last ∷ [])
all-more Holds [] last all holds = (holds, tt)
all-more Holds (first ∷ reads) last all holds = (all.0, all-more Holds reads last all.1 holds)

held-now : (journal : List Entry) (table : TableId) (key : List ℕ) → IsHeld journal (item_at journal table key)
held-now journal table key = record {
  by_then = omega arith;
  version = ap (λ (before : List Entry). version_of before (place_at table key)) (sym (take-length journal));
  value = ap (λ (before : List Entry). tables_of before (place_at table key)) (sym (take-length journal));
}

pub unpaid : (n budget : ℕ) → 16 * n ≤ budget → budget / 16 ≤ n → n ≡ budget / 16
unpaid n budget paid full =
    let by : n ≤ budget / 16 = (le-div_iff_mul-le {k = 16} {x = n} {y = budget} (omega arith)).1 (omega (arith, paid)) in omega (arith, by, full)

pub still-paid : (n budget : ℕ) → n < budget / 16 → 16 * (n + 1) ≤ budget
still-paid n budget less =
    let by : (n + 1) * 16 ≤ budget = (le-div_iff_mul-le {k = 16} {x = n + 1} {y = budget} (omega arith)).0 (omega (arith, less)) in omega (arith, by)

-- one read more fits
joined-in : (tenant : TenantId) (rights : RightsList) (journal : List Entry) (one : ParkedCall) (table : TableId) (key : List ℕ) (read : ReadItem)
    → IsParkedIn tenant rights journal one → IsTrue (can_read rights table.0) → length one.reads < one.call.budget / 16 → read ≡ item_at journal table key
    → IsParkedIn tenant rights journal (joined one read)
joined-in tenant rights journal one table key read fits readable few is = record {
  own = fits.own;
  args = fits.args;
  budget = fits.budget;
  named = fits.named;
  held = all-more (IsHeld journal) one.reads read fits.held (subst (λ (r : ReadItem). IsHeld journal r) (sym is) (held-now journal table key));
  readable = all-more (λ (r : ReadItem). IsTrue (can_read rights r.table.0)) one.reads read fits.readable
      (subst (λ (r : ReadItem). IsTrue (can_read rights r.table.0)) (sym is) readable);
  paid = (let longer = length-append one.reads (read ∷ []) in let paid = still-paid (length one.reads) one.call.budget few in omega (arith, longer, paid));
}

fit-changed : (own : Option Admitted) (journal : List Entry) (grants : GrantsList) (tenant : TenantId) (before after : List ParkedCall) (caller : ℕ) (one now : ParkedCall)
    → tenant_of own ≡ Some tenant → HasOwnRights own journal grants → ParkedFit own journal before → call_in before caller ≡ Some one
    → Changes before after caller (Some now)
    → (IsParkedIn tenant (granted grants journal tenant) journal one → IsParkedIn tenant (granted grants journal tenant) journal now)
    → ParkedFit own journal after
fit-changed None journal grants tenant before after caller one now admitted rights fit found changes leads = absurd cc
fit-changed (Some admitted) journal grants tenant before after caller one now is rights fit found changes leads = λ other call there.
    split (other == caller)
    (λ holds.
    let same : other ≡ caller = eqb-true other caller holds in
    let own : admitted.tenant ≡ tenant = cc in
    let both : Some now ≡ Some call = sym changes.own ∙ ap (call_in after) (sym same) ∙ there in
    let it : now ≡ call = cc in
    let was : IsParkedIn tenant (granted grants journal tenant) journal one =
    subst (λ (t : TenantId). IsParkedIn t (granted grants journal t) journal one) own
    (subst (λ (r : RightsList). IsParkedIn admitted.tenant r journal one) rights (fit caller one found)) in
    subst (λ (p : ParkedCall). IsParkedIn admitted.tenant admitted.rights journal p) it
    (subst (λ (r : RightsList). IsParkedIn admitted.tenant r journal now) (sym rights)
    (subst (λ (t : TenantId). IsParkedIn t (granted grants journal t) journal now) (sym own) (leads was))))
    (λ fails. fit other call (sym (changes.others other (unlike other caller fails)) ∙ there))

-- the reads of a parked call are what the journal held
pub parked-held : (own : Option Admitted) (journal : List Entry) (tenant : TenantId) (parked : List ParkedCall) (caller : ℕ) (one : ParkedCall)
    → tenant_of own ≡ Some tenant → ParkedFit own journal parked → call_in parked caller ≡ Some one → AllByRecursion (IsHeld journal) one.reads
parked-held None journal tenant parked caller one is fit found = absurd cc
parked-held (Some admitted) journal tenant parked caller one is fit found = (fit caller one found).held

-- and each is paid from a budget that is good
pub parked-paid : (own : Option Admitted) (journal : List Entry) (tenant : TenantId) (parked : List ParkedCall) (caller : ℕ) (one : ParkedCall)
    → tenant_of own ≡ Some tenant → ParkedFit own journal parked → call_in parked caller ≡ Some one
    → (one.call.budget ≤ 100000) × (16 * length one.reads ≤ one.call.budget)
parked-paid None journal tenant parked caller one is fit found = absurd cc
parked-paid (Some admitted) journal tenant parked caller one is fit found = let in_it = fit caller one found in (in_it.budget, in_it.paid)

-- ---- The answer

-- a state has its answer, and what is kept then matches what is parked
record Fetches (old : Session) (book : BookValue) (tenant : TenantId) (journal : List Entry) (state : State) (parked : List ParkedCall) (caller number : ℕ) (table : TableId) (key : List ℕ) (given : FetchAnswer) : Type 0 where
  left : List Kept
  is : IsFetchAnswer (terms_over old book) tenant (journal ++ []) state caller number table key given left
  map : IsMap left
  kept_so : AreKept parked left

-- the calls that are parked then fit, and what is shown is in the journal
record FitsThen (old : Session) (journal : List Entry) (parked : List ParkedCall) (given : FetchAnswer) : Type 0 where
  seen : seen_in_fetch old.seen given ≤ length journal
  each : IsOfEach parked
  few : length parked ≤ MOST_PARKED
  fit : ParkedFit old.admitted journal parked

same-fits : (old : Session) (journal : List Entry) (grants : GrantsList) (parked : List ParkedCall) (given : FetchAnswer) → Fits old journal grants → parked ≡ old.parked
    → seen_in_fetch old.seen given ≤ length journal → FitsThen old journal parked given
same-fits old journal grants parked given fits same seen = record {
  seen = seen;
  each = subst IsOfEach (sym same) fits.each;
  few = subst (λ (calls : List ParkedCall). length calls ≤ MOST_PARKED) (sym same) fits.few;
  fit = subst (λ (calls : List ParkedCall). ParkedFit old.admitted journal calls) (sym same) fits.parked;
}

fits-fetched : (old : Session) (book : BookValue) (journal : List Entry) (tenant : TenantId) (parked : List ParkedCall) (caller number : ℕ) (table : TableId) (key : List ℕ) (given : FetchAnswer)
    → Fits old journal book.grants → tenant_of old.admitted ≡ Some tenant → HasFetched book.grants tenant journal old.parked parked caller number table key given
    → FitsThen old journal parked given
fits-fetched old book journal tenant parked caller number table key given fits admitted (fetching.not_parked none same) =
    same-fits old journal book.grants parked given fits same fits.seen
fits-fetched old book journal tenant parked caller number table key given fits admitted (fetching.read_before one read parked_as found same) =
    let held = read-all (IsHeld journal) one.reads (place_in table key) read
    (parked-held old.admitted journal tenant old.parked caller one admitted fits.parked parked_as.found) found in
    let by_then = held.by_then in
    let seen = fits.seen in
    same-fits old journal book.grants parked given fits same (omega (arith, seen, by_then))
fits-fetched old book journal tenant parked caller number table key given fits admitted (fetching.read_now one read fresh readable few is has) =
    let changes = has.changes one fresh.parked_as.found in
    record {
      seen = (let seen = fits.seen in let at : read.read_at ≡ length journal = ap (λ (r : ReadItem). r.read_at) is in omega (arith, seen, at));
      each = has.each;
      few = (let many = has.many in let most = fits.few in omega (arith, many, most));
      fit = fit-changed old.admitted journal book.grants tenant old.parked parked caller one (joined one read) admitted fits.rights fits.parked fresh.parked_as.found changes
          (λ was. joined-in tenant (granted book.grants journal tenant) journal one table key read was readable few is);
    }
fits-fetched old book journal tenant parked caller number table key given fits admitted (fetching.denied one fresh closed same) =
    same-fits old journal book.grants parked given fits same fits.seen
fits-fetched old book journal tenant parked caller number table key given fits admitted (fetching.many one fresh readable full same) =
    same-fits old journal book.grants parked given fits same fits.seen
fits-fetched old book journal tenant parked caller number table key given fits admitted (fetching.no_memory same) =
    same-fits old journal book.grants parked given fits same fits.seen

fetches : (old : Session) (book : BookValue) (journal : List Entry) (tenant : TenantId) (state : State) (parked : List ParkedCall) (caller number : ℕ) (table : TableId) (key : List ℕ) (given : FetchAnswer)
    → Fits old journal book.grants → Stands old state → HasFetched book.grants tenant journal old.parked parked caller number table key given
    → Fetches old book tenant journal state parked caller number table key given
fetches old book journal tenant state parked caller number table key given fits stands (fetching.not_parked none same) =
    let lost = is-lost old.parked state caller number stands.map stands.kept none in
    record {
      left = lost.left;
      is = steps.not_fetched lost.left lost.gone;
      map = lost.map;
      kept_so = subst (λ (calls : List ParkedCall). AreKept calls lost.left) (sym same) lost.kept_so;
    }
fetches old book journal tenant state parked caller number table key given fits stands (fetching.read_before one read parked_as found same) =
    let kept = kept-as old.parked state caller number one stands.kept parked_as in
    record {
      left = state.kept;
      is = steps.fetched_again kept.one read kept.kept (ap (λ (p : ParkedCall). read_of p.reads (place_in table key)) (sym kept.is) ∙ found);
      map = stands.map;
      kept_so = subst (λ (calls : List ParkedCall). AreKept calls state.kept) (sym same) stands.kept;
    }
fetches old book journal tenant state parked caller number table key given fits stands (fetching.read_now one read fresh readable few is has) =
    let kept = kept-as old.parked state caller number one stands.kept fresh.parked_as in
    let changes = has.changes one fresh.parked_as.found in
    let own : kept.one.parked.call.caller.number ≡ caller =
    ap (λ (p : ParkedCall). p.call.caller.number) (sym kept.is) ∙ call-caller old.parked caller one fresh.parked_as.found in
    let by : state.seen ≤ length journal = seen-by old state journal book.grants stands fits in
    record {
      left = with_call state.kept caller (with_read kept.one read);
      is = steps.fetched_now kept.one (length journal) read (fresh-of state caller number table key old.parked one fresh kept)
          (at-now journal [] state.seen by) readable
          (subst (λ (p : ParkedCall). length p.reads < p.call.budget / 16) kept.is few)
          (now-in (λ (before : List Entry). read ≡ item_at before table key) journal [] is);
      map = with-map state.kept caller kept.one (with_read kept.one read) stands.map kept.kept.found own;
      kept_so = kept-changed old.parked parked state.kept (with_call state.kept caller (with_read kept.one read)) caller
          (Some (joined one read)) (Some (with_read kept.one read)) stands.kept changes
          (with-so state.kept caller kept.one (with_read kept.one read) stands.map kept.kept.found own)
          (ap (λ (p : ParkedCall). joined p read) kept.is);
    }
fetches old book journal tenant state parked caller number table key given fits stands (fetching.denied one fresh closed same) =
    let kept = kept-as old.parked state caller number one stands.kept fresh.parked_as in
    let by : state.seen ≤ length journal = seen-by old state journal book.grants stands fits in
    record {
      left = state.kept;
      is = steps.fetch_denied kept.one (length journal) (fresh-of state caller number table key old.parked one fresh kept) (at-now journal [] state.seen by) closed;
      map = stands.map;
      kept_so = subst (λ (calls : List ParkedCall). AreKept calls state.kept) (sym same) stands.kept;
    }
fetches old book journal tenant state parked caller number table key given fits stands (fetching.many one fresh readable full same) =
    let kept = kept-as old.parked state caller number one stands.kept fresh.parked_as in
    let by : state.seen ≤ length journal = seen-by old state journal book.grants stands fits in
    record {
      left = state.kept;
      is = steps.fetch_many kept.one (length journal) (fresh-of state caller number table key old.parked one fresh kept) (at-now journal [] state.seen by) readable
          (subst (λ (p : ParkedCall). length p.reads ≡ p.call.budget / 16) kept.is full);
      map = stands.map;
      kept_so = subst (λ (calls : List ParkedCall). AreKept calls state.kept) (sym same) stands.kept;
    }
fetches old book journal tenant state parked caller number table key given fits stands (fetching.no_memory same) = record {
  left = state.kept;
  is = steps.no_fetch_memory;
  map = stands.map;
  kept_so = subst (λ (calls : List ParkedCall). AreKept calls state.kept) (sym same) stands.kept;
}

-- what was fetched and what was shown, together
pub fetched-so : (old mid new : Session) (given : FetchAnswer) → mid ≡ record old { parked = mid.parked }
    → new ≡ record mid { seen = seen_in_fetch mid.seen given }
    → (mid.parked ≡ new.parked) × (new ≡ record old { parked = new.parked; seen = seen_in_fetch old.seen given })
fetched-so old mid new given mid_is new_is =
    let parked : mid.parked ≡ new.parked = sym (ap (λ (s : Session). s.parked) new_is) in (
      parked,
      new_is ∙ ap (λ (s : Session). let t : Session = record s { seen = seen_in_fetch s.seen given } in t) mid_is
          ∙ ap (λ (l : List ParkedCall). let t : Session = record old { parked = l; seen = seen_in_fetch old.seen given } in t) parked,
    )

pub fetch-planned : (old new : Session) (book : BookValue) (journal : List Entry) (tenant : TenantId) (caller number : ℕ) (table : TableId) (key : List ℕ) (given : FetchAnswer)
    → IsOpen old → Fits old journal book.grants → tenant_of old.admitted ≡ Some tenant → StandsFor book journal
    → HasFetched book.grants tenant journal old.parked new.parked caller number table key given → IsWithin (answer.Fetched given)
    → new ≡ record old { parked = new.parked; seen = seen_in_fetch old.seen given }
    → Planned old new book book journal (request.Fetch caller (record { 0 = number }) table key) (plan.Send (answer.Fetched given))
fetch-planned old new book journal tenant caller number table key given ready fits admitted stands has within new_is =
    let own : new.admitted ≡ old.admitted = ap (λ (s : Session). s.admitted) new_is in
    let seen : new.seen ≡ seen_in_fetch old.seen given = ap (λ (s : Session). s.seen) new_is in
    let opened : IsOpen new = ap (λ (s : Session). s.phase) new_is ∙ ready in
    let then_so = fits-fetched old book journal tenant new.parked caller number table key given fits admitted has in
    let bound = then_so.seen in
    record {
      later = [];
      stands = stands-nil book journal stands;
      adds = refl;
      fits = record {
        rights = subst (λ (a : Option Admitted). HasOwnRights a (journal ++ []) book.grants) (sym own)
            (rights-longer old.admitted journal [] book.grants fits.rights);
        seen = omega (arith, seen, bound, length-append journal []);
        each = then_so.each;
        few = then_so.few;
        parked = subst (λ (a : Option Admitted). ParkedFit a (journal ++ []) new.parked) (sym own)
            (parked-fit-longer old.admitted journal [] new.parked then_so.fit);
      };
      conf = ap (λ (s : Session). s.conf) new_is;
      does = (
        record {
          explained = λ state was.
              let fetch = fetches old book journal tenant state new.parked caller number table key given fits was has in
              record {
                next = after_answer state (answer.Fetched given) fetch.left;
                step = steps.fetches tenant caller number table key given fetch.left (was.tenant ∙ admitted) fetch.is;
                stands = record {
                  tenant = was.tenant ∙ ap tenant_of (sym own);
                  seen = ap (λ (s : ℕ). seen_in_fetch s given) was.seen ∙ sym seen;
                  map = fetch.map;
                  kept = fetch.kept_so;
                };
              };
          ends = opened;
          within = within;
        },
        opened,
      );
    }

-- ---- How the session finds it

pub other-number : (parked : List ParkedCall) (caller number : ℕ) (one : ParkedCall) → call_in parked caller ≡ Some one → (one.call.number.0 == number) ≡ false
    → has_number number (call_in parked caller) ≡ false
other-number parked caller number one found other = ap (has_number number) found ∙ other

pub found-told : (grants : GrantsList) (tenant : TenantId) (journal : List Entry) (parked : List ParkedCall) (caller number : ℕ) (table : TableId) (key : List ℕ) (one : ParkedCall) (read : ReadItem) (given : FetchAnswer)
    → IsParkedAs parked caller number one → read_of one.reads (place_in table key) ≡ Some read → IsFoundOr given read
    → HasFetched grants tenant journal parked parked caller number table key given
found-told grants tenant journal parked caller number table key one read given parked_as found told =
    elim told [
      | inl h ↦ subst (λ (a : FetchAnswer). HasFetched grants tenant journal parked parked caller number table key a) (sym h) (fetching.no_memory refl)
      | inr h ↦ subst (λ (a : FetchAnswer). HasFetched grants tenant journal parked parked caller number table key a) (sym h)
          (fetching.read_before one read parked_as found refl)
    ]

pub join-told : (grants : GrantsList) (tenant : TenantId) (journal : List Entry) (before after : List ParkedCall) (caller number : ℕ) (table : TableId) (key : List ℕ) (one : ParkedCall) (read : ReadItem) (given : FetchAnswer)
    → IsFresh before caller number table key one → IsTrue (can_read (granted grants journal tenant) table.0) → length one.reads < one.call.budget / 16
    → read ≡ item_at journal table key → JoinsOr before after caller read given
    → HasFetched grants tenant journal before after caller number table key given
join-told grants tenant journal before after caller number table key one read given fresh readable few is told =
    elim told [
      | inl h ↦ subst (λ (a : FetchAnswer). HasFetched grants tenant journal before after caller number table key a) (sym h.0) (fetching.no_memory h.1)
      | inr h ↦ subst (λ (a : FetchAnswer). HasFetched grants tenant journal before after caller number table key a) (sym h.0)
          (fetching.read_now one read fresh readable few is h.1)
    ]

read-found-by : (can : Bool) (item at : ReadItem) → reading.Found item ≡ (if can then reading.Found at else reading.Denied) → (can ≡ true) × (item ≡ at)
read-found-by true item at is = (refl, cc)
read-found-by false item at is = absurd cc

-- a record that the book found is in a table that may be read
pub read-found : (can : Bool) (item at : ReadItem) → (reading.Found item ≡ reading.Memory) ⊎ (reading.Found item ≡ (if can then reading.Found at else reading.Denied))
    → (can ≡ true) × (item ≡ at)
read-found can item at (inl is) = absurd cc
read-found can item at (inr is) = read-found-by can item at is

read-denied-by : (can : Bool) (at : ReadItem) → reading.Denied ≡ (if can then reading.Found at else reading.Denied) → can ≡ false
read-denied-by true at is = absurd cc
read-denied-by false at is = refl

pub read-denied : (can : Bool) (at : ReadItem) → (reading.Denied ≡ reading.Memory) ⊎ (reading.Denied ≡ (if can then reading.Found at else reading.Denied)) → can ≡ false
read-denied can at (inl is) = absurd cc
read-denied can at (inr is) = read-denied-by can at is

pub may-join : (one : ParkedCall) (read : ReadItem) (journal : List Entry) (table : TableId) (key : List ℕ) → read_of one.reads (place_in table key) ≡ None
    → read ≡ item_at journal table key → length one.reads < one.call.budget / 16 → one.call.budget ≤ 100000 → MayJoin one read
may-join one read journal table key fresh is few small =
    let paid = still-paid (length one.reads) one.call.budget few in
    record {
      fresh = ap (λ (r : ReadItem). read_of one.reads (place_of r)) is ∙ fresh;
      room = omega (arith, paid, small);
    }
