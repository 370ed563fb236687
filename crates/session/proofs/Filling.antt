-- The items of a batch are filled in as its calls end, and calls that were handed back are parked.
use Rattle.std.specs.Prelude.{◌==◌, ◌||◌, ◌≢◌, Bool, true, false, nat_lt, slice_get, slice_set}
use Rattle.std.specs.List.{AllByRecursion}
use Rattle.std.proofs.Common.{◌≡◌, ◌≤◌, ◌<◌, ◌+◌, ◌^◌, ◌⊎◌, ℕ, zero, suc, List, [], ◌∷◌, ◌++◌, length, take, Option, Some, None, refl, sym, subst, ap, ◌∙◌, inl, inr, arith, eq-eqb, length-append}
use Rattle.std.proofs.lemmas.Bool.{cases_lt, eqb-true, lt-ltb}
use Rattle.std.proofs.lemmas.List.{length-set}
use Rattle.sp_base.specs.declared.calls.Asked.{Asked}
use Rattle.sp_base.specs.declared.calls.Call.{Call}
use Rattle.sp_base.specs.declared.limits.TheConstants.{MOST_BUDGET, MOST_PARKED}
use Rattle.sp_base.specs.declared.numbers.TenantId.{TenantId}
use Rattle.sp_base.specs.declared.outcomes.Outcome.{Outcome}
use Rattle.sp_base.specs.declared.reads.ReadItem.{ReadItem}
use Rattle.sp_base.specs.Limits.{IsArguments}
use Rattle.task.specs.Parking.{ParkedCall}
use Rattle.journal.specs.declared.entry.Entry.{Entry}
use Rattle.book.specs.declared.answers.Commit.{Commit}
use Rattle.book.specs.declared.answers.Commit.TheVariants as commit
use Rattle.book.specs.declared.ends.CallEnd.{CallEnd}
use Rattle.book.specs.declared.ends.End.{End}
use Rattle.book.specs.declared.ends.End.TheVariants as ended
use Rattle.book.specs.Ends.{IsPushed, ItemHolds}
use Rattle.wire.specs.declared.answers.Answer.TheVariants as answer
use Rattle.wire.specs.declared.items.Item.{Item}
use Rattle.wire.specs.declared.items.Item.TheVariants as item
use Rattle.wire.specs.declared.requests.Request.TheVariants as request
use Rattle.session.specs.declared.session.Admitted.{Admitted}
use Rattle.session.specs.declared.session.Session.{Session}
use Rattle.session.specs.Batches as batches
use Rattle.session.specs.Batches.{AreFree, AreItems, IsFreeBut, IsItemAt, IsRefusal, IsUnparked, call_of, commit_item, is_among, is_bad_budget, item_of}
use Rattle.session.specs.Filling.{Fills, FillsWhere, IsToldAs, waits}
use Rattle.session.specs.Keeping.{IsOfEach, call_in}
use Rattle.session.specs.Seeing.{AllCounted}
use Rattle.session.specs.Standing.{EndHolds, Fits, HasOwnRights, IsCommitted, IsOpen, Matches, ParkedFit, Sends, Stands, handed_back, is_handed_back, tenant_of}
use Rattle.session.specs.States.{State, Terms, after_answer, kept_of, seen_in_items}
use Rattle.session.specs.Steps as steps
use Rattle.session.proofs.Items.{IsHere, IsSoundItem, all-at, all-map, end-sound, items-counted, items-seen, items-sound, items-within, pushed-sound, refusal-here}
use Rattle.session.proofs.Keeping.{call-beside, call-here, call-kept, call-last, each-more, kept-all-are, kept-all-map, kept_all, split, unlike}
use Rattle.session.proofs.Leaving.{AllTell, IsHandedTo, IsPushedItem, Match, Pushes, Tells, left-behind}
use Rattle.session.proofs.Handing.{fit-more, pushed-in}

-- ---- Filling in

get-set : {A : Type 0} (xs : List A) (p k : ℕ) (v x : A) → slice_get (slice_set xs p v) k ≡ Some x
    → ((k ≡ p) × (v ≡ x)) ⊎ (slice_get xs k ≡ Some x)
get-set [] p k v x found = inr found
get-set (y ∷ xs) zero zero v x found = inl (refl, cc)
get-set (y ∷ xs) zero (suc k) v x found = inr found
get-set (y ∷ xs) (suc p) zero v x found = inr found
get-set (y ∷ xs) (suc p) (suc k) v x found =
    elim (get-set xs p k v x found) [ inl h ↦ inl (ap suc h.0, h.1) | inr h ↦ inr h ]

all-set : {A : Type 0} (P : A → Type 0) (xs : List A) (p : ℕ) (v : A) → P v → AllByRecursion P xs → AllByRecursion P (slice_set xs p v)
all-set P [] p v one all = tt
all-set P (x ∷ xs) zero v one all = (one, all.1)
all-set P (x ∷ xs) (suc p) v one all = (all.0, all-set P xs p v one all.1)

set-items : (terms : Terms) (tenant : TenantId) (journal : List Entry) (state : State) (calls : List Asked) (items : List Item) (p : ℕ) (v : Item)
    → AreItems terms tenant journal state calls items → IsItemAt terms tenant journal state calls p v
    → AreItems terms tenant journal state calls (slice_set items p v)
set-items terms tenant journal state calls items p v are one = record {
  many = length-set items p v ∙ are.many;
  each = λ k x found.
      elim (get-set items p k v x found) [
        | inl h ↦ subst (λ (m : ℕ). IsItemAt terms tenant journal state calls m x) (sym h.0)
            (subst (λ (y : Item). IsItemAt terms tenant journal state calls p y) h.1 one)
        | inr h ↦ are.each k x h
      ];
}

-- the end of a call is its item
end-item : (session : Session) (terms : Terms) (journal : List Entry) (calls : List Asked) (one : CallEnd) (tenant : TenantId) (state : State)
    → tenant_of session.admitted ≡ Some tenant → Stands session state → EndHolds session terms journal calls one
    → IsItemAt terms tenant journal state calls one.place (item_of one.end)
end-item session terms journal calls one tenant state admitted stands holds =
    let both : Some holds.tenant ≡ Some tenant = sym holds.admitted ∙ admitted in
    let same : holds.tenant ≡ tenant = cc in
    let here : ItemHolds terms.grants terms.limit terms.conf.policy journal state.seen (call_of holds.tenant holds.asked) one.end =
    subst (λ (seen : ℕ). ItemHolds terms.grants terms.limit terms.conf.policy journal seen (call_of holds.tenant holds.asked) one.end) (sym stands.seen) holds.holds in
    subst (λ (t : TenantId). IsItemAt terms t journal state calls one.place (item_of one.end)) same
    (record { asked = holds.asked; at = holds.at; is = batches.ends one.end (holds.may state stands) here })

-- ---- What each place has

-- a call that was handed back stands among those that are parked, and is the first of its caller
pub record IsHandedAt (parked : List ParkedCall) (tenant : TenantId) (journal : List Entry) (earlier : List Asked) (asked : Asked) (reads : List ReadItem) : Type 0 where
  pub first : is_among earlier asked.caller ≡ false
  pub handed : IsHandedTo parked tenant journal asked reads

abbrev pub HasPlace : List ParkedCall → TenantId → List Entry → List Asked → Asked → Item → Type 0
HasPlace parked tenant journal earlier asked item.Repeated = Unit {0}
HasPlace parked tenant journal earlier asked (item.Busy number) = Unit {0}
HasPlace parked tenant journal earlier asked (item.Pushed load spent reads) = IsHandedAt parked tenant journal earlier asked reads
HasPlace parked tenant journal earlier asked _ = IsUnparked parked earlier asked

pub record PlaceAt (parked : List ParkedCall) (tenant : TenantId) (journal : List Entry) (calls : List Asked) (place : ℕ) (given : Item) : Type 0 where
  pub asked : Asked
  pub at : slice_get calls place ≡ Some asked
  pub has : HasPlace parked tenant journal (take place calls) asked given

place-free : (parked : List ParkedCall) (tenant : TenantId) (journal : List Entry) (earlier : List Asked) (asked : Asked) (given : Item)
    → IsRefusal given → IsFreeBut parked earlier asked given → HasPlace parked tenant journal earlier asked given
place-free parked tenant journal earlier asked item.Repeated is free = tt
place-free parked tenant journal earlier asked (item.Busy number) is free = tt
place-free parked tenant journal earlier asked item.BadBudget is free = free
place-free parked tenant journal earlier asked (item.NoExtension count at) is free = free
place-free parked tenant journal earlier asked item.Memory is free = free
place-free parked tenant journal earlier asked (item.Committed n outcome) is free = absurd is
place-free parked tenant journal earlier asked (item.Stale last at) is free = absurd is
place-free parked tenant journal earlier asked (item.Conflict table key read read_at now now_at) is free = absurd is
place-free parked tenant journal earlier asked (item.Full at) is free = absurd is
place-free parked tenant journal earlier asked (item.Pushed load spent reads) is free = absurd is
place-free parked tenant journal earlier asked (item.Foreign table) is free = absurd is
place-free parked tenant journal earlier asked (item.Shape code) is free = absurd is
place-free parked tenant journal earlier asked item.Lied is free = absurd is
place-free parked tenant journal earlier asked item.NotParked is free = absurd is

place-tells : (parked : List ParkedCall) (tenant : TenantId) (journal : List Entry) (earlier : List Asked) (asked : Asked) (given : Item)
    → HasPlace parked tenant journal earlier asked given → Tells parked tenant journal asked given
place-tells parked tenant journal earlier asked item.Repeated has = tt
place-tells parked tenant journal earlier asked (item.Busy number) has = tt
place-tells parked tenant journal earlier asked (item.Pushed load spent reads) has = has.handed
place-tells parked tenant journal earlier asked item.BadBudget has = has.free
place-tells parked tenant journal earlier asked (item.NoExtension count at) has = has.free
place-tells parked tenant journal earlier asked item.Memory has = has.free
place-tells parked tenant journal earlier asked (item.Committed n outcome) has = has.free
place-tells parked tenant journal earlier asked (item.Stale last at) has = has.free
place-tells parked tenant journal earlier asked (item.Conflict table key read read_at now now_at) has = has.free
place-tells parked tenant journal earlier asked (item.Full at) has = has.free
place-tells parked tenant journal earlier asked (item.Foreign table) has = has.free
place-tells parked tenant journal earlier asked (item.Shape code) has = has.free
place-tells parked tenant journal earlier asked item.Lied has = has.free
place-tells parked tenant journal earlier asked item.NotParked has = has.free

-- a place has what it had where a call of another caller is parked
handed-kept : (parked : List ParkedCall) (last : ParkedCall) (tenant : TenantId) (journal : List Entry) (earlier : List Asked) (asked : Asked) (reads : List ReadItem)
    → IsHandedAt parked tenant journal earlier asked reads → IsHandedAt (parked ++ last ∷ []) tenant journal earlier asked reads
handed-kept parked last tenant journal earlier asked reads has = record {
  first = has.first;
  handed = record {
    moment = has.handed.moment;
    by_now = has.handed.by_now;
    ext = has.handed.ext;
    named = has.handed.named;
    there = call-kept parked last asked.caller _ has.handed.there;
  };
}

unparked-kept : (parked : List ParkedCall) (last : ParkedCall) (earlier : List Asked) (asked : Asked)
    → (is_among earlier asked.caller ≡ false → last.call.caller.number ≢ asked.caller)
    → IsUnparked parked earlier asked → IsUnparked (parked ++ last ∷ []) earlier asked
unparked-kept parked last earlier asked differ has = record {
  first = has.first;
  free = call-beside parked last asked.caller (differ has.first) ∙ has.free;
}

place-kept : (parked : List ParkedCall) (last : ParkedCall) (tenant : TenantId) (journal : List Entry) (earlier : List Asked) (asked : Asked) (given : Item)
    → (is_among earlier asked.caller ≡ false → last.call.caller.number ≢ asked.caller)
    → HasPlace parked tenant journal earlier asked given → HasPlace (parked ++ last ∷ []) tenant journal earlier asked given
place-kept parked last tenant journal earlier asked item.Repeated differ has = tt
place-kept parked last tenant journal earlier asked (item.Busy number) differ has = tt
place-kept parked last tenant journal earlier asked (item.Pushed load spent reads) differ has = handed-kept parked last tenant journal earlier asked reads has
place-kept parked last tenant journal earlier asked item.BadBudget differ has = unparked-kept parked last earlier asked differ has
place-kept parked last tenant journal earlier asked (item.NoExtension count at) differ has = unparked-kept parked last earlier asked differ has
place-kept parked last tenant journal earlier asked item.Memory differ has = unparked-kept parked last earlier asked differ has
place-kept parked last tenant journal earlier asked (item.Committed n outcome) differ has = unparked-kept parked last earlier asked differ has
place-kept parked last tenant journal earlier asked (item.Stale last_number at) differ has = unparked-kept parked last earlier asked differ has
place-kept parked last tenant journal earlier asked (item.Conflict table key read read_at now now_at) differ has = unparked-kept parked last earlier asked differ has
place-kept parked last tenant journal earlier asked (item.Full at) differ has = unparked-kept parked last earlier asked differ has
place-kept parked last tenant journal earlier asked (item.Foreign table) differ has = unparked-kept parked last earlier asked differ has
place-kept parked last tenant journal earlier asked (item.Shape code) differ has = unparked-kept parked last earlier asked differ has
place-kept parked last tenant journal earlier asked item.Lied differ has = unparked-kept parked last earlier asked differ has
place-kept parked last tenant journal earlier asked item.NotParked differ has = unparked-kept parked last earlier asked differ has

-- ---- Callers of a batch

or-right : (one other : Bool) → other ≡ true → (one || other) ≡ true
or-right true other is = refl
or-right false other is = is

among-there : (calls : List Asked) (i j : ℕ) (asked : Asked) (caller : ℕ) → i < j → slice_get calls i ≡ Some asked → asked.caller ≡ caller
    → is_among (take j calls) caller ≡ true
among-there [] i j asked caller less found same = absurd cc
among-there (first ∷ calls) i zero asked caller less found same = absurd (omega (arith, less))
among-there (first ∷ calls) zero (suc j) asked caller less found same =
    let is : first ≡ asked = cc in
    let equal : (first.caller == caller) ≡ true = eq-eqb first.caller caller (ap (λ (a : Asked). a.caller) is ∙ same) in
    ap (λ (b : Bool). b || is_among (take j calls) caller) equal
among-there (first ∷ calls) (suc i) (suc j) asked caller less found same =
    or-right (first.caller == caller) (is_among (take j calls) caller) (among-there calls i j asked caller (omega (arith, less)) found same)

differ-less : (i j : ℕ) → i ≢ j → j ≤ i → j < i
differ-less i j differ by = omega (arith, differ, by)

good-budget : (budget : ℕ) → is_bad_budget budget ≡ false → budget ≤ MOST_BUDGET
good-budget budget good =
    elim (cases_lt MOST_BUDGET budget) [
      | inl much ↦
          (let is : nat_lt MOST_BUDGET budget ≡ true = lt-ltb MOST_BUDGET budget much in
          let clash : false ≡ true = sym good ∙ or-right (budget == 0) (nat_lt MOST_BUDGET budget) is in absurd cc)
      | inr by ↦ by
    ]

-- two calls of which neither is repeated are of two callers
callers-differ : (calls : List Asked) (i j : ℕ) (one other : Asked) → i ≢ j → slice_get calls i ≡ Some one → slice_get calls j ≡ Some other
    → is_among (take i calls) one.caller ≡ false → is_among (take j calls) other.caller ≡ false → one.caller ≢ other.caller
callers-differ calls i j one other apart_places there here first later same =
    elim (cases_lt i j) [
      | inl less ↦ (let clash : false ≡ true = sym later ∙ among-there calls i j one other.caller less there same in cc)
      | inr not_less ↦
          (let clash : false ≡ true = sym first ∙ among-there calls j i other one.caller (differ-less i j apart_places not_less) here (sym same) in cc)
    ]

-- ---- So far

-- a call of this caller was handed back
pub record IsPushedAt (calls : List Asked) (items : List Item) (caller : ℕ) : Type 0 where
  pub place : ℕ
  pub asked : Asked
  pub given : Item
  pub at : slice_get calls place ≡ Some asked
  pub there : slice_get items place ≡ Some given
  pub is : IsPushedItem given
  pub own : asked.caller ≡ caller

-- the items so far, and the calls that are parked by then
pub record Filling (old : Session) (terms : Terms) (tenant : TenantId) (journal : List Entry) (calls : List Asked) (parked : List ParkedCall) (items : List Item) : Type 0 where
  pub each : (state : State) → Stands old state → AreItems terms tenant journal state calls items
  pub sound : AllByRecursion (IsSoundItem journal) items
  pub places : (place : ℕ) (given : Item) → slice_get items place ≡ Some given → PlaceAt parked tenant journal calls place given
  pub others : (caller : ℕ) → (call_in parked caller ≡ call_in old.parked caller) ⊎ IsPushedAt calls items caller
  pub fit : ParkedFit old.admitted journal parked
  pub of_each : IsOfEach parked

-- the state that keeps just what is parked
abbrev pub there_of : Session → State
there_of session = record { tenant = tenant_of session.admitted; kept = kept_all session.parked; seen = session.seen }

pub stands-there : (session : Session) → IsOfEach session.parked → Stands session (there_of session)
stands-there session each = record {
  tenant = refl;
  seen = refl;
  map = kept-all-map session.parked each;
  kept = kept-all-are session.parked;
}

-- before any end was told
pub filling-at-first : (old : Session) (terms : Terms) (tenant : TenantId) (journal : List Entry) (calls : List Asked) (items : List Item)
    → Fits old journal terms.grants → ((state : State) → Stands old state → AreItems terms tenant journal state calls items)
    → AllByRecursion IsRefusal items → AreFree old.parked calls items → Filling old terms tenant journal calls old.parked items
filling-at-first old terms tenant journal calls items fits each refusals free = record {
  each = each;
  sound = items-sound terms tenant journal (there_of old) calls items (all-map IsRefusal IsHere items refusal-here refusals)
      (each (there_of old) (stands-there old fits.each));
  places = λ place given found.
      let one = free place given found in
      record {
        asked = one.asked;
        at = one.at;
        has = place-free old.parked tenant journal (take place calls) one.asked given (all-at IsRefusal items place given refusals found) one.free;
      };
  others = λ caller. inl refl;
  fit = fits.parked;
  of_each = fits.each;
}

-- ---- One end

waits-memory : (found : Option Item) → waits found ≡ true → found ≡ Some item.Memory
waits-memory None is = absurd cc
waits-memory (Some item.Memory) is = refl
waits-memory (Some item.Repeated) is = absurd cc
waits-memory (Some (item.Busy number)) is = absurd cc
waits-memory (Some (item.Pushed load spent reads)) is = absurd cc
waits-memory (Some item.BadBudget) is = absurd cc
waits-memory (Some (item.NoExtension count at)) is = absurd cc
waits-memory (Some (item.Committed n outcome)) is = absurd cc
waits-memory (Some (item.Stale last at)) is = absurd cc
waits-memory (Some (item.Conflict table key read read_at now now_at)) is = absurd cc
waits-memory (Some (item.Full at)) is = absurd cc
waits-memory (Some (item.Foreign table)) is = absurd cc
waits-memory (Some (item.Shape code)) is = absurd cc
waits-memory (Some item.Lied) is = absurd cc
waits-memory (Some item.NotParked) is = absurd cc

-- how an end is told: nothing more is parked, or its call is
data IsFilled (terms : Terms) (journal : List Entry) (tenant : TenantId) (since : ℕ) (asked : Asked) (end : End) (before after : List ParkedCall) (earlier : List Asked) (given : Item) : Type 0 where
  stays : after ≡ before → (given ≡ item_of end) ⊎ (given ≡ item.Memory) → IsSoundItem journal given
      → HasPlace before tenant journal earlier asked given → IsFilled terms journal tenant since asked end before after earlier given
  hands : (load spent : ℕ) (last : ParkedCall) → after ≡ before ++ last ∷ [] → given ≡ item.Pushed load spent last.reads
      → given ≡ item_of end → IsSoundItem journal given
      → IsPushed terms.grants terms.conf.policy journal since (call_of tenant asked) load spent last
      → IsFilled terms journal tenant since asked end before after earlier given

settled-here : (given : Commit) → IsHere (commit_item given)
settled-here (commit.Committed n outcome) = tt
settled-here (commit.Stale last at) = tt
settled-here (commit.Conflict table key read read_at now now_at) = tt
settled-here (commit.Full at) = tt
settled-here commit.Memory = tt

settled-place : (parked : List ParkedCall) (tenant : TenantId) (journal : List Entry) (earlier : List Asked) (asked : Asked) (given : Commit)
    → IsUnparked parked earlier asked → HasPlace parked tenant journal earlier asked (commit_item given)
settled-place parked tenant journal earlier asked (commit.Committed n outcome) free = free
settled-place parked tenant journal earlier asked (commit.Stale last at) free = free
settled-place parked tenant journal earlier asked (commit.Conflict table key read read_at now now_at) free = free
settled-place parked tenant journal earlier asked (commit.Full at) free = free
settled-place parked tenant journal earlier asked commit.Memory free = free

memory-sound : (journal : List Entry) → IsSoundItem journal item.Memory
memory-sound journal = record { seen = λ seen by. by; counted = λ short. tt; within = tt }

told-memory : (terms : Terms) (journal : List Entry) (tenant : TenantId) (since : ℕ) (asked : Asked) (end : End) (before after : List ParkedCall) (earlier : List Asked) (given : Item)
    → IsUnparked before earlier asked → given ≡ item.Memory → after ≡ before → IsFilled terms journal tenant since asked end before after earlier given
told-memory terms journal tenant since asked end before after earlier given free memory same =
    stays same (inr memory) (subst (λ (i : Item). IsSoundItem journal i) (sym memory) (memory-sound journal))
    (subst (λ (i : Item). HasPlace before tenant journal earlier asked i) (sym memory) free)

told-so : (terms : Terms) (journal : List Entry) (tenant : TenantId) (since : ℕ) (asked : Asked) (end : End) (before after : List ParkedCall) (earlier : List Asked) (given : Item)
    → IsUnparked before earlier asked → ItemHolds terms.grants terms.limit terms.conf.policy journal since (call_of tenant asked) end
    → IsToldAs before after end given → IsFilled terms journal tenant since asked end before after earlier given
told-so terms journal tenant since asked (ended.Settled settled) before after earlier given free holds told =
    stays told.1 (inl told.0)
    (subst (λ (i : Item). IsSoundItem journal i) (sym told.0)
    (end-sound terms.grants terms.limit terms.conf.policy journal since (call_of tenant asked) (ended.Settled settled) (settled-here settled) holds))
    (subst (λ (i : Item). HasPlace before tenant journal earlier asked i) (sym told.0) (settled-place before tenant journal earlier asked settled free))
told-so terms journal tenant since asked (ended.Pushed load spent last) before after earlier given free holds told =
    elim told [
      | inl h ↦ told-memory terms journal tenant since asked (ended.Pushed load spent last) before after earlier given free h.0 h.1
      | inr h ↦
          hands load spent last h.parks h.told h.told
          (subst (λ (i : Item). IsSoundItem journal i) (sym h.told)
          (pushed-sound terms.grants terms.conf.policy journal since (call_of tenant asked) load spent last h.reads holds))
          holds
    ]
told-so terms journal tenant since asked ended.Memory before after earlier given free holds told =
    told-memory terms journal tenant since asked ended.Memory before after earlier given free told.0 told.1

pub get-other : {A : Type 0} (xs : List A) (p k : ℕ) (v x : A) → k ≢ p → slice_get xs k ≡ Some x → slice_get (slice_set xs p v) k ≡ Some x
get-other [] p k v x differ found = absurd cc
get-other (y ∷ xs) zero zero v x differ found = absurd (differ refl)
get-other (y ∷ xs) zero (suc k) v x differ found = found
get-other (y ∷ xs) (suc p) zero v x differ found = found
get-other (y ∷ xs) (suc p) (suc k) v x differ found = get-other xs p k v x (λ same. differ (ap suc same)) found

pub get-same : {A : Type 0} (xs : List A) (p : ℕ) (v x : A) → slice_get xs p ≡ Some x → slice_get (slice_set xs p v) p ≡ Some v
get-same [] p v x found = absurd cc
get-same (y ∷ xs) zero v x found = refl
get-same (y ∷ xs) (suc p) v x found = get-same xs p v x found

-- what was handed back stands elsewhere than a call that waits
pushed-still : (calls : List Asked) (items : List Item) (p : ℕ) (v : Item) (caller : ℕ) → slice_get items p ≡ Some item.Memory
    → IsPushedAt calls items caller → IsPushedAt calls (slice_set items p v) caller
pushed-still calls items p v caller memory pushed = record {
  place = pushed.place;
  asked = pushed.asked;
  given = pushed.given;
  at = pushed.at;
  there = get-other items p pushed.place v pushed.given
      (λ same.
      let both : Some pushed.given ≡ Some item.Memory = sym pushed.there ∙ ap (slice_get items) same ∙ memory in
      let is : pushed.given ≡ item.Memory = cc in
      subst IsPushedItem is pushed.is)
      pushed.there;
  is = pushed.is;
  own = pushed.own;
}

item-at : (old : Session) (terms : Terms) (journal : List Entry) (calls : List Asked) (one : CallEnd) (tenant : TenantId) (state : State) (given : Item)
    → tenant_of old.admitted ≡ Some tenant → Stands old state → EndHolds old terms journal calls one
    → (given ≡ item_of one.end) ⊎ (given ≡ item.Memory) → IsItemAt terms tenant journal state calls one.place given
item-at old terms journal calls one tenant state given admitted stands holds told =
    elim told [
      | inl h ↦ subst (λ (i : Item). IsItemAt terms tenant journal state calls one.place i) (sym h)
          (end-item old terms journal calls one tenant state admitted stands holds)
      | inr h ↦ subst (λ (i : Item). IsItemAt terms tenant journal state calls one.place i) (sym h)
          (record { asked = holds.asked; at = holds.at; is = batches.no_memory })
    ]

-- the end of a call that waits is told
filled-one : (old : Session) (terms : Terms) (tenant : TenantId) (journal : List Entry) (calls : List Asked) (parked after : List ParkedCall) (items : List Item) (one : CallEnd) (given : Item)
    → tenant_of old.admitted ≡ Some tenant → Fits old journal terms.grants → AllByRecursion (λ asked. IsArguments asked.args) calls
    → EndHolds old terms journal calls one → slice_get items one.place ≡ Some item.Memory → IsToldAs parked after one.end given
    → Filling old terms tenant journal calls parked items → Filling old terms tenant journal calls after (slice_set items one.place given)
filled-one old terms tenant journal calls parked after items one given admitted fits args holds memory told filling =
    let place = filling.places one.place item.Memory memory in
    let both_asked : Some place.asked ≡ Some holds.asked = sym place.at ∙ holds.at in
    let asked_is : place.asked ≡ holds.asked = cc in
    let both_tenants : Some holds.tenant ≡ Some tenant = sym holds.admitted ∙ admitted in
    let tenant_is : holds.tenant ≡ tenant = cc in
    let free : IsUnparked parked (take one.place calls) holds.asked =
    subst (λ (a : Asked). IsUnparked parked (take one.place calls) a) asked_is place.has in
    let holds_so : ItemHolds terms.grants terms.limit terms.conf.policy journal old.seen (call_of tenant holds.asked) one.end =
    subst (λ (t : TenantId). ItemHolds terms.grants terms.limit terms.conf.policy journal old.seen (call_of t holds.asked) one.end) tenant_is holds.holds in
    elim (told-so terms journal tenant old.seen holds.asked one.end parked after (take one.place calls) given free holds_so told) [
      | stays same how sound has ↦ record {
        each = λ state stands. set-items terms tenant journal state calls items one.place given (filling.each state stands)
            (item-at old terms journal calls one tenant state given admitted stands holds how);
        sound = all-set (IsSoundItem journal) items one.place given sound filling.sound;
        places = λ k x found.
            elim (get-set items one.place k given x found) [
              | inl h ↦ record {
                asked = holds.asked;
                at = subst (λ (m : ℕ). slice_get calls m ≡ Some holds.asked) (sym h.0) holds.at;
                has = subst (λ (calls_parked : List ParkedCall). HasPlace calls_parked tenant journal (take k calls) holds.asked x) (sym same)
                    (subst (λ (m : ℕ). HasPlace parked tenant journal (take m calls) holds.asked x) (sym h.0)
                    (subst (λ (i : Item). HasPlace parked tenant journal (take one.place calls) holds.asked i) h.1 has));
              }
              | inr h ↦ subst (λ (calls_parked : List ParkedCall). PlaceAt calls_parked tenant journal calls k x) (sym same) (filling.places k x h)
            ];
        others = λ caller.
            elim (filling.others caller) [
              | inl h ↦ inl (ap (λ (calls_parked : List ParkedCall). call_in calls_parked caller) same ∙ h)
              | inr h ↦ inr (pushed-still calls items one.place given caller memory h)
            ];
        fit = subst (λ (calls_parked : List ParkedCall). ParkedFit old.admitted journal calls_parked) (sym same) filling.fit;
        of_each = subst IsOfEach (sym same) filling.of_each;
      }
      | hands load spent last grown is how sound pushed ↦
          let own : last.call ≡ call_of tenant holds.asked = pushed.handed.call_is in
          let number : last.call.caller.number ≡ holds.asked.caller = ap (λ (c : Call). c.caller.number) own in
          let none : call_in parked last.call.caller.number ≡ None = ap (call_in parked) number ∙ free.free in
          let may = holds.may (there_of old) (stands-there old fits.each) in
          let fits_in = pushed-in terms.grants terms.conf.policy journal old.seen (call_of tenant holds.asked) load spent last pushed
          (all-at (λ (a : Asked). IsArguments a.args) calls one.place holds.asked args holds.at) (good-budget holds.asked.budget may.budget) in
          let there : call_in (parked ++ last ∷ []) holds.asked.caller ≡ Some (record { call = call_of tenant holds.asked; ext = last.ext; reads = last.reads }) =
          call-last parked last holds.asked.caller free.free ∙ call-here last [] holds.asked.caller number
          ∙ ap (λ (c : Call). let p : ParkedCall = record { call = c; ext = last.ext; reads = last.reads } in Some p) own in
          subst (λ (calls_parked : List ParkedCall). Filling old terms tenant journal calls calls_parked (slice_set items one.place given)) (sym grown)
          (record {
            each = λ state stands. set-items terms tenant journal state calls items one.place given (filling.each state stands)
                (item-at old terms journal calls one tenant state given admitted stands holds (inl how));
            sound = all-set (IsSoundItem journal) items one.place given sound filling.sound;
            places = λ k x found.
                split (k == one.place)
                (λ at_it.
                let same : k ≡ one.place = eqb-true k one.place at_it in
                let both : Some given ≡ Some x = sym (get-same items one.place given item.Memory memory) ∙ ap (slice_get (slice_set items one.place given)) (sym same) ∙ found in
                let it : given ≡ x = cc in
                record {
                  asked = holds.asked;
                  at = subst (λ (m : ℕ). slice_get calls m ≡ Some holds.asked) (sym same) holds.at;
                  has = subst (λ (i : Item). HasPlace (parked ++ last ∷ []) tenant journal (take k calls) holds.asked i) (sym is ∙ it)
                      (record {
                        first = subst (λ (m : ℕ). is_among (take m calls) holds.asked.caller ≡ false) (sym same) free.first;
                        handed = record { moment = pushed.moment; by_now = pushed.shown.by_now; ext = last.ext; named = pushed.handed.named; there = there };
                      });
                })
                (λ elsewhere.
                let differ : k ≢ one.place = unlike k one.place elsewhere in
                elim (get-set items one.place k given x found) [
                  | inl h ↦ absurd (differ h.0)
                  | inr h ↦
                      let old_place = filling.places k x h in
                      record {
                        asked = old_place.asked;
                        at = old_place.at;
                        has = place-kept parked last tenant journal (take k calls) old_place.asked x
                            (λ first same.
                            callers-differ calls k one.place old_place.asked holds.asked differ old_place.at holds.at first free.first
                            (sym same ∙ number))
                            old_place.has;
                      }
                ]);
            others = λ caller.
                split (last.call.caller.number == caller)
                (λ own_caller.
                let same : last.call.caller.number ≡ caller = eqb-true last.call.caller.number caller own_caller in
                inr (record {
                  place = one.place;
                  asked = holds.asked;
                  given = given;
                  at = holds.at;
                  there = get-same items one.place given item.Memory memory;
                  is = subst IsPushedItem (sym is) tt;
                  own = sym number ∙ same;
                }))
                (λ another.
                elim (filling.others caller) [
                  | inl h ↦ inl (call-beside parked last caller (unlike last.call.caller.number caller another) ∙ h)
                  | inr h ↦ inr (pushed-still calls items one.place given caller memory h)
                ]);
            fit = fit-more old.admitted journal terms.grants tenant parked last admitted fits.rights filling.fit none fits_in;
            of_each = each-more parked last filling.of_each none;
          })
    ]

filled-where : (old : Session) (terms : Terms) (tenant : TenantId) (journal : List Entry) (calls : List Asked) (parked after : List ParkedCall) (items told : List Item) (one : CallEnd) (waiting : Bool)
    → tenant_of old.admitted ≡ Some tenant → Fits old journal terms.grants → AllByRecursion (λ asked. IsArguments asked.args) calls
    → EndHolds old terms journal calls one → waits (slice_get items one.place) ≡ waiting → FillsWhere waiting parked items one after told
    → Filling old terms tenant journal calls parked items → Filling old terms tenant journal calls after told
filled-where old terms tenant journal calls parked after items told one true admitted fits args holds is fills filling =
    subst (λ (list : List Item). Filling old terms tenant journal calls after list) (sym fills.2)
    (filled-one old terms tenant journal calls parked after items one fills.0 admitted fits args holds
    (waits-memory (slice_get items one.place) is) fills.1 filling)
filled-where old terms tenant journal calls parked after items told one false admitted fits args holds is fills filling =
    subst (λ (list : List Item). Filling old terms tenant journal calls after list) (sym fills.1)
    (subst (λ (list : List ParkedCall). Filling old terms tenant journal calls list items) (sym fills.0) filling)

-- the ends are told one after another
pub filled-all : (old : Session) (terms : Terms) (tenant : TenantId) (journal : List Entry) (calls : List Asked) (parked after : List ParkedCall) (items told : List Item) (ends : List CallEnd)
    → tenant_of old.admitted ≡ Some tenant → Fits old journal terms.grants → AllByRecursion (λ asked. IsArguments asked.args) calls
    → AllByRecursion (EndHolds old terms journal calls) ends → Fills parked items ends after told
    → Filling old terms tenant journal calls parked items → Filling old terms tenant journal calls after told
filled-all old terms tenant journal calls parked after items told [] admitted fits args hold fills filling =
    subst (λ (list : List Item). Filling old terms tenant journal calls after list) (sym fills.1)
    (subst (λ (list : List ParkedCall). Filling old terms tenant journal calls list items) (sym fills.0) filling)
filled-all old terms tenant journal calls parked after items told (one ∷ ends) admitted fits args hold fills filling =
    filled-all old terms tenant journal calls fills.0 after fills.1 told ends admitted fits args hold.1 fills.3
    (filled-where old terms tenant journal calls parked fills.0 items fills.1 one (waits (slice_get items one.place)) admitted fits args hold.0 refl fills.2 filling)

-- ---- How many are parked

told-long : (before after : List ParkedCall) (end : End) (given : Item) → IsToldAs before after end given → length after ≤ length before + is_handed_back end
told-long before after (ended.Settled settled) given told = omega (arith, ap length told.1)
told-long before after (ended.Pushed load spent last) given told =
    elim told [
      | inl h ↦ omega (arith, ap length h.1)
      | inr h ↦ omega (arith, ap length h.parks, length-append before (last ∷ []))
    ]
told-long before after ended.Memory given told = omega (arith, ap length told.1)

where-long : (before after : List ParkedCall) (items told : List Item) (one : CallEnd) (waiting : Bool) → FillsWhere waiting before items one after told
    → length after ≤ length before + is_handed_back one.end
where-long before after items told one true fills = told-long before after one.end fills.0 fills.1
where-long before after items told one false fills = omega (arith, ap length fills.0)

pub fills-long : (before after : List ParkedCall) (items told : List Item) (ends : List CallEnd) → Fills before items ends after told
    → length after ≤ length before + handed_back ends
fills-long before after items told [] fills = omega (arith, ap length fills.0)
fills-long before after items told (one ∷ ends) fills =
    let first = where-long before fills.0 items fills.1 one (waits (slice_get items one.place)) fills.2 in
    let rest = fills-long fills.0 after fills.1 told ends fills.3 in
    omega (arith, first, rest)

-- ---- What is shown

-- an entry is shown only where an end is that it was committed
abbrev pub Shows : List CallEnd → List Item → Type 0
Shows ends items = (place n : ℕ) (outcome : Outcome) → slice_get items place ≡ Some (item.Committed n outcome) → IsCommitted ends place n

committed-only : (given : Commit) (n : ℕ) (outcome : Outcome) → commit_item given ≡ item.Committed n outcome → given ≡ commit.Committed n outcome
committed-only (commit.Committed m told) n outcome is =
    let number : m ≡ n = cc in
    let same : told ≡ outcome = cc in
    ap (λ (k : ℕ). commit.Committed k told) number ∙ ap (λ (o : Outcome). commit.Committed n o) same
committed-only (commit.Stale last at) n outcome is = absurd cc
committed-only (commit.Conflict table key read read_at now now_at) n outcome is = absurd cc
committed-only (commit.Full at) n outcome is = absurd cc
committed-only commit.Memory n outcome is = absurd cc

committed-end : (before after : List ParkedCall) (end : End) (given : Item) (n : ℕ) (outcome : Outcome) → IsToldAs before after end given
    → given ≡ item.Committed n outcome → end ≡ ended.Settled (commit.Committed n outcome)
committed-end before after (ended.Settled settled) given n outcome told is = ap ended.Settled (committed-only settled n outcome (sym told.0 ∙ is))
committed-end before after (ended.Pushed load spent last) given n outcome told is =
    elim told [
      | inl h ↦ (let clash : item.Memory ≡ item.Committed n outcome = sym h.0 ∙ is in absurd cc)
      | inr h ↦ (let clash : item.Pushed load spent last.reads ≡ item.Committed n outcome = sym h.told ∙ is in absurd cc)
    ]
committed-end before after ended.Memory given n outcome told is =
    let clash : item.Memory ≡ item.Committed n outcome = sym told.0 ∙ is in absurd cc

where-shows : (all : List CallEnd) (at : ℕ) (before after : List ParkedCall) (items told : List Item) (one : CallEnd) (waiting : Bool)
    → slice_get all at ≡ Some one → FillsWhere waiting before items one after told → Shows all items → Shows all told
where-shows all at before after items told one true there fills shows place n outcome found =
    let found_so : slice_get (slice_set items one.place fills.0) place ≡ Some (item.Committed n outcome) =
    ap (λ (list : List Item). slice_get list place) (sym fills.2) ∙ found in
    elim (get-set items one.place place fills.0 (item.Committed n outcome) found_so) [
      | inl h ↦ record {
        at = at;
        one = one;
        there = there;
        place_is = sym h.0;
        outcome = outcome;
        end_is = committed-end before after one.end fills.0 n outcome fills.1 h.1;
      }
      | inr h ↦ shows place n outcome h
    ]
where-shows all at before after items told one false there fills shows place n outcome found =
    shows place n outcome (ap (λ (list : List Item). slice_get list place) (sym fills.1) ∙ found)

-- the ends from a number on
pub fills-show : (all : List CallEnd) (start : ℕ) (before after : List ParkedCall) (items told : List Item) (ends : List CallEnd)
    → ((k : ℕ) (one : CallEnd) → slice_get ends k ≡ Some one → slice_get all (start + k) ≡ Some one)
    → Fills before items ends after told → Shows all items → Shows all told
fills-show all start before after items told [] among fills shows = λ place n outcome found.
    shows place n outcome (ap (λ (list : List Item). slice_get list place) (sym fills.1) ∙ found)
fills-show all start before after items told (one ∷ ends) among fills shows =
    fills-show all (suc start) fills.0 after fills.1 told ends
    (λ k x found. subst (λ (m : ℕ). slice_get all m ≡ Some x) (let e : start + suc k ≡ suc start + k = omega arith in e) (among (suc k) x found))
    fills.3
    (where-shows all start before fills.0 items fills.1 one (waits (slice_get items one.place))
    (subst (λ (m : ℕ). slice_get all m ≡ Some one) (let e : start + 0 ≡ start = omega arith in e) (among 0 one refl)) fills.2 shows)

refusal-shows : (given : Item) (n : ℕ) (outcome : Outcome) → IsRefusal given → given ≡ item.Committed n outcome → ⊥
refusal-shows given n outcome is same = subst IsRefusal same is

pub refusals-show : (ends : List CallEnd) (items : List Item) → AllByRecursion IsRefusal items → Shows ends items
refusals-show ends items refusals place n outcome found =
    absurd (refusal-shows (item.Committed n outcome) n outcome (all-at IsRefusal items place (item.Committed n outcome) refusals found) refl)

-- ---- Answering

all-tell : (parked : List ParkedCall) (tenant : TenantId) (journal : List Entry) (calls : List Asked) (items : List Item) → length items ≡ length calls
    → ((k : ℕ) (given : Item) → slice_get items k ≡ Some given → (asked : Asked) × (slice_get calls k ≡ Some asked) × Tells parked tenant journal asked given)
    → AllTell parked tenant journal calls items
all-tell parked tenant journal [] [] many each = tt
all-tell parked tenant journal [] (given ∷ items) many each = absurd (omega (arith, many))
all-tell parked tenant journal (asked ∷ calls) [] many each = absurd (omega (arith, many))
all-tell parked tenant journal (asked ∷ calls) (given ∷ items) many each =
    let first = each 0 given refl in
    let same : asked ≡ first.0 = (let found = first.1 in cc) in (
      subst (λ (a : Asked). Tells parked tenant journal a given) (sym same) first.2,
      all-tell parked tenant journal calls items (omega (arith, many)) (λ k x found. each (suc k) x found),
    )

pushes-at : (calls : List Asked) (items : List Item) (place : ℕ) (asked : Asked) (given : Item) (caller : ℕ) → slice_get calls place ≡ Some asked
    → slice_get items place ≡ Some given → IsPushedItem given → asked.caller ≡ caller → Pushes calls items caller
pushes-at [] items place asked given caller at there is own = absurd cc
pushes-at (first ∷ calls) [] place asked given caller at there is own = absurd cc
pushes-at (first ∷ calls) (one ∷ items) zero asked given caller at there is own =
    let same : one ≡ given = cc in
    let it : first ≡ asked = cc in
    inl (subst IsPushedItem (sym same) is, ap (λ (a : Asked). a.caller) it ∙ own)
pushes-at (first ∷ calls) (one ∷ items) (suc place) asked given caller at there is own =
    inr (pushes-at calls items place asked given caller at there is own)

-- the batch was answered, and the session fits the journal
pub record Told (old new : Session) (terms : Terms) (journal : List Entry) (calls : List Asked) (items : List Item) : Type 0 where
  pub sends : Sends terms journal (Stands old) new (request.Batch calls) (answer.Answers items)
  pub fits : Fits new journal terms.grants

-- items that are those of their calls answer the batch
pub batch-told : (old new : Session) (terms : Terms) (journal : List Entry) (tenant : TenantId) (calls : List Asked) (items : List Item)
    → tenant_of old.admitted ≡ Some tenant → length journal < 2 ^ 64 → Fits old journal terms.grants
    → 1 ≤ length calls → length calls ≤ 64 → length new.parked ≤ MOST_PARKED
    → Filling old terms tenant journal calls new.parked items
    → new.admitted ≡ old.admitted → IsOpen new → (AllCounted items → new.seen ≡ seen_in_items old.seen items)
    → Told old new terms journal calls items
batch-told old new terms journal tenant calls items admitted short fits some few room filling own ready shown =
    let there : AreItems terms tenant journal (there_of old) calls items = filling.each (there_of old) (stands-there old fits.each) in
    let seen : new.seen ≡ seen_in_items old.seen items = shown (items-counted journal items short filling.sound) in
    let bounded : seen_in_items old.seen items ≤ length journal = items-seen journal old.seen items fits.seen filling.sound in
    let tell : AllTell new.parked tenant journal calls items = all-tell new.parked tenant journal calls items there.many (λ k given found.
    let place = filling.places k given found in
    (place.asked, place.at, place-tells new.parked tenant journal (take k calls) place.asked given place.has)) in
    record {
      sends = record {
        explained = λ state stands.
            let match_all : Match new.parked state.kept calls items = (λ caller.
            elim (filling.others caller) [
              | inl h ↦ inl (subst (λ (p : Option ParkedCall). Matches p (kept_of state.kept caller)) (sym h) (stands.kept caller))
              | inr h ↦ inr (pushes-at calls items h.place h.asked h.given caller h.at h.there h.is h.own)
            ]) in
            let left = left-behind new.parked journal tenant state.kept calls items room tell stands.map match_all in
            record {
              next = after_answer state (answer.Answers items) left.after;
              step = steps.answers_batch tenant calls items left.after (stands.tenant ∙ admitted) (filling.each state stands) left.leave;
              stands = record {
                tenant = stands.tenant ∙ ap tenant_of (sym own);
                seen = ap (λ (s : ℕ). seen_in_items s items) stands.seen ∙ sym seen;
                map = left.map;
                kept = left.kept_so;
              };
            };
        ends = ready;
        within = record {
          some = omega (arith, some, there.many);
          few = omega (arith, few, there.many);
          each = items-within journal items filling.sound;
        };
      };
      fits = record {
        rights = subst (λ (a : Option Admitted). HasOwnRights a journal terms.grants) (sym own) fits.rights;
        seen = omega (arith, seen, bounded);
        each = filling.of_each;
        few = room;
        parked = subst (λ (a : Option Admitted). ParkedFit a journal new.parked) (sym own) filling.fit;
      };
    }
