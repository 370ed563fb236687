-- What is kept behind the items of a batch, and that it matches the calls that are parked then.
use Rattle.std.specs.Prelude.{◌==◌, ◌≢◌, false, IsTrue}
use Rattle.std.proofs.Common.{◌≡◌, ◌≤◌, ◌⊎◌, ℕ, List, [], ◌∷◌, ◌++◌, length, take, Option, Some, None, refl, sym, subst, ap, ◌∙◌, inl, inr, arith}
use Rattle.std.proofs.lemmas.Bool.{eqb-true}
use Rattle.sp_base.specs.declared.calls.Asked.{Asked}
use Rattle.sp_base.specs.declared.limits.TheConstants.{MOST_PARKED}
use Rattle.sp_base.specs.declared.numbers.TenantId.{TenantId}
use Rattle.sp_base.specs.declared.reads.ReadItem.{ReadItem}
use Rattle.journal.specs.declared.entry.Entry.{Entry}
use Rattle.task.specs.Extensions.{ExtValue}
use Rattle.task.specs.Parking.{ParkedCall}
use Rattle.book.specs.Ends.{NamesExt}
use Rattle.wire.specs.declared.items.Item.{Item}
use Rattle.wire.specs.declared.items.Item.TheVariants as item
use Rattle.session.specs.Batches.{AllLeave, Leaves, call_of}
use Rattle.session.specs.Keeping.{call_in}
use Rattle.session.specs.Standing.{AreKept, Matches}
use Rattle.session.specs.States.{IsMap, Kept, kept_of, without, without_doubtful}
use Rattle.session.proofs.Keeping.{Covers, IsFreeOf, doubtful-map, doubtful-so, few-kept, kept-more-map, kept-more-so, split, unlike, without-map, without-so}

-- ---- What each item says of the calls that are parked

-- the call that is parked for an item
pub record IsHandedTo (parked : List ParkedCall) (tenant : TenantId) (journal : List Entry) (asked : Asked) (reads : List ReadItem) : Type 0 where
  pub moment : ℕ
  pub by_now : moment ≤ length journal
  pub ext : ExtValue
  pub named : NamesExt (take moment journal) (call_of tenant asked) ext
  pub there : call_in parked asked.caller ≡ Some (record { call = call_of tenant asked; ext = ext; reads = reads })

-- a call that was handed back is parked, and of one that ended otherwise none is
abbrev pub Tells : List ParkedCall → TenantId → List Entry → Asked → Item → Type 0
Tells parked tenant journal asked item.Repeated = Unit {0}
Tells parked tenant journal asked (item.Busy number) = Unit {0}
Tells parked tenant journal asked (item.Pushed load spent reads) = IsHandedTo parked tenant journal asked reads
Tells parked tenant journal asked _ = call_in parked asked.caller ≡ None

abbrev pub AllTell : List ParkedCall → TenantId → List Entry → List Asked → List Item → Type 0
AllTell parked tenant journal [] [] = Unit {0}
AllTell parked tenant journal (asked ∷ calls) (given ∷ items) =
    Tells parked tenant journal asked given × AllTell parked tenant journal calls items
AllTell parked tenant journal _ _ = ⊥

abbrev pub IsPushedItem : Item → Type 0
IsPushedItem (item.Pushed load spent reads) = Unit {0}
IsPushedItem _ = ⊥

-- a call of this caller is handed back
abbrev pub Pushes : List Asked → List Item → ℕ → Type 0
Pushes [] items caller = ⊥
Pushes (asked ∷ calls) [] caller = ⊥
Pushes (asked ∷ calls) (given ∷ items) caller = (IsPushedItem given × (asked.caller ≡ caller)) ⊎ Pushes calls items caller

-- a caller's calls match already, or it has one that is handed back by a later item
abbrev pub Match : List ParkedCall → List Kept → List Asked → List Item → Type 0
Match parked kept calls items =
    (caller : ℕ) → (Matches (call_in parked caller) (kept_of kept caller)) ⊎ (Pushes calls items caller)

handed-there : (parked : List ParkedCall) (tenant : TenantId) (journal : List Entry) (asked : Asked) (given : Item) (caller : ℕ)
    → IsPushedItem given → asked.caller ≡ caller → Tells parked tenant journal asked given
    → (found : ParkedCall) × (call_in parked caller ≡ Some found)
handed-there parked tenant journal asked (item.Pushed load spent reads) caller is same tells =
    (record { call = call_of tenant asked; ext = tells.ext; reads = reads }, ap (call_in parked) (sym same) ∙ tells.there)
handed-there parked tenant journal asked item.Repeated caller is same tells = absurd is
handed-there parked tenant journal asked (item.Busy number) caller is same tells = absurd is
handed-there parked tenant journal asked (item.Committed n outcome) caller is same tells = absurd is
handed-there parked tenant journal asked (item.Stale last at) caller is same tells = absurd is
handed-there parked tenant journal asked (item.Conflict table key read read_at now now_at) caller is same tells = absurd is
handed-there parked tenant journal asked (item.Full at) caller is same tells = absurd is
handed-there parked tenant journal asked (item.NoExtension count at) caller is same tells = absurd is
handed-there parked tenant journal asked item.BadBudget caller is same tells = absurd is
handed-there parked tenant journal asked item.Memory caller is same tells = absurd is
handed-there parked tenant journal asked (item.Foreign table) caller is same tells = absurd is
handed-there parked tenant journal asked (item.Shape code) caller is same tells = absurd is
handed-there parked tenant journal asked item.Lied caller is same tells = absurd is
handed-there parked tenant journal asked item.NotParked caller is same tells = absurd is

pushed-there : (parked : List ParkedCall) (tenant : TenantId) (journal : List Entry) (calls : List Asked) (items : List Item) (caller : ℕ)
    → AllTell parked tenant journal calls items → Pushes calls items caller → (found : ParkedCall) × (call_in parked caller ≡ Some found)
pushed-there parked tenant journal [] items caller tell pushes = absurd pushes
pushed-there parked tenant journal (asked ∷ calls) [] caller tell pushes = absurd pushes
pushed-there parked tenant journal (asked ∷ calls) (given ∷ items) caller tell pushes =
    elim pushes [
      | inl h ↦ handed-there parked tenant journal asked given caller h.0 h.1 tell.0
      | inr h ↦ pushed-there parked tenant journal calls items caller tell.1 h
    ]

-- what is kept for certain has a parked call
covered-by : (found : Option ParkedCall) (one : Kept) → Matches found (Some one) → (IsTrue one.doubtful) ⊎ ((call : ParkedCall) × (found ≡ Some call))
covered-by None one matches = inl matches
covered-by (Some call) one matches = inr (call, refl)

covered : (parked : List ParkedCall) (tenant : TenantId) (journal : List Entry) (kept : List Kept) (calls : List Asked) (items : List Item)
    → AllTell parked tenant journal calls items → Match parked kept calls items → Covers parked kept
covered parked tenant journal kept calls items tell match_all caller one found =
    elim (match_all caller) [
      | inl h ↦ covered-by (call_in parked caller) one (subst (λ (k : Option Kept). Matches (call_in parked caller) k) found h)
      | inr h ↦ inr (pushed-there parked tenant journal calls items caller tell h)
    ]

-- ---- One item

-- what is kept behind an item, before the items that follow
record LeftByOne (parked : List ParkedCall) (journal : List Entry) (tenant : TenantId) (kept : List Kept) (asked : Asked) (given : Item) (calls : List Asked) (items : List Item) : Type 0 where
  after : List Kept
  leaves : Leaves journal tenant kept asked given after
  map : IsMap after
  match_all : Match parked after calls items

-- the item hands nothing back
abbrev Stays : Item → Type 0
Stays given = IsPushedItem given → ⊥

match-behind : (parked : List ParkedCall) (kept : List Kept) (asked : Asked) (given : Item) (calls : List Asked) (items : List Item) → Stays given
    → Match parked kept (asked ∷ calls) (given ∷ items) → Match parked kept calls items
match-behind parked kept asked given calls items stays match_all caller =
    elim (match_all caller) [
      | inl h ↦ inl h
      | inr h ↦ elim h [ inl here ↦ absurd (stays here.0) | inr behind ↦ inr behind ]
    ]

as-it-was : (parked : List ParkedCall) (journal : List Entry) (tenant : TenantId) (kept : List Kept) (asked : Asked) (given : Item) (calls : List Asked) (items : List Item)
    → Stays given → Leaves journal tenant kept asked given kept → IsMap kept → Match parked kept (asked ∷ calls) (given ∷ items)
    → LeftByOne parked journal tenant kept asked given calls items
as-it-was parked journal tenant kept asked given calls items stays leaves map match_all = record {
  after = kept;
  leaves = leaves;
  map = map;
  match_all = match-behind parked kept asked given calls items stays match_all;
}

doubtful-by : (found : Option ParkedCall) (kept : Option Kept) → found ≡ None → Matches found kept → (one : Kept) → kept ≡ Some one → IsTrue one.doubtful
doubtful-by None None none matches one is = absurd cc
doubtful-by None (Some kept) none matches one is = let same : kept ≡ one = cc in subst (λ (k : Kept). IsTrue k.doubtful) same matches
doubtful-by (Some call) kept none matches one is = absurd cc

-- where no call of the caller is parked, one that is kept is doubtful, and gone behind the item
without-its-own : (parked : List ParkedCall) (journal : List Entry) (tenant : TenantId) (kept : List Kept) (asked : Asked) (given : Item) (calls : List Asked) (items : List Item)
    → Stays given → Leaves journal tenant kept asked given (without_doubtful kept asked.caller) → call_in parked asked.caller ≡ None
    → AllTell parked tenant journal calls items → IsMap kept → Match parked kept (asked ∷ calls) (given ∷ items)
    → LeftByOne parked journal tenant kept asked given calls items
without-its-own parked journal tenant kept asked given calls items stays leaves none tell map match_all =
    let behind = match-behind parked kept asked given calls items stays match_all in
    let free : IsFreeOf kept asked.caller = (λ one found.
    elim (behind asked.caller) [
      | inl h ↦ doubtful-by (call_in parked asked.caller) (kept_of kept asked.caller) none h one found
      | inr h ↦
          (let there = pushed-there parked tenant journal calls items asked.caller tell h in
          let clash : None ≡ Some there.0 = sym none ∙ there.1 in absurd cc)
    ]) in
    let so = doubtful-so kept asked.caller map free in
    record {
      after = without_doubtful kept asked.caller;
      leaves = leaves;
      map = doubtful-map kept asked.caller map free;
      match_all = λ caller.
          split (caller == asked.caller)
          (λ holds.
          let same : caller ≡ asked.caller = eqb-true caller asked.caller holds in
          inl (subst (λ (n : ℕ). Matches (call_in parked n) (kept_of (without_doubtful kept asked.caller) n)) (sym same)
          (subst (λ (p : Option ParkedCall). Matches p (kept_of (without_doubtful kept asked.caller) asked.caller)) (sym none)
          (subst (λ (k : Option Kept). Matches None k) (sym so.own) tt))))
          (λ fails.
          elim (behind caller) [
            | inl h ↦ inl (subst (λ (k : Option Kept). Matches (call_in parked caller) k) (sym (so.others caller (unlike caller asked.caller fails))) h)
            | inr h ↦ inr h
          ]);
    }

-- the call that is handed back is kept
kept-too : (parked : List ParkedCall) (journal : List Entry) (tenant : TenantId) (kept : List Kept) (asked : Asked) (load spent : ℕ) (reads : List ReadItem) (calls : List Asked) (items : List Item)
    → length parked ≤ MOST_PARKED → IsHandedTo parked tenant journal asked reads
    → AllTell parked tenant journal calls items → IsMap kept → Match parked kept (asked ∷ calls) (item.Pushed load spent reads ∷ items)
    → LeftByOne parked journal tenant kept asked (item.Pushed load spent reads) calls items
kept-too parked journal tenant kept asked load spent reads calls items few handed tell map match_all =
    let call : ParkedCall = record { call = call_of tenant asked; ext = handed.ext; reads = reads } in
    let last : Kept = record { parked = call; doubtful = false } in
    let front : List Kept = without kept asked.caller in
    let gone = without-so kept asked.caller in
    let so = kept-more-so front last gone.own in
    let all : IsMap (front ++ last ∷ []) = kept-more-map front last gone.own (without-map kept asked.caller map) in
    let behind : Match parked (front ++ last ∷ []) calls items = (λ caller.
    split (caller == asked.caller)
    (λ holds.
    let same : caller ≡ asked.caller = eqb-true caller asked.caller holds in
    inl (subst (λ (n : ℕ). Matches (call_in parked n) (kept_of (front ++ last ∷ []) n)) (sym same)
    (subst (λ (p : Option ParkedCall). Matches p (kept_of (front ++ last ∷ []) asked.caller)) (sym handed.there)
    (subst (λ (k : Option Kept). Matches (Some call) k) (sym so.own) refl))))
    (λ fails.
    let differ : caller ≢ asked.caller = unlike caller asked.caller fails in
    elim (match_all caller) [
      | inl h ↦ inl (subst (λ (k : Option Kept). Matches (call_in parked caller) k) (sym (so.others caller differ ∙ gone.others caller differ)) h)
      | inr h ↦ elim h [ inl here ↦ absurd (differ (sym here.1)) | inr later ↦ inr later ]
    ])) in
    record {
      after = front ++ last ∷ [];
      leaves = record {
        moment = handed.moment;
        by_now = handed.by_now;
        ext = handed.ext;
        named = handed.named;
        parked = refl;
        few = (let fewer = few-kept parked (front ++ last ∷ []) all (covered parked tenant journal (front ++ last ∷ []) calls items tell behind) in omega (arith, fewer, few));
      };
      map = all;
      match_all = behind;
    }

left-by-one : (parked : List ParkedCall) (journal : List Entry) (tenant : TenantId) (kept : List Kept) (asked : Asked) (given : Item) (calls : List Asked) (items : List Item)
    → length parked ≤ MOST_PARKED → Tells parked tenant journal asked given
    → AllTell parked tenant journal calls items → IsMap kept → Match parked kept (asked ∷ calls) (given ∷ items)
    → LeftByOne parked journal tenant kept asked given calls items
left-by-one parked journal tenant kept asked item.Repeated calls items few tells tell map match_all =
    as-it-was parked journal tenant kept asked item.Repeated calls items (λ is. is) refl map match_all
left-by-one parked journal tenant kept asked (item.Busy number) calls items few tells tell map match_all =
    as-it-was parked journal tenant kept asked (item.Busy number) calls items (λ is. is) refl map match_all
left-by-one parked journal tenant kept asked (item.Pushed load spent reads) calls items few tells tell map match_all =
    kept-too parked journal tenant kept asked load spent reads calls items few tells tell map match_all
left-by-one parked journal tenant kept asked (item.Committed n outcome) calls items few tells tell map match_all =
    without-its-own parked journal tenant kept asked (item.Committed n outcome) calls items (λ is. is) refl tells tell map match_all
left-by-one parked journal tenant kept asked (item.Stale last at) calls items few tells tell map match_all =
    without-its-own parked journal tenant kept asked (item.Stale last at) calls items (λ is. is) refl tells tell map match_all
left-by-one parked journal tenant kept asked (item.Conflict table key read read_at now now_at) calls items few tells tell map match_all =
    without-its-own parked journal tenant kept asked (item.Conflict table key read read_at now now_at) calls items (λ is. is) refl tells tell map match_all
left-by-one parked journal tenant kept asked (item.Full at) calls items few tells tell map match_all =
    without-its-own parked journal tenant kept asked (item.Full at) calls items (λ is. is) refl tells tell map match_all
left-by-one parked journal tenant kept asked (item.NoExtension count at) calls items few tells tell map match_all =
    without-its-own parked journal tenant kept asked (item.NoExtension count at) calls items (λ is. is) refl tells tell map match_all
left-by-one parked journal tenant kept asked item.BadBudget calls items few tells tell map match_all =
    without-its-own parked journal tenant kept asked item.BadBudget calls items (λ is. is) refl tells tell map match_all
left-by-one parked journal tenant kept asked item.Memory calls items few tells tell map match_all =
    without-its-own parked journal tenant kept asked item.Memory calls items (λ is. is) refl tells tell map match_all
left-by-one parked journal tenant kept asked (item.Foreign table) calls items few tells tell map match_all =
    without-its-own parked journal tenant kept asked (item.Foreign table) calls items (λ is. is) refl tells tell map match_all
left-by-one parked journal tenant kept asked (item.Shape code) calls items few tells tell map match_all =
    without-its-own parked journal tenant kept asked (item.Shape code) calls items (λ is. is) refl tells tell map match_all
left-by-one parked journal tenant kept asked item.Lied calls items few tells tell map match_all =
    without-its-own parked journal tenant kept asked item.Lied calls items (λ is. is) refl tells tell map match_all
left-by-one parked journal tenant kept asked item.NotParked calls items few tells tell map match_all =
    without-its-own parked journal tenant kept asked item.NotParked calls items (λ is. is) refl tells tell map match_all

-- ---- All items

-- what is kept behind all of them, and matches what is parked
pub record Left (parked : List ParkedCall) (journal : List Entry) (tenant : TenantId) (kept : List Kept) (calls : List Asked) (items : List Item) : Type 0 where
  pub after : List Kept
  pub leave : AllLeave journal tenant kept calls items after
  pub map : IsMap after
  pub kept_so : AreKept parked after

pub left-behind : (parked : List ParkedCall) (journal : List Entry) (tenant : TenantId) (kept : List Kept) (calls : List Asked) (items : List Item)
    → length parked ≤ MOST_PARKED → AllTell parked tenant journal calls items → IsMap kept → Match parked kept calls items
    → Left parked journal tenant kept calls items
left-behind parked journal tenant kept [] [] few tell map match_all = record {
  after = kept;
  leave = refl;
  map = map;
  kept_so = λ caller. elim (match_all caller) [ inl h ↦ h | inr h ↦ absurd h ];
}
left-behind parked journal tenant kept [] (given ∷ items) few tell map match_all = absurd tell
left-behind parked journal tenant kept (asked ∷ calls) [] few tell map match_all = absurd tell
left-behind parked journal tenant kept (asked ∷ calls) (given ∷ items) few tell map match_all =
    let one = left-by-one parked journal tenant kept asked given calls items few tell.0 tell.1 map match_all in
    let rest = left-behind parked journal tenant one.after calls items few tell.1 one.map one.match_all in
    record { after = rest.after; leave = (one.after, one.leaves, rest.leave); map = rest.map; kept_so = rest.kept_so }
