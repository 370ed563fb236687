-- Calls that wait for their ends, as they begin and as their ends are told.
use Rattle.std.specs.Prelude.{Bool, true, false, slice_get, if◌then◌else◌}
use Rattle.std.specs.List.{AllByRecursion}
use Rattle.std.proofs.Common.{◌≡◌, ◌≢◌, ◌≤◌, ◌<◌, ◌+◌, ℕ, List, [], ◌∷◌, ◌++◌, length, Some, refl, sym, ap, ◌∙◌, inl, inr, arith, eq-eqb}
use Rattle.std.proofs.lemmas.Option.{slice_get_within}
use Rattle.journal.proofs.Versions.{slice_get-append_seam}
use Rattle.task.specs.Parking.{ParkedCall}
use Rattle.book.specs.declared.ends.CallEnd.{CallEnd}
use Rattle.book.specs.declared.ends.End.{End}
use Rattle.book.specs.declared.ends.End.TheVariants as ended
use Rattle.wire.specs.declared.items.Item.{Item}
use Rattle.wire.specs.declared.items.Item.TheVariants as item
use Rattle.session.specs.declared.batch.Start.{Start}
use Rattle.session.specs.declared.batch.Start.TheVariants as start
use Rattle.session.specs.declared.plan.Begun.{Begun}
use Rattle.session.specs.declared.session.Phase.{Phase}
use Rattle.session.specs.Filling.{Fills, FillsWhere, IsToldAs, waits}
use Rattle.session.specs.Starting.{begun_with, item_so_far}
use Rattle.session.specs.Waiting.{IsToldIn, IsUntold, OneOfEach, PlacesRise, TellsEnd, WaitsAt, ends_at, is_place}
use Rattle.session.proofs.Items.{all-map}
use Rattle.session.proofs.Filling.{get-other, get-same}
use Rattle.session.proofs.Longer.{found-longer}

-- ---- Calls that begin

pub all-push : {A : Type 0} (P : A → Type 0) (xs : List A) (y : A) → AllByRecursion P xs → P y → AllByRecursion P (xs ++ y ∷ [])
all-push P [] y all holds = (holds, tt)
all-push P (x ∷ xs) y all holds = (all.0, all-push P xs y all.1 holds)

rise-more : (from : ℕ) (calls : List Begun) (one : Begun) → from ≤ one.place → PlacesRise from calls
    → AllByRecursion (λ other. other.place < one.place) calls → PlacesRise from (calls ++ one ∷ [])
rise-more from [] one by rise below = (by, tt)
rise-more from (first ∷ calls) one by rise below =
    (rise.0, rise-more (first.place + 1) calls one (let less = below.0 in omega (arith, less)) rise.1 below.1)

-- the places of the calls that began rise
pub begun-rise : (items : List Item) (begun_calls : List Begun) (given : Start) → PlacesRise 0 begun_calls
    → AllByRecursion (λ one. IsUntold items one.place) begun_calls → PlacesRise 0 (begun_with begun_calls (length items) given)
begun-rise items begun_calls (start.Refused refusal) rise untold = rise
begun-rise items begun_calls (start.Began task) rise untold =
    rise-more 0 begun_calls (record { place = length items; task = task }) (omega arith) rise
    (all-map (λ (one : Begun). IsUntold items one.place) (λ (one : Begun). one.place < length items) begun_calls
    (λ one found. slice_get_within items one.place item.Memory found) untold)

-- and each waits for its end
pub begun-untold : (items : List Item) (begun_calls : List Begun) (given : Start) → AllByRecursion (λ one. IsUntold items one.place) begun_calls
    → AllByRecursion (λ one. IsUntold (items ++ item_so_far given ∷ []) one.place) (begun_with begun_calls (length items) given)
begun-untold items begun_calls (start.Refused refusal) untold =
    all-map (λ (one : Begun). IsUntold items one.place) (λ (one : Begun). IsUntold (items ++ refusal ∷ []) one.place) begun_calls
    (λ one found. found-longer items (refusal ∷ []) one.place item.Memory found) untold
begun-untold items begun_calls (start.Began task) untold =
    all-push (λ (one : Begun). IsUntold (items ++ item.Memory ∷ []) one.place) begun_calls (record { place = length items; task = task })
    (all-map (λ (one : Begun). IsUntold items one.place) (λ (one : Begun). IsUntold (items ++ item.Memory ∷ []) one.place) begun_calls
    (λ one found. found-longer items (item.Memory ∷ []) one.place item.Memory found) untold)
    (slice_get-append_seam items item.Memory [])

-- ---- Places

pub place-itself : (place : ℕ) → is_place place place ≡ 1
place-itself place = ap (λ (b : Bool). if b then 1 else 0) (eq-eqb place place refl)

pub other-place : (place other : ℕ) → is_place place other ≡ 0 → place ≢ other
other-place place other none same =
    let one : is_place place other ≡ 1 = ap (is_place place) (sym same) ∙ place-itself place in absurd (omega (arith, one, none))

-- ---- Ends that are told

-- the end is told by the item that is put in its place
told-end : (before after : List ParkedCall) (end : End) (given : Item) → IsToldAs before after end given → TellsEnd end given
told-end before after (ended.Settled commit) given told = told.0
told-end before after (ended.Pushed load spent parked) given told =
    elim told [ inl h ↦ inr h.0 | inr h ↦ inl h.told ]
told-end before after ended.Memory given told = told.0

-- the item at another place stays
kept-where : (before after : List ParkedCall) (items told : List Item) (one : CallEnd) (waiting : Bool) (place : ℕ) (given : Item)
    → FillsWhere waiting before items one after told → place ≢ one.place → slice_get items place ≡ Some given → slice_get told place ≡ Some given
kept-where before after items told one true place given fills elsewhere found =
    ap (λ (list : List Item). slice_get list place) fills.2 ∙ get-other items one.place place fills.0 given elsewhere found
kept-where before after items told one false place given fills elsewhere found =
    ap (λ (list : List Item). slice_get list place) fills.1 ∙ found

kept-all : (before after : List ParkedCall) (items told : List Item) (ends : List CallEnd) (place : ℕ) (given : Item)
    → Fills before items ends after told → ends_at place ends ≡ 0 → slice_get items place ≡ Some given → slice_get told place ≡ Some given
kept-all before after items told [] place given fills none found = ap (λ (list : List Item). slice_get list place) fills.1 ∙ found
kept-all before after items told (one ∷ ends) place given fills none found =
    let here : is_place place one.place ≡ 0 = omega (arith, none) in
    let behind : ends_at place ends ≡ 0 = omega (arith, none) in
    kept-all fills.0 after fills.1 told ends place given fills.3 behind
    (kept-where before fills.0 items fills.1 one (waits (slice_get items one.place)) place given fills.2 (other-place place one.place here) found)

-- the ends behind one of another place still wait
still-untold : (before after : List ParkedCall) (items told : List Item) (one : CallEnd) (waiting : Bool) (ends : List CallEnd)
    → FillsWhere waiting before items one after told → ends_at one.place ends ≡ 0
    → AllByRecursion (λ other. IsUntold items other.place) ends → AllByRecursion (λ other. IsUntold told other.place) ends
still-untold before after items told one waiting [] fills none untold = tt
still-untold before after items told one waiting (other ∷ ends) fills none untold =
    let here : is_place one.place other.place ≡ 0 = omega (arith, none) in
    let behind : ends_at one.place ends ≡ 0 = omega (arith, none) in
    let elsewhere : one.place ≢ other.place = other-place one.place other.place here in (
      kept-where before after items told one waiting other.place item.Memory fills (λ same. elsewhere (sym same)) untold.0,
      still-untold before after items told one waiting ends fills behind untold.1,
    )

first-told : (before after : List ParkedCall) (items told : List Item) (one : CallEnd) (waiting : Bool)
    → FillsWhere waiting before items one after told → waiting ≡ true → IsUntold items one.place → IsToldIn told one
first-told before after items told one true fills is untold = record {
  given = fills.0;
  there = ap (λ (list : List Item). slice_get list one.place) fills.2 ∙ get-same items one.place fills.0 item.Memory untold;
  tells = told-end before after one.end fills.0 fills.1;
}
first-told before after items told one false fills is untold = absurd cc

-- each end of a call that waits for it is told, where no two have the same place
pub ends-told : (before after : List ParkedCall) (items told : List Item) (ends : List CallEnd) → Fills before items ends after told → OneOfEach ends
    → AllByRecursion (λ one. IsUntold items one.place) ends → AllByRecursion (IsToldIn told) ends
ends-told before after items told [] fills each untold = tt
ends-told before after items told (one ∷ ends) fills each untold =
    let at_it = each one.place in
    let itself = place-itself one.place in
    let none : ends_at one.place ends ≡ 0 = omega (arith, at_it, itself) in
    let first : IsToldIn fills.1 one =
    first-told before fills.0 items fills.1 one (waits (slice_get items one.place)) fills.2 (ap waits untold.0) untold.0 in (
      record {
        given = first.given;
        there = kept-all fills.0 after fills.1 told ends one.place first.given fills.3 none first.there;
        tells = first.tells;
      },
      ends-told fills.0 after fills.1 told ends fills.3 (λ place. let at_most = each place in omega (arith, at_most))
          (still-untold before fills.0 items fills.1 one (waits (slice_get items one.place)) ends fills.2 none untold.1),
    )

-- what waits is untold
pub all-untold : (now : Phase) (items : List Item) (ends : List CallEnd) → ((place : ℕ) → WaitsAt now place → IsUntold items place)
    → AllByRecursion (λ one. WaitsAt now one.place) ends → AllByRecursion (λ one. IsUntold items one.place) ends
all-untold now items ends means wait =
    all-map (λ (one : CallEnd). WaitsAt now one.place) (λ (one : CallEnd). IsUntold items one.place) ends (λ one waits_so. means one.place waits_so) wait
