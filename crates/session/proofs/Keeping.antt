-- Calls that are parked, and calls that are kept, as their callers find them.
use Rattle.std.specs.Prelude.{◌==◌, ◌&&◌, ◌≢◌, Bool, true, false, IsTrue, slice_get, slice_set, if◌then◌else◌}
use Rattle.std.specs.List.{insert, remove}
use Rattle.std.proofs.Common.{◌≡◌, ◌≤◌, ◌<◌, ◌+◌, ◌⊎◌, ℕ, zero, suc, List, [], ◌∷◌, ◌++◌, length, get_or, Option, Some, None, refl, sym, subst, ap, ◌∙◌, inl, inr, arith, eq-eqb}
use Rattle.std.proofs.lemmas.Bool.{eqb-true}
use Rattle.std.proofs.lemmas.Option.{slice_get_read}
use Rattle.sp_base.specs.declared.calls.Call.{Call}
use Rattle.task.specs.Parking.{ParkedCall}
use Rattle.session.specs.Keeping.{Changes, IsOfEach, StandsAt, call_in, is_callers}
use Rattle.session.specs.Standing.{AreKept, Matches}
use Rattle.session.specs.States.{IsMap, Kept, is_of, kept_of, parked_count, with_call, without, without_doubtful}

-- ---- Cases

pub split : {A : Type 0} (b : Bool) → (b ≡ true → A) → (b ≡ false → A) → A
split true holds fails = holds refl
split false holds fails = fails refl

pub if-yes : {A : Type 0} (b : Bool) (x y : A) → b ≡ true → (if b then x else y) ≡ x
if-yes true x y is = refl
if-yes false x y is = absurd cc

pub if-no : {A : Type 0} (b : Bool) (x y : A) → b ≡ false → (if b then x else y) ≡ y
if-no true x y is = absurd cc
if-no false x y is = refl

pub apart : (a b : ℕ) → a ≢ b → (a == b) ≡ false
apart a b differ = split (a == b) (λ holds. absurd (differ (eqb-true a b holds))) (λ fails. fails)

pub unlike : (a b : ℕ) → (a == b) ≡ false → a ≢ b
unlike a b fails same = let clash : false ≡ true = sym fails ∙ eq-eqb a b same in cc

pub alike : (a : ℕ) → (a == a) ≡ true
alike a = eq-eqb a a refl

-- ---- Parked calls

pub call-here : (one : ParkedCall) (others : List ParkedCall) (caller : ℕ) → one.call.caller.number ≡ caller → call_in (one ∷ others) caller ≡ Some one
call-here one others caller same =
    if-yes (is_callers caller one) (Some one) (call_in others caller) (eq-eqb one.call.caller.number caller same)

pub call-behind : (one : ParkedCall) (others : List ParkedCall) (caller : ℕ) → one.call.caller.number ≢ caller → call_in (one ∷ others) caller ≡ call_in others caller
call-behind one others caller differ =
    if-no (is_callers caller one) (Some one) (call_in others caller) (apart one.call.caller.number caller differ)

-- the call that a caller finds is its own
pub call-caller : (parked : List ParkedCall) (caller : ℕ) (one : ParkedCall) → call_in parked caller ≡ Some one → one.call.caller.number ≡ caller
call-caller [] caller one found = absurd cc
call-caller (first ∷ others) caller one found =
    split (first.call.caller.number == caller)
    (λ holds.
    let same : first.call.caller.number ≡ caller = eqb-true first.call.caller.number caller holds in
    let both : Some first ≡ Some one = sym (call-here first others caller same) ∙ found in
    let is : first ≡ one = cc in
    ap (λ (p : ParkedCall). p.call.caller.number) (sym is) ∙ same)
    (λ fails. call-caller others caller one
    (sym (call-behind first others caller (unlike first.call.caller.number caller fails)) ∙ found))

-- a caller that finds none among calls has not the first
none-first : (first : ParkedCall) (others : List ParkedCall) (caller : ℕ) → call_in (first ∷ others) caller ≡ None → first.call.caller.number ≢ caller
none-first first others caller none same = let clash : Some first ≡ None = sym (call-here first others caller same) ∙ none in cc

none-rest : (first : ParkedCall) (others : List ParkedCall) (caller : ℕ) → call_in (first ∷ others) caller ≡ None → call_in others caller ≡ None
none-rest first others caller none = sym (call-behind first others caller (none-first first others caller none)) ∙ none

pub call-kept : (parked : List ParkedCall) (last : ParkedCall) (caller : ℕ) (one : ParkedCall) → call_in parked caller ≡ Some one
    → call_in (parked ++ last ∷ []) caller ≡ Some one
call-kept [] last caller one found = absurd cc
call-kept (first ∷ others) last caller one found =
    split (first.call.caller.number == caller)
    (λ holds.
    let same : first.call.caller.number ≡ caller = eqb-true first.call.caller.number caller holds in
    call-here first (others ++ last ∷ []) caller same ∙ sym (call-here first others caller same) ∙ found)
    (λ fails.
    let differ : first.call.caller.number ≢ caller = unlike first.call.caller.number caller fails in
    call-behind first (others ++ last ∷ []) caller differ
    ∙ call-kept others last caller one (sym (call-behind first others caller differ) ∙ found))

pub call-last : (parked : List ParkedCall) (last : ParkedCall) (caller : ℕ) → call_in parked caller ≡ None
    → call_in (parked ++ last ∷ []) caller ≡ call_in (last ∷ []) caller
call-last [] last caller none = refl
call-last (first ∷ others) last caller none =
    call-behind first (others ++ last ∷ []) caller (none-first first others caller none)
    ∙ call-last others last caller (none-rest first others caller none)

-- another caller's call is found as before
pub call-beside : (parked : List ParkedCall) (last : ParkedCall) (caller : ℕ) → last.call.caller.number ≢ caller
    → call_in (parked ++ last ∷ []) caller ≡ call_in parked caller
call-beside [] last caller differ = call-behind last [] caller differ
call-beside (first ∷ others) last caller differ =
    ap (λ (rest : Option ParkedCall). if is_callers caller first then Some first else rest) (call-beside others last caller differ)

pub each-more : (parked : List ParkedCall) (last : ParkedCall) → IsOfEach parked → call_in parked last.call.caller.number ≡ None
    → IsOfEach (parked ++ last ∷ [])
each-more [] last each none = (refl, tt)
each-more (first ∷ others) last each none =
    let differ : first.call.caller.number ≢ last.call.caller.number = none-first first others last.call.caller.number none in (
      call-beside others last first.call.caller.number (λ same. differ (sym same)) ∙ each.0,
      each-more others last each.1 (none-rest first others last.call.caller.number none),
    )

-- what a caller finds is found behind a call of another
changes-behind : (first : ParkedCall) (before after : List ParkedCall) (caller : ℕ) (now : Option ParkedCall)
    → first.call.caller.number ≢ caller → Changes before after caller now → Changes (first ∷ before) (first ∷ after) caller now
changes-behind first before after caller now differ changes = record {
  own = call-behind first after caller differ ∙ changes.own;
  others = λ other apart_from.
      ap (λ (rest : Option ParkedCall). if is_callers other first then Some first else rest) (changes.others other apart_from);
}

-- where a call stands, its caller is that of fails call before
at-behind : (first one : ParkedCall) (others : List ParkedCall) (place : ℕ) → IsOfEach (first ∷ others) → slice_get others place ≡ Some one
    → first.call.caller.number ≢ one.call.caller.number
at-behind first one [] place each found same = absurd cc
at-behind first one (next ∷ others) zero each found same =
    let is : next ≡ one = cc in
    none-first next others first.call.caller.number each.0 (ap (λ (p : ParkedCall). p.call.caller.number) is ∙ sym same)
at-behind first one (next ∷ others) (suc place) each found same =
    at-behind first one others place (none-rest next others first.call.caller.number each.0, each.1.1) found same

pub call-at : (parked : List ParkedCall) (place : ℕ) (one : ParkedCall) → IsOfEach parked → slice_get parked place ≡ Some one
    → call_in parked one.call.caller.number ≡ Some one
call-at [] place one each found = absurd cc
call-at (first ∷ others) zero one each found =
    let is : first ≡ one = cc in
    call-here first others one.call.caller.number (ap (λ (p : ParkedCall). p.call.caller.number) is) ∙ ap Some is
call-at (first ∷ others) (suc place) one each found =
    call-behind first others one.call.caller.number (at-behind first one others place each found) ∙ call-at others place one each.1 found

-- a call in the place of one of the same caller
pub set-changes : (parked : List ParkedCall) (place : ℕ) (one now : ParkedCall) → IsOfEach parked → slice_get parked place ≡ Some one
    → now.call.caller.number ≡ one.call.caller.number
    → Changes parked (slice_set parked place now) one.call.caller.number (Some now)
set-changes [] place one now each found same = absurd cc
set-changes (first ∷ others) zero one now each found same =
    let is : first ≡ one = cc in
    record {
      own = call-here now others one.call.caller.number same;
      others = λ other apart_from.
          call-behind now others other (λ equal. apart_from (sym equal ∙ same))
          ∙ sym (call-behind first others other (λ equal. apart_from (sym equal ∙ ap (λ (p : ParkedCall). p.call.caller.number) is)));
    }
set-changes (first ∷ others) (suc place) one now each found same =
    changes-behind first others (slice_set others place now) one.call.caller.number (Some now)
    (at-behind first one others place each found) (set-changes others place one now each.1 found same)

pub remove-changes : (parked : List ParkedCall) (place : ℕ) (one : ParkedCall) → IsOfEach parked → slice_get parked place ≡ Some one
    → Changes parked (remove parked place) one.call.caller.number None
remove-changes [] place one each found = absurd cc
remove-changes (first ∷ others) zero one each found =
    let is : first ≡ one = cc in
    record {
      own = ap (call_in others) (ap (λ (p : ParkedCall). p.call.caller.number) (sym is)) ∙ each.0;
      others = λ other apart_from.
          sym (call-behind first others other (λ equal. apart_from (sym equal ∙ ap (λ (p : ParkedCall). p.call.caller.number) is)));
    }
remove-changes (first ∷ others) (suc place) one each found =
    changes-behind first others (remove others place) one.call.caller.number None
    (at-behind first one others place each found) (remove-changes others place one each.1 found)

pub set-each : (parked : List ParkedCall) (place : ℕ) (one now : ParkedCall) → IsOfEach parked → slice_get parked place ≡ Some one
    → now.call.caller.number ≡ one.call.caller.number → IsOfEach (slice_set parked place now)
set-each [] place one now each found same = absurd cc
set-each (first ∷ others) zero one now each found same =
    let is : first ≡ one = cc in
    (ap (call_in others) (same ∙ ap (λ (p : ParkedCall). p.call.caller.number) (sym is)) ∙ each.0, each.1)
set-each (first ∷ others) (suc place) one now each found same = (
  (set-changes others place one now each.1 found same).others first.call.caller.number
      (at-behind first one others place each found) ∙ each.0,
  set-each others place one now each.1 found same,
)

pub remove-each : (parked : List ParkedCall) (place : ℕ) (one : ParkedCall) → IsOfEach parked → slice_get parked place ≡ Some one
    → IsOfEach (remove parked place)
remove-each [] place one each found = absurd cc
remove-each (first ∷ others) zero one each found = each.1
remove-each (first ∷ others) (suc place) one each found = (
  (remove-changes others place one each.1 found).others first.call.caller.number
      (at-behind first one others place each found) ∙ each.0,
  remove-each others place one each.1 found,
)

pub back-in-place : {A : Type 0} (xs : List A) (place : ℕ) (x : A) → slice_get xs place ≡ Some x → insert (remove xs place) place x ≡ xs
back-in-place {A = A} [] place x found = absurd cc
back-in-place {A = A} (y ∷ xs) zero x found = let is : y ≡ x = cc in ap (λ (z : A). z ∷ xs) (sym is)
back-in-place {A = A} (y ∷ xs) (suc place) x found = ap (λ (rest : List A). y ∷ rest) (back-in-place xs place x found)

-- ---- Kept calls

kept-here : (one : Kept) (others : List Kept) (caller : ℕ) → one.parked.call.caller.number ≡ caller → kept_of (one ∷ others) caller ≡ Some one
kept-here one others caller same =
    if-yes (is_of caller one) (Some one) (kept_of others caller) (eq-eqb one.parked.call.caller.number caller same)

kept-behind : (one : Kept) (others : List Kept) (caller : ℕ) → one.parked.call.caller.number ≢ caller → kept_of (one ∷ others) caller ≡ kept_of others caller
kept-behind one others caller differ =
    if-no (is_of caller one) (Some one) (kept_of others caller) (apart one.parked.call.caller.number caller differ)

pub kept-caller : (kept : List Kept) (caller : ℕ) (one : Kept) → kept_of kept caller ≡ Some one → one.parked.call.caller.number ≡ caller
kept-caller [] caller one found = absurd cc
kept-caller (first ∷ others) caller one found =
    split (first.parked.call.caller.number == caller)
    (λ holds.
    let same : first.parked.call.caller.number ≡ caller = eqb-true first.parked.call.caller.number caller holds in
    let both : Some first ≡ Some one = sym (kept-here first others caller same) ∙ found in
    let is : first ≡ one = cc in
    ap (λ (k : Kept). k.parked.call.caller.number) (sym is) ∙ same)
    (λ fails. kept-caller others caller one
    (sym (kept-behind first others caller (unlike first.parked.call.caller.number caller fails)) ∙ found))

-- what becomes of a caller's kept call, and of those of the others
pub record KeptSo (before after : List Kept) (caller : ℕ) (now : Option Kept) : Type 0 where
  pub own : kept_of after caller ≡ now
  pub others : (other : ℕ) → other ≢ caller → kept_of after other ≡ kept_of before other

so-behind : (first : Kept) (before after : List Kept) (caller : ℕ) (now : Option Kept)
    → first.parked.call.caller.number ≢ caller → KeptSo before after caller now → KeptSo (first ∷ before) (first ∷ after) caller now
so-behind first before after caller now differ so = record {
  own = kept-behind first after caller differ ∙ so.own;
  others = λ other apart_from.
      ap (λ (rest : Option Kept). if is_of other first then Some first else rest) (so.others other apart_from);
}

so-dropped : (first : Kept) (before after : List Kept) (caller : ℕ) (now : Option Kept)
    → first.parked.call.caller.number ≡ caller → KeptSo before after caller now → KeptSo (first ∷ before) after caller now
so-dropped first before after caller now same so = record {
  own = so.own;
  others = λ other apart_from.
      so.others other apart_from ∙ sym (kept-behind first before other (λ equal. apart_from (sym equal ∙ same)));
}

pub without-so : (kept : List Kept) (caller : ℕ) → KeptSo kept (without kept caller) caller None
without-so [] caller = record { own = refl; others = λ other apart_from. refl }
without-so (first ∷ others) caller =
    split (first.parked.call.caller.number == caller)
    (λ holds.
    subst (λ (after : List Kept). KeptSo (first ∷ others) after caller None)
    (sym (if-yes (is_of caller first) (without others caller) (first ∷ without others caller) holds))
    (so-dropped first others (without others caller) caller None (eqb-true first.parked.call.caller.number caller holds) (without-so others caller)))
    (λ fails.
    subst (λ (after : List Kept). KeptSo (first ∷ others) after caller None)
    (sym (if-no (is_of caller first) (without others caller) (first ∷ without others caller) fails))
    (so-behind first others (without others caller) caller None (unlike first.parked.call.caller.number caller fails) (without-so others caller)))

map-with : (first : Kept) (before after : List Kept) (caller : ℕ) (now : Option Kept) → first.parked.call.caller.number ≢ caller
    → kept_of before first.parked.call.caller.number ≡ None → KeptSo before after caller now → IsMap after → IsMap (first ∷ after)
map-with first before after caller now differ none so map = (so.others first.parked.call.caller.number differ ∙ none, map)

pub without-map : (kept : List Kept) (caller : ℕ) → IsMap kept → IsMap (without kept caller)
without-map [] caller map = tt
without-map (first ∷ others) caller map =
    split (first.parked.call.caller.number == caller)
    (λ holds.
    subst IsMap (sym (if-yes (is_of caller first) (without others caller) (first ∷ without others caller) holds)) (without-map others caller map.1))
    (λ fails.
    subst IsMap (sym (if-no (is_of caller first) (without others caller) (first ∷ without others caller) fails))
    (map-with first others (without others caller) caller None (unlike first.parked.call.caller.number caller fails) map.0
    (without-so others caller) (without-map others caller map.1)))

-- a call of a caller that has none
pub kept-more-so : (kept : List Kept) (last : Kept) → kept_of kept last.parked.call.caller.number ≡ None
    → KeptSo kept (kept ++ last ∷ []) last.parked.call.caller.number (Some last)
kept-more-so [] last none = record {
  own = kept-here last [] last.parked.call.caller.number refl;
  others = λ other apart_from. kept-behind last [] other (λ equal. apart_from (sym equal));
}
kept-more-so (first ∷ others) last none =
    let differ : first.parked.call.caller.number ≢ last.parked.call.caller.number =
    (λ same. let clash : Some first ≡ None = sym (kept-here first others last.parked.call.caller.number same) ∙ none in cc) in
    so-behind first others (others ++ last ∷ []) last.parked.call.caller.number (Some last) differ
    (kept-more-so others last (sym (kept-behind first others last.parked.call.caller.number differ) ∙ none))

pub kept-more-map : (kept : List Kept) (last : Kept) → kept_of kept last.parked.call.caller.number ≡ None → IsMap kept → IsMap (kept ++ last ∷ [])
kept-more-map [] last none map = (refl, tt)
kept-more-map (first ∷ others) last none map =
    let differ : first.parked.call.caller.number ≢ last.parked.call.caller.number =
    (λ same. let clash : Some first ≡ None = sym (kept-here first others last.parked.call.caller.number same) ∙ none in cc) in
    let behind : kept_of others last.parked.call.caller.number ≡ None = sym (kept-behind first others last.parked.call.caller.number differ) ∙ none in
    map-with first others (others ++ last ∷ []) last.parked.call.caller.number (Some last) differ map.0
    (kept-more-so others last behind) (kept-more-map others last behind map.1)

with-none : (kept : List Kept) (caller : ℕ) (now : Kept) → kept_of kept caller ≡ None → with_call kept caller now ≡ kept
with-none [] caller now none = refl
with-none (first ∷ others) caller now none =
    let differ : first.parked.call.caller.number ≢ caller =
    (λ same. let clash : Some first ≡ None = sym (kept-here first others caller same) ∙ none in cc) in
    if-no (is_of caller first) (now ∷ with_call others caller now) (first ∷ with_call others caller now) (apart first.parked.call.caller.number caller differ)
    ∙ ap (λ (rest : List Kept). first ∷ rest) (with-none others caller now (sym (kept-behind first others caller differ) ∙ none))

-- a caller's call as it now is
pub with-so : (kept : List Kept) (caller : ℕ) (one now : Kept) → IsMap kept → kept_of kept caller ≡ Some one
    → now.parked.call.caller.number ≡ caller → KeptSo kept (with_call kept caller now) caller (Some now)
with-so [] caller one now map found own = absurd cc
with-so (first ∷ others) caller one now map found own =
    split (first.parked.call.caller.number == caller)
    (λ holds.
    let same : first.parked.call.caller.number ≡ caller = eqb-true first.parked.call.caller.number caller holds in
    let rest : with_call others caller now ≡ others = with-none others caller now (ap (kept_of others) (sym same) ∙ map.0) in
    subst (λ (after : List Kept). KeptSo (first ∷ others) after caller (Some now))
    (ap (λ (list : List Kept). now ∷ list) (sym rest) ∙ sym (if-yes (is_of caller first) (now ∷ with_call others caller now) (first ∷ with_call others caller now) holds))
    (record {
      own = kept-here now others caller own;
      others = λ other apart_from.
          kept-behind now others other (λ equal. apart_from (sym equal ∙ own))
          ∙ sym (kept-behind first others other (λ equal. apart_from (sym equal ∙ same)));
    }))
    (λ fails.
    let differ : first.parked.call.caller.number ≢ caller = unlike first.parked.call.caller.number caller fails in
    subst (λ (after : List Kept). KeptSo (first ∷ others) after caller (Some now))
    (sym (if-no (is_of caller first) (now ∷ with_call others caller now) (first ∷ with_call others caller now) fails))
    (so-behind first others (with_call others caller now) caller (Some now) differ
    (with-so others caller one now map.1 (sym (kept-behind first others caller differ) ∙ found) own)))

pub with-map : (kept : List Kept) (caller : ℕ) (one now : Kept) → IsMap kept → kept_of kept caller ≡ Some one
    → now.parked.call.caller.number ≡ caller → IsMap (with_call kept caller now)
with-map [] caller one now map found own = absurd cc
with-map (first ∷ others) caller one now map found own =
    split (first.parked.call.caller.number == caller)
    (λ holds.
    let same : first.parked.call.caller.number ≡ caller = eqb-true first.parked.call.caller.number caller holds in
    let none : kept_of others caller ≡ None = ap (kept_of others) (sym same) ∙ map.0 in
    subst IsMap
    (ap (λ (list : List Kept). now ∷ list) (sym (with-none others caller now none))
    ∙ sym (if-yes (is_of caller first) (now ∷ with_call others caller now) (first ∷ with_call others caller now) holds))
    (ap (kept_of others) own ∙ none, map.1))
    (λ fails.
    let differ : first.parked.call.caller.number ≢ caller = unlike first.parked.call.caller.number caller fails in
    let behind : kept_of others caller ≡ Some one = sym (kept-behind first others caller differ) ∙ found in
    subst IsMap (sym (if-no (is_of caller first) (now ∷ with_call others caller now) (first ∷ with_call others caller now) fails))
    (map-with first others (with_call others caller now) caller (Some now) differ map.0
    (with-so others caller one now map.1 behind own) (with-map others caller one now map.1 behind own)))

-- a caller's doubtful call is gone
both-yes : (one other : Bool) → one ≡ true → other ≡ true → (one && other) ≡ true
both-yes one other is are = ap (λ (b : Bool). b && other) is ∙ are

pub doubtful-none : (kept : List Kept) (caller : ℕ) → kept_of kept caller ≡ None → without_doubtful kept caller ≡ kept
doubtful-none [] caller none = refl
doubtful-none (first ∷ others) caller none =
    let differ : first.parked.call.caller.number ≢ caller =
    (λ same. let clash : Some first ≡ None = sym (kept-here first others caller same) ∙ none in cc) in
    if-no (is_of caller first && first.doubtful) (without_doubtful others caller) (first ∷ without_doubtful others caller)
    (ap (λ (b : Bool). b && first.doubtful) (apart first.parked.call.caller.number caller differ))
    ∙ ap (λ (rest : List Kept). first ∷ rest) (doubtful-none others caller (sym (kept-behind first others caller differ) ∙ none))

-- fails call of the caller is kept, or a doubtful one
abbrev pub IsFreeOf : List Kept → ℕ → Type 0
IsFreeOf kept caller = (one : Kept) → kept_of kept caller ≡ Some one → IsTrue one.doubtful

pub doubtful-so : (kept : List Kept) (caller : ℕ) → IsMap kept → IsFreeOf kept caller → KeptSo kept (without_doubtful kept caller) caller None
doubtful-so [] caller map free = record { own = refl; others = λ other apart_from. refl }
doubtful-so (first ∷ others) caller map free =
    split (first.parked.call.caller.number == caller)
    (λ holds.
    let same : first.parked.call.caller.number ≡ caller = eqb-true first.parked.call.caller.number caller holds in
    let none : kept_of others caller ≡ None = ap (kept_of others) (sym same) ∙ map.0 in
    let doubtful : first.doubtful ≡ true = free first (kept-here first others caller same) in
    subst (λ (after : List Kept). KeptSo (first ∷ others) after caller None)
    (sym (doubtful-none others caller none)
    ∙ sym (if-yes (is_of caller first && first.doubtful) (without_doubtful others caller) (first ∷ without_doubtful others caller)
    (both-yes (is_of caller first) first.doubtful holds doubtful)))
    (so-dropped first others others caller None same (record { own = none; others = λ other apart_from. refl })))
    (λ fails.
    let differ : first.parked.call.caller.number ≢ caller = unlike first.parked.call.caller.number caller fails in
    subst (λ (after : List Kept). KeptSo (first ∷ others) after caller None)
    (sym (if-no (is_of caller first && first.doubtful) (without_doubtful others caller) (first ∷ without_doubtful others caller)
    (ap (λ (b : Bool). b && first.doubtful) fails)))
    (so-behind first others (without_doubtful others caller) caller None differ
    (doubtful-so others caller map.1 (λ one found. free one (kept-behind first others caller differ ∙ found)))))

pub doubtful-map : (kept : List Kept) (caller : ℕ) → IsMap kept → IsFreeOf kept caller → IsMap (without_doubtful kept caller)
doubtful-map [] caller map free = tt
doubtful-map (first ∷ others) caller map free =
    split (first.parked.call.caller.number == caller)
    (λ holds.
    let same : first.parked.call.caller.number ≡ caller = eqb-true first.parked.call.caller.number caller holds in
    let none : kept_of others caller ≡ None = ap (kept_of others) (sym same) ∙ map.0 in
    let doubtful : first.doubtful ≡ true = free first (kept-here first others caller same) in
    subst IsMap
    (sym (doubtful-none others caller none)
    ∙ sym (if-yes (is_of caller first && first.doubtful) (without_doubtful others caller) (first ∷ without_doubtful others caller)
    (both-yes (is_of caller first) first.doubtful holds doubtful)))
    map.1)
    (λ fails.
    let differ : first.parked.call.caller.number ≢ caller = unlike first.parked.call.caller.number caller fails in
    let behind : IsFreeOf others caller = (λ one found. free one (kept-behind first others caller differ ∙ found)) in
    subst IsMap (sym (if-no (is_of caller first && first.doubtful) (without_doubtful others caller) (first ∷ without_doubtful others caller)
    (ap (λ (b : Bool). b && first.doubtful) fails)))
    (map-with first others (without_doubtful others caller) caller None differ map.0
    (doubtful-so others caller map.1 behind) (doubtful-map others caller map.1 behind)))

-- ---- Both

matches-none : (found : Option Kept) → Matches None found → (one : Kept) → found ≡ Some one → IsTrue one.doubtful
matches-none None matches one is = absurd cc
matches-none (Some kept) matches one is = let same : kept ≡ one = cc in subst (λ (k : Kept). IsTrue k.doubtful) same matches

-- a caller with fails parked call has none that is kept, or a doubtful one
pub free-of : (parked : List ParkedCall) (kept : List Kept) (caller : ℕ) → AreKept parked kept → call_in parked caller ≡ None → IsFreeOf kept caller
free-of parked kept caller are none =
    matches-none (kept_of kept caller) (subst (λ (p : Option ParkedCall). Matches p (kept_of kept caller)) none (are caller))

-- the call that is kept of a parked one
pub record HasKept (kept : List Kept) (caller : ℕ) (parked : ParkedCall) : Type 0 where
  pub one : Kept
  pub found : kept_of kept caller ≡ Some one
  pub is : parked ≡ one.parked

matches-some : (kept : List Kept) (caller : ℕ) (parked : ParkedCall) (found : Option Kept) → kept_of kept caller ≡ found → Matches (Some parked) found
    → HasKept kept caller parked
matches-some kept caller parked None is matches = absurd matches
matches-some kept caller parked (Some one) is matches = record { one = one; found = is; is = matches }

pub kept-there : (parked : List ParkedCall) (kept : List Kept) (caller : ℕ) (one : ParkedCall) → AreKept parked kept → call_in parked caller ≡ Some one
    → HasKept kept caller one
kept-there parked kept caller one are found =
    matches-some kept caller one (kept_of kept caller) refl
    (subst (λ (p : Option ParkedCall). Matches p (kept_of kept caller)) found (are caller))

-- a change of a caller's call on both sides
pub kept-changed : (before after : List ParkedCall) (kept left : List Kept) (caller : ℕ) (now : Option ParkedCall) (so : Option Kept)
    → AreKept before kept → Changes before after caller now → KeptSo kept left caller so → Matches now so → AreKept after left
kept-changed before after kept left caller now so are changes keeps matches other =
    split (other == caller)
    (λ holds.
    let same : other ≡ caller = eqb-true other caller holds in
    subst (λ (n : ℕ). Matches (call_in after n) (kept_of left n)) (sym same)
    (subst (λ (p : Option ParkedCall). Matches p (kept_of left caller)) (sym changes.own)
    (subst (λ (k : Option Kept). Matches now k) (sym keeps.own) matches)))
    (λ fails.
    let differ : other ≢ caller = unlike other caller fails in
    subst (λ (p : Option ParkedCall). Matches p (kept_of left other)) (sym (changes.others other differ))
    (subst (λ (k : Option Kept). Matches (call_in before other) k) (sym (keeps.others other differ)) (are other)))

-- ---- States that keep just the parked calls

abbrev pub kept_all : List ParkedCall → List Kept
kept_all [] = []
kept_all (one ∷ others) = record { parked = one; doubtful = false } ∷ kept_all others

pub kept-all-are : (parked : List ParkedCall) → AreKept parked (kept_all parked)
kept-all-are [] caller = tt
kept-all-are (one ∷ others) caller =
    let all : Kept = record { parked = one; doubtful = false } in
    split (one.call.caller.number == caller)
    (λ holds.
    let same : one.call.caller.number ≡ caller = eqb-true one.call.caller.number caller holds in
    subst (λ (p : Option ParkedCall). Matches p (kept_of (kept_all (one ∷ others)) caller)) (sym (call-here one others caller same))
    (subst (λ (k : Option Kept). Matches (Some one) k) (sym (kept-here all (kept_all others) caller same)) refl))
    (λ fails.
    let differ : one.call.caller.number ≢ caller = unlike one.call.caller.number caller fails in
    subst (λ (p : Option ParkedCall). Matches p (kept_of (kept_all (one ∷ others)) caller)) (sym (call-behind one others caller differ))
    (subst (λ (k : Option Kept). Matches (call_in others caller) k) (sym (kept-behind all (kept_all others) caller differ))
    (kept-all-are others caller)))

none-kept : (found : Option ParkedCall) (kept : Option Kept) → found ≡ None → Matches found kept
    → ((one : Kept) → kept ≡ Some one → one.doubtful ≡ false) → kept ≡ None
none-kept None None none matches certain = refl
none-kept None (Some kept) none matches certain = let clash : false ≡ true = sym (certain kept refl) ∙ matches in absurd cc
none-kept (Some parked) kept none matches certain = absurd cc

all-certain : (parked : List ParkedCall) (caller : ℕ) (one : Kept) → kept_of (kept_all parked) caller ≡ Some one → one.doubtful ≡ false
all-certain [] caller one found = absurd cc
all-certain (first ∷ others) caller one found =
    let all : Kept = record { parked = first; doubtful = false } in
    split (first.call.caller.number == caller)
    (λ holds.
    let same : first.call.caller.number ≡ caller = eqb-true first.call.caller.number caller holds in
    let both : Some all ≡ Some one = sym (kept-here all (kept_all others) caller same) ∙ found in
    let is : all ≡ one = cc in
    ap (λ (k : Kept). k.doubtful) (sym is))
    (λ fails. all-certain others caller one
    (sym (kept-behind all (kept_all others) caller (unlike first.call.caller.number caller fails)) ∙ found))

pub kept-all-map : (parked : List ParkedCall) → IsOfEach parked → IsMap (kept_all parked)
kept-all-map [] each = tt
kept-all-map (one ∷ others) each = (
  none-kept (call_in others one.call.caller.number) (kept_of (kept_all others) one.call.caller.number) each.0
      (kept-all-are others one.call.caller.number) (all-certain others one.call.caller.number),
  kept-all-map others each.1,
)

-- ---- How many are kept

-- without the calls of a caller
abbrev less : List ParkedCall → ℕ → List ParkedCall
less [] caller = []
less (one ∷ others) caller = if is_callers caller one then less others caller else one ∷ less others caller

less-beside : (parked : List ParkedCall) (caller other : ℕ) → other ≢ caller → call_in (less parked caller) other ≡ call_in parked other
less-beside [] caller other differ = refl
less-beside (one ∷ others) caller other differ =
    split (one.call.caller.number == caller)
    (λ holds.
    let same : one.call.caller.number ≡ caller = eqb-true one.call.caller.number caller holds in
    ap (λ (list : List ParkedCall). call_in list other) (if-yes (is_callers caller one) (less others caller) (one ∷ less others caller) holds)
    ∙ less-beside others caller other differ ∙ sym (call-behind one others other (λ equal. differ (sym equal ∙ same))))
    (λ fails.
    ap (λ (list : List ParkedCall). call_in list other) (if-no (is_callers caller one) (less others caller) (one ∷ less others caller) fails)
    ∙ ap (λ (rest : Option ParkedCall). if is_callers other one then Some one else rest) (less-beside others caller other differ))

less-short : (parked : List ParkedCall) (caller : ℕ) → length (less parked caller) ≤ length parked
less-short [] caller = omega arith
less-short (one ∷ others) caller =
    let rest = less-short others caller in
    split (one.call.caller.number == caller)
    (λ holds. let is = ap length (if-yes (is_callers caller one) (less others caller) (one ∷ less others caller) holds) in omega (arith, is, rest))
    (λ fails. let is = ap length (if-no (is_callers caller one) (less others caller) (one ∷ less others caller) fails) in omega (arith, is, rest))

less-shorter : (parked : List ParkedCall) (caller : ℕ) (found : ParkedCall) → call_in parked caller ≡ Some found → length (less parked caller) < length parked
less-shorter [] caller found is = absurd cc
less-shorter (one ∷ others) caller found is =
    split (one.call.caller.number == caller)
    (λ holds.
    let same = ap length (if-yes (is_callers caller one) (less others caller) (one ∷ less others caller) holds) in
    omega (arith, same, less-short others caller))
    (λ fails.
    let same = ap length (if-no (is_callers caller one) (less others caller) (one ∷ less others caller) fails) in
    let rest = less-shorter others caller found (sym (call-behind one others caller (unlike one.call.caller.number caller fails)) ∙ is) in
    omega (arith, same, rest))

-- each call that is kept and not doubtful is of a caller with a parked one
abbrev pub Covers : List ParkedCall → List Kept → Type 0
Covers parked kept = (caller : ℕ) (one : Kept) → kept_of kept caller ≡ Some one
    → (IsTrue one.doubtful) ⊎ ((found : ParkedCall) × (call_in parked caller ≡ Some found))

covers-less : (parked : List ParkedCall) (first : Kept) (others : List Kept) → Covers parked (first ∷ others)
    → kept_of others first.parked.call.caller.number ≡ None → Covers (less parked first.parked.call.caller.number) others
covers-less parked first others covers none caller one found =
    split (caller == first.parked.call.caller.number)
    (λ holds.
    let same : caller ≡ first.parked.call.caller.number = eqb-true caller first.parked.call.caller.number holds in
    let clash : Some one ≡ None = sym found ∙ ap (kept_of others) same ∙ none in absurd cc)
    (λ fails.
    let differ : caller ≢ first.parked.call.caller.number = unlike caller first.parked.call.caller.number fails in
    elim (covers caller one (kept-behind first others caller (λ equal. differ (sym equal)) ∙ found)) [
      | inl doubtful ↦ inl doubtful
      | inr there ↦ inr (there.0, less-beside parked first.parked.call.caller.number caller differ ∙ there.1)
    ])

counted : (parked : List ParkedCall) (first : Kept) (others : List Kept) (doubtful : Bool) → first.doubtful ≡ doubtful → Covers parked (first ∷ others)
    → parked_count others ≤ length (less parked first.parked.call.caller.number)
    → (if doubtful then parked_count others else parked_count others + 1) ≤ length parked
counted parked first others true is covers rest = omega (arith, rest, less-short parked first.parked.call.caller.number)
counted parked first others false is covers rest =
    elim (covers first.parked.call.caller.number first (kept-here first others first.parked.call.caller.number refl)) [
      | inl doubtful ↦ (let clash : false ≡ true = sym is ∙ doubtful in absurd cc)
      | inr there ↦ (let shorter = less-shorter parked first.parked.call.caller.number there.0 there.1 in omega (arith, rest, shorter))
    ]

-- fails more are kept for certain than are parked
pub few-kept : (parked : List ParkedCall) (kept : List Kept) → IsMap kept → Covers parked kept → parked_count kept ≤ length parked
few-kept parked [] map covers = omega arith
few-kept parked (first ∷ others) map covers =
    counted parked first others first.doubtful refl covers
    (few-kept (less parked first.parked.call.caller.number) others map.1 (covers-less parked first others covers map.0))

-- ---- Where a call stands

some-within : {A : Type 0} (xs : List A) (i : ℕ) → i < length xs → (x : A) × (slice_get xs i ≡ Some x)
some-within [] i within = absurd (omega arith)
some-within (x ∷ xs) zero within = (x, refl)
some-within (x ∷ xs) (suc i) within = some-within xs i (omega arith)

-- the call that stands at its place
pub record HasPlace (parked : List ParkedCall) (caller place : ℕ) : Type 0 where
  pub one : ParkedCall
  pub at : slice_get parked place ≡ Some one
  pub found : call_in parked caller ≡ Some one
  pub own : one.call.caller.number ≡ caller

pub has-place : (parked : List ParkedCall) (caller place : ℕ) → StandsAt parked caller place → HasPlace parked caller place
has-place parked caller place stands =
    let at = some-within parked place stands.within in
    let found : call_in parked caller ≡ Some at.0 = sym stands.there ∙ at.1 in
    record { one = at.0; at = at.1; found = found; own = call-caller parked caller at.0 found }

pub removed : (parked after : List ParkedCall) (caller place : ℕ) → IsOfEach parked → StandsAt parked caller place → after ≡ remove parked place
    → Changes parked after caller None × IsOfEach after
removed parked after caller place each stands is =
    let there = has-place parked caller place stands in
    subst (λ (list : List ParkedCall). Changes parked list caller None × IsOfEach list) (sym is) (
      subst (λ (n : ℕ). Changes parked (remove parked place) n None) there.own (remove-changes parked place there.one each there.at),
      remove-each parked place there.one each there.at,
    )

pub replaced : (parked after : List ParkedCall) (caller place : ℕ) (one now : ParkedCall) → IsOfEach parked → StandsAt parked caller place
    → call_in parked caller ≡ Some one → now.call ≡ one.call → after ≡ slice_set parked place now
    → Changes parked after caller (Some now) × IsOfEach after
replaced parked after caller place one now each stands found same is =
    let there = has-place parked caller place stands in
    let both : Some there.one ≡ Some one = sym there.found ∙ found in
    let equal : there.one ≡ one = cc in
    let own : now.call.caller.number ≡ there.one.call.caller.number =
    ap (λ (call : Call). call.caller.number) same ∙ ap (λ (p : ParkedCall). p.call.caller.number) (sym equal) in
    subst (λ (list : List ParkedCall). Changes parked list caller (Some now) × IsOfEach list) (sym is) (
      subst (λ (n : ℕ). Changes parked (slice_set parked place now) n (Some now)) there.own
          (set-changes parked place there.one now each there.at own),
      set-each parked place there.one now each there.at own,
    )

-- a call of the same caller is written where one stands
pub rewritten : (parked after : List ParkedCall) (caller place : ℕ) (old now : ParkedCall) → IsOfEach parked → StandsAt parked caller place
    → old ≡ get_or parked place old → now.call ≡ old.call → after ≡ slice_set parked place now
    → (call_in parked caller ≡ Some old) × Changes parked after caller (Some now) × IsOfEach after
rewritten parked after caller place old now each stands read same is =
    let there = has-place parked caller place stands in
    let found : call_in parked caller ≡ Some old = sym stands.there ∙ slice_get_read parked _ place old refl stands.within read in
    let changed = replaced parked after caller place old now each stands found same is in
    (found, changed.0, changed.1)

-- a call of a caller with none is parked behind the others
pub parks : (parked seen after : List ParkedCall) (last : ParkedCall) (call : Call) → IsOfEach parked → seen ≡ parked → call ≡ last.call
    → call_in seen call.caller.number ≡ None → after ≡ parked ++ last ∷ []
    → (call_in parked last.call.caller.number ≡ None) × IsOfEach after
parks parked seen after last call each whole same none is =
    let free : call_in parked last.call.caller.number ≡ None =
    ap (λ (one : Call). call_in parked one.caller.number) (sym same)
    ∙ ap (λ (list : List ParkedCall). call_in list call.caller.number) (sym whole) ∙ none in
    (free, subst IsOfEach (sym is) (each-more parked last each free))
