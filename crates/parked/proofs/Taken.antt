-- What is not refused has the shape of a run, and its tables may be written.
use Rattle.std.specs.Prelude.{◌≢◌, ◌||◌, IsTrue, map, nat_lt, if◌then◌else◌}
use Rattle.std.specs.List.{AllByRecursion, IsDistinct, list_any}
use Rattle.std.proofs.Common.{◌≡◌, ◌≤◌, Bool, true, false, List, [], ◌∷◌, length, Option, Some, None, refl}
use borrow.Author.Tests.{ltb-false}
use Rattle.sp_base.specs.Places.{Place, same_place}
use Rattle.sp_base.specs.RightsList.{can_write}
use Rattle.sp_base.specs.declared.numbers.TableId.{TableId}
use Rattle.sp_base.specs.declared.outcomes.Outcome.{Outcome}
use Rattle.sp_base.specs.declared.rights.Level.{Level}
use Rattle.sp_base.specs.declared.writes.Write.{Write}
use Rattle.ext_mean.specs.MeaningValues.{place_changed}
use Rattle.rw_set.specs.Sending.{is_done}
use Rattle.parked.specs.declared.refused.Refused.{Refused}
use Rattle.parked.specs.Taking.{changes_unfinished, foreign_in, refusal_of, stands_twice}

-- a reason that is not told does not apply, and neither do those behind it
unrefused : (applies : Bool) (why : Refused) (rest : Option Refused) → (if applies then Some why else rest) ≡ None
    → (applies ≡ false) × (rest ≡ None)
unrefused true why rest none = absurd (cc)
unrefused false why rest none = (refl, none)

neither : (one other : Bool) → (one || other) ≡ false → (one ≡ false) × (other ≡ false)
neither true other none = absurd (cc)
neither false other none = (refl, none)

none-pass : {A : Type 0} (test : A → Bool) (xs : List A) → list_any test xs ≡ false → AllByRecursion (λ x. test x ≡ false) xs
none-pass test [] none = tt
none-pass test (x ∷ xs) none =
    let both = neither (test x) (list_any test xs) none in
    (both.0, none-pass test xs both.1)

pub once-distinct : (places : List Place) → stands_twice places ≡ false → IsDistinct same_place places
unfolding IsDistinct
once-distinct [] once = tt
once-distinct (place ∷ places) once =
    let both = neither (list_any (same_place place) places) (stands_twice places) once in
    (none-pass (same_place place) places both.0, once-distinct places both.1)

done-chosen : (done : Bool) → (if done then false else true) ≡ false → done ≡ true
done-chosen true none = refl
done-chosen false none = absurd (cc)

finished-shaped : (outcome : Outcome) (writes : List Write) → changes_unfinished outcome writes ≡ false
    → writes ≢ [] → IsTrue (is_done outcome)
finished-shaped outcome [] none some = absurd (some refl)
finished-shaped outcome (write ∷ writes) none some = done-chosen (is_done outcome) none

allowed : (may : Bool) (why : Refused) (rest : Option Refused) → (if may then rest else Some why) ≡ None
    → (may ≡ true) × (rest ≡ None)
allowed true why rest none = (refl, none)
allowed false why rest none = absurd (cc)

all-writable : (rights : List (TableId × Level)) (writes : List Write) → foreign_in rights writes ≡ None
    → AllByRecursion (λ write. IsTrue (can_write rights write.table.0)) writes
all-writable rights [] none = tt
all-writable rights (write ∷ writes) none =
    let first = allowed (can_write rights write.table.0) _ (foreign_in rights writes) none in
    (first.0, all-writable rights writes first.1)

-- what holds of an end that is not refused
pub record IsTaken (rights : List (TableId × Level)) (outcome : Outcome) (writes : List Write) : Type 0 where
  pub few : length writes ≤ 64
  pub distinct : IsDistinct same_place (map place_changed writes)
  pub shaped : writes ≢ [] → IsTrue (is_done outcome)
  pub within : AllByRecursion (λ write. IsTrue (can_write rights write.table.0)) writes

pub taken : (rights : List (TableId × Level)) (outcome : Outcome) (writes : List Write)
    → refusal_of rights outcome writes ≡ None → IsTaken rights outcome writes
taken rights outcome writes none =
    let first = unrefused (nat_lt 64 (length writes)) _ _ none in
    let second = unrefused (stands_twice (map place_changed writes)) _ _ first.1 in
    let third = unrefused (changes_unfinished outcome writes) _ _ second.1 in
    record {
      few = ltb-false 64 (length writes) first.0;
      distinct = once-distinct (map place_changed writes) second.0;
      shaped = finished-shaped outcome writes third.0;
      within = all-writable rights writes third.1;
    }
