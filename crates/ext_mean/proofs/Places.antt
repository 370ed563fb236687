-- The places of pending changes: each stands once.
use Rattle.std.specs.List.{AllByRecursion, IsDistinct}
use Rattle.std.proofs.Common.{◌≡◌, Bool, true, false, List, [], ◌∷◌, map, refl, subst, arith, if◌then◌else◌}
use Rattle.std.proofs.lemmas.Bool.Decides.{nat_tests}
use Rattle.std.proofs.lemmas.Grind.{common_steps}
use Rattle.std.proofs.lemmas.Map.Keys.{IsDistinct-cons, IsDistinct-head, IsDistinct-tail}
use Rattle.std.proofs.lemmas.Slice.Eq.{bytes_eq-Decides}
use Rattle.sp_base.specs.declared.writes.Write.{Write}
use Rattle.sp_base.specs.Places.{Place, same_place}
use Rattle.ext_mean.specs.MeaningValues.{place_changed, changed}

pub none-distinct : IsDistinct same_place []
unfolding IsDistinct
none-distinct = tt

same_place-true : (a b : Place) → same_place a b ≡ true → a ≡ b
same_place-true a b same = grind (arith, nat_tests, common_steps, bytes_eq-Decides)

-- a place is none of those of these changes
abbrev IsApart : Place → List Write → Type 0
IsApart place writes = AllByRecursion (λ other. same_place place other ≡ false) (map place_changed writes)

apart-one : (same : Bool) (place : Place) (new write : Write) (writes more : List Write) → IsApart place (new ∷ writes) → IsApart place (write ∷ more)
    → IsApart place (if same then new ∷ writes else write ∷ more)
apart-one true place new write writes more first second = first
apart-one false place new write writes more first second = second

apart-changed : (place : Place) (new : Write) (writes : List Write) → IsApart place writes → same_place place (place_changed new) ≡ false → IsApart place (changed new writes)
apart-changed place new [] apart differs = (differs, tt)
apart-changed place new (write ∷ writes) apart differs =
    apart-one (same_place (place_changed write) (place_changed new)) place new write writes (changed new writes)
    (differs, apart.1) (apart.0, apart-changed place new writes apart.1 differs)

abbrev AreDistinct : List Write → Type 0
AreDistinct writes = IsDistinct same_place (map place_changed writes)

distinct-one : (new write : Write) (writes : List Write) (same : Bool) → same_place (place_changed write) (place_changed new) ≡ same
    → IsApart (place_changed write) writes → AreDistinct writes → AreDistinct (changed new writes)
    → AreDistinct (if same then new ∷ writes else write ∷ changed new writes)
distinct-one new write writes true is apart distinct more =
    IsDistinct-cons same_place (place_changed new) (map place_changed writes)
    (subst (λ place. IsApart place writes) (same_place-true (place_changed write) (place_changed new) is) apart) distinct
distinct-one new write writes false is apart distinct more =
    IsDistinct-cons same_place (place_changed write) (map place_changed (changed new writes)) (apart-changed (place_changed write) new writes apart is) more

-- and so they do after one more change
pub changed-distinct : (new : Write) (writes : List Write) → AreDistinct writes → AreDistinct (changed new writes)
changed-distinct new [] distinct = IsDistinct-cons same_place (place_changed new) [] tt none-distinct
changed-distinct new (write ∷ writes) distinct =
    let rest = IsDistinct-tail same_place (place_changed write) (map place_changed writes) distinct in
    distinct-one new write writes (same_place (place_changed write) (place_changed new)) refl
    (IsDistinct-head same_place (place_changed write) (map place_changed writes) distinct) rest (changed-distinct new writes rest)
