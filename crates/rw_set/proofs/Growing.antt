-- A read of a new place joins a read list.
use Rattle.std.specs.List.{AllByRecursion, IsDistinct}
use Rattle.std.proofs.Common.{◌≡◌, ◌<◌, Bool, true, false, List, [], ◌∷◌, ◌++◌, length, map, Option, Some, None, refl, arith, length-append, if◌then◌else◌}
use Rattle.std.proofs.lemmas.Map.Keys.{IsDistinct-cons, IsDistinct-head, IsDistinct-tail}
use Rattle.sp_base.specs.declared.limits.TheConstants.{MOST_READS}
use Rattle.sp_base.specs.declared.reads.ReadItem.{ReadItem}
use Rattle.sp_base.specs.Places.{Place, same_place}
use Rattle.sp_base.specs.Spelling.{FitsOpt}
use Rattle.ext_mean.specs.Views.{place_of}
use Rattle.ext_mean.proofs.Places.{none-distinct}
use Rattle.rw_set.specs.ReadLists.{IsReadList, read_of}

-- what holds of the elements and of one more holds of all of them
pub AllByRecursion-snoc : {X : Type 0} (P : X → Type 0) (xs : List X) (x : X) → AllByRecursion P xs → P x → AllByRecursion P (xs ++ x ∷ [])
AllByRecursion-snoc P [] x all one = (one, tt)
AllByRecursion-snoc P (y ∷ ys) x all one = (all.0, AllByRecursion-snoc P ys x all.1 one)

-- where nothing is found, the first read is of another place, and nothing is found behind it
pub none-first : (same : Bool) (read : ReadItem) (rest : Option ReadItem) → (if same then Some read else rest) ≡ None → same ≡ false
none-first true read rest none = absurd (let e : Some read ≡ None = none in cc)
none-first false read rest none = refl

pub none-rest : (same : Bool) (read : ReadItem) (rest : Option ReadItem) → (if same then Some read else rest) ≡ None → rest ≡ None
none-rest true read rest none = absurd (let e : Some read ≡ None = none in cc)
none-rest false read rest none = none

apart-with : (place : Place) (reads : List ReadItem) (item : ReadItem)
    → AllByRecursion (λ other. same_place place other ≡ false) (map place_of reads) → same_place place (place_of item) ≡ false
    → AllByRecursion (λ other. same_place place other ≡ false) (map place_of (reads ++ item ∷ []))
apart-with place [] item apart one = (one, tt)
apart-with place (read ∷ reads) item apart one = (apart.0, apart-with place reads item apart.1 one)

distinct-with : (reads : List ReadItem) (item : ReadItem) → IsDistinct same_place (map place_of reads)
    → read_of reads (place_of item) ≡ None → IsDistinct same_place (map place_of (reads ++ item ∷ []))
distinct-with [] item distinct none = IsDistinct-cons same_place (place_of item) [] tt none-distinct
distinct-with (read ∷ reads) item distinct none =
    IsDistinct-cons same_place (place_of read) (map place_of (reads ++ item ∷ []))
    (apart-with (place_of read) reads item (IsDistinct-head same_place (place_of read) (map place_of reads) distinct)
    (none-first (same_place (place_of read) (place_of item)) read (read_of reads (place_of item)) none))
    (distinct-with reads item (IsDistinct-tail same_place (place_of read) (map place_of reads) distinct)
    (none-rest (same_place (place_of read) (place_of item)) read (read_of reads (place_of item)) none))

pub no-reads : IsReadList []
no-reads = record { distinct = none-distinct; few = omega arith; values = tt }

pub read-list-grows : (reads : List ReadItem) (item : ReadItem) → IsReadList reads → read_of reads (place_of item) ≡ None
    → length reads < MOST_READS → FitsOpt item.value → IsReadList (reads ++ item ∷ [])
read-list-grows reads item kept new room value = record {
  distinct = distinct-with reads item kept.distinct new;
  few = omega (arith, length-append reads (item ∷ []));
  values = AllByRecursion-snoc (λ read. FitsOpt read.value) reads item kept.values value;
}
