-- What some reads know, and what one more read makes known.
use Rattle.std.proofs.Common.{◌≡◌, ◌≢◌, ℕ, Bool, true, false, List, [], ◌∷◌, ◌++◌, Option, Some, None, refl, sym, ◌∙◌, eq-eqb, if◌then◌else◌}
use Rattle.std.proofs.lemmas.Slice.Eq.{bytes_eq-Decides}
use Rattle.sp_base.specs.declared.numbers.TableId.{TableId}
use Rattle.sp_base.specs.declared.reads.ReadItem.{ReadItem}
use Rattle.sp_base.specs.declared.rights.Level.{Level}
use Rattle.sp_base.specs.Places.{Place, same_place}
use Rattle.ext_mean.specs.Views.{Extends, part, place_of, value_read}

same_place-refl : (place : Place) → same_place place place ≡ true
same_place-refl place =
    let table = eq-eqb place.table place.table refl in
    let key = (bytes_eq-Decides place.key place.key).1 refl in
    rw (table, key)

abbrev Known : Type 0
Known = Option (Option (List ℕ))

alike : (same : Bool) (first small large : Known) → (small ≢ None → large ≡ small) → (if same then first else small) ≢ None
    → (if same then first else large) ≡ (if same then first else small)
alike true first small large rest known = refl
alike false first small large rest known = rest known

still-known : (same : Bool) (value : Option (List ℕ)) (rest : Known) → rest ≢ None → (if same then Some value else rest) ≢ None
still-known true value rest some none = cc
still-known false value rest some none = some none

known-before : (reads more : List ReadItem) (place : Place) → value_read reads place ≢ None → value_read (reads ++ more) place ≡ value_read reads place
known-before [] more place known = absurd (known refl)
known-before (read ∷ reads) more place known =
    alike (same_place (place_of read) place) (Some read.value) (value_read reads place) (value_read (reads ++ more) place) (known-before reads more place) known

-- a read's place is known behind it
pub known-last : (reads : List ReadItem) (read : ReadItem) → value_read (reads ++ read ∷ []) (place_of read) ≢ None
known-last [] read none =
    let found : (if same_place (place_of read) (place_of read) then Some read.value else None) ≡ Some read.value = rw same_place-refl in
    let clash : Some read.value ≡ None = sym found ∙ none in cc
known-last (first ∷ reads) read none =
    still-known (same_place (place_of first) (place_of read)) first.value (value_read (reads ++ read ∷ []) (place_of read)) (known-last reads read) none

-- the view of more reads knows all that the view of the first of them knows
pub extends-by : (reads more : List ReadItem) (rights : List (TableId × Level)) → Extends (part reads rights) (part (reads ++ more) rights)
extends-by reads more rights = record { rights = refl; known = λ place readable. known-before reads more place }
