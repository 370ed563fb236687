-- Lists of reads that a run asked.
use Rattle.std.proofs.Common.{◌≡◌, ◌≢◌, ℕ, zero, suc, ◌+◌, Bool, true, false, List, [], ◌∷◌, ◌++◌, length, Option, Some, None, slice_get, take, refl, sym, ◌∙◌, ap, subst, eq-eqb, append_assoc, append-nil, length-append, if◌then◌else◌}
use Rattle.std.proofs.lemmas.Option.{same_Some}
use Rattle.std.proofs.lemmas.Slice.Eq.{bytes_eq-Decides}
use Rattle.sp_base.specs.declared.numbers.TableId.{TableId}
use Rattle.sp_base.specs.declared.reads.ReadItem.{ReadItem}
use Rattle.sp_base.specs.declared.rights.Level.{Level}
use Rattle.sp_base.specs.Places.{Place, same_place}
use Rattle.ext_mean.specs.declared.tree.Program.{Program}
use Rattle.ext_mean.specs.Asked.{IsWanted, WantedReadJoins, ReadsCost}
use Rattle.ext_mean.specs.declared.run.Run.{Run}
use Rattle.ext_mean.specs.declared.run.Run.TheVariants.{Done, Trapped, Spent, Wants}
use Rattle.ext_mean.specs.Laws.{Answered, NoneYet, OneMore, place_in}
use Rattle.ext_mean.specs.Meaning.{mean}
use Rattle.ext_mean.specs.Views.{Extends, part, place_of, value_read}
use Rattle.ext_mean.proofs.WantsProved.{cost}

same_place-refl : (place : Place) → same_place place place ≡ true
same_place-refl place =
    let table = eq-eqb place.table place.table refl in
    let key = (bytes_eq-Decides place.key place.key).1 refl in
    rw (table, key)

abbrev Known : Type 0
Known = Option (Option (List ℕ))

first-or-known : (same : Bool) (first small large : Known) → (small ≢ None → large ≡ small) → (if same then first else small) ≢ None → (if same then first else large) ≡ (if same then first else small)
first-or-known true first small large rest known = refl
first-or-known false first small large rest known = rest known

first-or-some : (same : Bool) (value : Option (List ℕ)) (rest : Known) → rest ≢ None → (if same then Some value else rest) ≢ None
first-or-some true value rest some none = cc
first-or-some false value rest some none = some none

-- what some reads know, more of them know alike
known-before : (reads more : List ReadItem) (place : Place) → value_read reads place ≢ None → value_read (reads ++ more) place ≡ value_read reads place
known-before [] more place known = absurd (known refl)
known-before (read ∷ reads) more place known =
    first-or-known (same_place (place_of read) place) (Some read.value) (value_read reads place) (value_read (reads ++ more) place) (known-before reads more place) known

known-last : (reads : List ReadItem) (read : ReadItem) → value_read (reads ++ read ∷ []) (place_of read) ≢ None
known-last [] read none =
    let found : (if same_place (place_of read) (place_of read) then Some read.value else None) ≡ Some read.value = rw same_place-refl in
    let clash : Some read.value ≡ None = sym found ∙ none in cc
known-last (first ∷ reads) read none =
    first-or-some (same_place (place_of first) (place_of read)) first.value (value_read (reads ++ read ∷ []) (place_of read)) (known-last reads read) none

extends-by : (reads more : List ReadItem) (rights : List (TableId × Level)) → Extends (part reads rights) (part (reads ++ more) rights)
extends-by reads more rights = record { rights = refl; known = λ place readable. known-before reads more place }

-- a run that wants a place wants the record there
wanted-run : (run : Run) (read : ReadItem) → IsWanted run read → (used : ℕ) × (run ≡ Wants read.table read.key used)
wanted-run (Done reply writes used) read wanted = (cc)
wanted-run (Trapped trap used) read wanted = (cc)
wanted-run Spent read wanted = (cc)
wanted-run (Wants table key used) read wanted =
    let place : place_in table key ≡ place_of read = same_Some (place_in table key) (place_of read) wanted in
    (used, ap (λ (p : Place). Wants (record { 0 = p.table }) p.key used) place)

-- each of the later reads is wanted on those before it
abbrev AskedBehind : Program → List ℕ → ℕ → List (TableId × Level) → List ReadItem → List ReadItem → Type 0
AskedBehind program args budget rights earlier later =
    (k : ℕ) (read : ReadItem) → slice_get later k ≡ Some read
    → IsWanted (mean program args budget (part (earlier ++ take k later) rights)) read

-- each read is one more want that was answered
answered-behind : (program : Program) (args : List ℕ) (budget : ℕ) (rights : List (TableId × Level)) (earlier later : List ReadItem)
    → Answered program args budget (part earlier rights) (length earlier)
    → AskedBehind program args budget rights earlier later
    → Answered program args budget (part (earlier ++ later) rights) (length (earlier ++ later))
answered-behind program args budget rights earlier [] answered asked =
    subst (λ reads. Answered program args budget (part reads rights) (length reads)) (sym (append-nil earlier)) answered
answered-behind program args budget rights earlier (read ∷ later) answered asked =
    let wanted : IsWanted (mean program args budget (part earlier rights)) read =
    subst (λ reads. IsWanted (mean program args budget (part reads rights)) read) (append-nil earlier) (asked 0 read refl) in
    let run = wanted-run (mean program args budget (part earlier rights)) read wanted in
    let one : Answered program args budget (part (earlier ++ read ∷ []) rights) (length earlier + 1) =
    OneMore (part earlier rights) (part (earlier ++ read ∷ []) rights) (length earlier) read.table read.key run.0 answered run.1 (extends-by earlier (read ∷ []) rights) (known-last earlier read) in
    let many = length-append earlier (read ∷ []) in
    let next = subst (λ n. Answered program args budget (part (earlier ++ read ∷ []) rights) n) (sym many) one in
    let behind : AskedBehind program args budget rights (earlier ++ read ∷ []) later = λ k other found.
    subst (λ reads. IsWanted (mean program args budget (part reads rights)) other) (sym (append_assoc earlier (read ∷ []) (take k later))) (asked (suc k) other found) in
    subst (λ reads. Answered program args budget (part reads rights) (length reads)) (append_assoc earlier (read ∷ []) later)
    (answered-behind program args budget rights (earlier ++ read ∷ []) later next behind)

pub reads-cost : ReadsCost
reads-cost program args budget rights reads table key used asked wants =
    cost program args budget (part reads rights) (length reads) table key used
    (answered-behind program args budget rights [] reads (NoneYet (part [] rights)) asked.each) wants

-- what holds of each item and those before it holds with one more item, where it holds of this one
joined-each : (Holds : List ReadItem → ReadItem → Type 0) (reads : List ReadItem) (last : ReadItem)
    → ((k : ℕ) (read : ReadItem) → slice_get reads k ≡ Some read → Holds (take k reads) read)
    → Holds reads last
    → (k : ℕ) (read : ReadItem) → slice_get (reads ++ last ∷ []) k ≡ Some read → Holds (take k (reads ++ last ∷ [])) read
joined-each Holds [] last each at_last zero read found = subst (λ (item : ReadItem). Holds [] item) (same_Some last read found) at_last
joined-each Holds [] last each at_last (suc k) read found = (cc)
joined-each Holds (first ∷ reads) last each at_last zero read found = each 0 read found
joined-each Holds (first ∷ reads) last each at_last (suc k) read found =
    joined-each (λ earlier item. Holds (first ∷ earlier) item) reads last (λ j item there. each (suc j) item there) at_last k read found

pub read-joins : WantedReadJoins
read-joins program args budget rights reads read asked wanted = record {
  each = joined-each (λ earlier item. IsWanted (mean program args budget (part earlier rights)) item) reads read asked.each wanted;
}
