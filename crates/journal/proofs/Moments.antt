-- What a run asks and means does not hang on the moments of its reads.
use Rattle.std.specs.Prelude.{◌==◌, if◌then◌else◌}
use Rattle.std.proofs.Common.{◌≡◌, ℕ, zero, suc, List, [], ◌∷◌, map, take, slice_get, Option, Some, None, refl, sym, ◌∙◌, ap, subst}
use Rattle.sp_base.specs.declared.numbers.TableId.{TableId}
use Rattle.sp_base.specs.declared.reads.ReadItem.{ReadItem}
use Rattle.sp_base.specs.declared.rights.Level.{Level}
use Rattle.sp_base.specs.Places.{Place, same_place}
use Rattle.ext_mean.specs.declared.tree.Program.{Program}
use Rattle.ext_mean.specs.Asked.{AreAsked}
use Rattle.ext_mean.specs.Meaning.{mean}
use Rattle.ext_mean.specs.Outcomes.{wanted_by}
use Rattle.ext_mean.specs.Views.{View, part, place_of, value_read}
use Rattle.records.specs.GrantsList.{RightsList}
use Rattle.journal.specs.Reads.{bare}

-- a read as if it were made at this moment
abbrev pub made_at : ℕ → ReadItem → ReadItem
made_at moment read = record read { read_at = moment }

value_read-made_at : (moment : ℕ) (reads : List ReadItem) (place : Place)
    → value_read (map (made_at moment) reads) place ≡ value_read reads place
value_read-made_at moment [] place = refl
value_read-made_at moment (read ∷ reads) place =
    ap (λ (others : Option (Option (List ℕ))). if same_place (place_of read) place then Some read.value else others)
    (value_read-made_at moment reads place)

pub part-made_at : (moment : ℕ) (reads : List ReadItem) (rights : RightsList)
    → part (map (made_at moment) reads) rights ≡ part reads rights
part-made_at moment reads rights =
    λ i. record { rights = rights; known = λ place. value_read-made_at moment reads place i }

take-made_at : (moment k : ℕ) (reads : List ReadItem) → take k (map (made_at moment) reads) ≡ map (made_at moment) (take k reads)
take-made_at moment zero reads = refl
take-made_at moment (suc k) [] = refl
take-made_at moment (suc k) (read ∷ reads) =
    ap (λ (rest : List ReadItem). made_at moment read ∷ rest) (take-made_at moment k reads)

-- a read that was made at another moment is one of the reads
behind-moment : (moment k : ℕ) (reads : List ReadItem) (read : ReadItem) → slice_get (map (made_at moment) reads) k ≡ Some read
    → (first : ReadItem) × (slice_get reads k ≡ Some first) × (made_at moment first ≡ read)
behind-moment moment k [] read found = absurd (cc)
behind-moment moment zero (first ∷ reads) read found = (first, refl, (cc))
behind-moment moment (suc k) (first ∷ reads) read found = behind-moment moment k reads read found

-- reads that are asked in order are so at whatever moment they are made
pub asked-made_at : {program : Program} {args : List ℕ} {budget : ℕ} {rights : RightsList} (moment : ℕ) (reads : List ReadItem)
    → AreAsked program args budget rights reads → AreAsked program args budget rights (map (made_at moment) reads)
asked-made_at {program} {args} {budget} {rights} moment reads asked = record {
  each = λ k read found.
      let first = behind-moment moment k reads read found in
      ap (λ (front : List ReadItem). wanted_by (mean program args budget (part front rights))) (take-made_at moment k reads)
      ∙ ap (λ (view : View). wanted_by (mean program args budget view)) (part-made_at moment (take k reads) rights)
      ∙ asked.each k first.0 first.1
      ∙ ap (λ (r : ReadItem). Some (place_of r)) first.2;
}

-- an entry keeps no moment
pub bare-made_at : (moment : ℕ) (reads : List ReadItem) → map bare (map (made_at moment) reads) ≡ map bare reads
bare-made_at moment [] = refl
bare-made_at moment (read ∷ reads) = ap (λ (rest : List ReadItem). bare read ∷ rest) (bare-made_at moment reads)
