-- The order of a read set: the positions of its reads, by their places.
use Rattle.std.specs.Prelude.{◌≡◌, ◌<◌, ◌≤◌, ◌*◌, ℕ, List, ◌∷◌, [], length, map, get_or}
use Rattle.std.specs.Cmp.Lexicographic.{slice_cmp}
use Rattle.std.specs.Ordering.{nat_cmp}
use Rattle.std.specs.declared.cmp.Ordering.{Ordering}
use Rattle.std.specs.declared.cmp.Ordering.TheVariants.{Less, Greater}
use Rattle.sp_base.specs.Places.{Place}
use Rattle.sp_base.specs.declared.reads.ReadItem.{ReadItem}
use Rattle.ext_mean.specs.Views.{place_of}
use Rattle.rw_set.specs.ReadLists.{IsReadList}
use Rattle.rw_set.specs.Weight.{weight_of}

-- a place as the numbers by which it is compared: its table's, and those of its key's bytes
abbrev pub rank : Place → List ℕ
rank place = place.table ∷ place.key

abbrev pub compare_ranks : List ℕ → List ℕ → Ordering
compare_ranks one other = slice_cmp nat_cmp one other

-- the rank of the read at a position
abbrev pub rank_at : List ReadItem → ℕ → List ℕ
rank_at reads position = get_or (map (λ read. rank (place_of read)) reads) position []

-- the position of the read that stands there in the order
abbrev pub position_at : List ℕ → ℕ → ℕ
position_at order k = get_or order k 0

-- each position once, by the ranks of their reads
pub record IsOrder (reads : List ReadItem) (order : List ℕ) : Type 0 where
  pub many : length order ≡ length reads
  pub within : (k : ℕ) → k < length order → position_at order k < length reads
  pub rising : (j k : ℕ) → j < k → k < length order
      → compare_ranks (rank_at reads (position_at order j)) (rank_at reads (position_at order k)) ≡ Less
  pub whole : (position : ℕ) → position < length reads → (k : ℕ) × (k < length order) × (position_at order k ≡ position)

-- the reads below k in the order are of lesser ranks
abbrev pub AreBelow : List ReadItem → List ℕ → List ℕ → ℕ → Type 0
AreBelow reads order target low =
    (k : ℕ) → k < low → compare_ranks (rank_at reads (position_at order k)) target ≡ Less

-- and those from k on of greater ones
abbrev pub AreAbove : List ReadItem → List ℕ → List ℕ → ℕ → Type 0
AreAbove reads order target high =
    (k : ℕ) → high ≤ k → k < length order → compare_ranks (rank_at reads (position_at order k)) target ≡ Greater

-- where a place without a read belongs in the order
pub record BelongsAt (reads : List ReadItem) (order : List ℕ) (target : List ℕ) (k : ℕ) : Type 0 where
  pub within : k ≤ length order
  pub below : AreBelow reads order target k
  pub above : AreAbove reads order target k

-- where a place's read stands in the order
pub record StandsAt (reads : List ReadItem) (order : List ℕ) (target : List ℕ) (k : ℕ) : Type 0 where
  pub within : k < length order
  pub same : rank_at reads (position_at order k) ≡ target

-- what a read set keeps of its parts
pub record AreKept (reads : List ReadItem) (order : List ℕ) (weight : ℕ) : Type 0 where
  pub list : IsReadList reads
  pub ordered : IsOrder reads order
  pub weight_is : weight ≡ weight_of reads
  pub bounded : weight ≤ 4184 * length reads
