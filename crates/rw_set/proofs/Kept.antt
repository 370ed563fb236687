-- What a read set keeps of its parts, from no reads on.
use Rattle.std.proofs.Common.{◌≡◌, ◌<◌, ◌≤◌, ◌+◌, ℕ, List, [], ◌∷◌, ◌++◌, length, insert, None, refl, arith, length-append}
use Rattle.sp_base.specs.declared.limits.TheConstants.{MOST_READS}
use Rattle.sp_base.specs.declared.reads.ReadItem.{ReadItem}
use Rattle.sp_base.specs.Spelling.{FitsOpt}
use Rattle.ext_mean.specs.Views.{place_of}
use Rattle.rw_set.specs.Order.{AreKept, BelongsAt, rank}
use Rattle.rw_set.specs.ReadLists.{read_of}
use Rattle.rw_set.specs.Weight.{weight_of_read}
use Rattle.rw_set.proofs.Growing.{no-reads, read-list-grows}
use Rattle.rw_set.proofs.Searching.{order-grows}
use Rattle.rw_set.proofs.Weights.{weight-more}

pub nothing-kept : AreKept [] [] 0
nothing-kept = record {
  list = no-reads;
  ordered = record {
    many = refl;
    within = λ k inside. absurd (omega arith);
    rising = λ j k less inside. absurd (omega arith);
    whole = λ position inside. absurd (omega arith);
  };
  weight_is = refl;
  bounded = omega arith;
}

pub kept-grows : (reads : List ReadItem) (order : List ℕ) (weight : ℕ) (item : ReadItem) (at : ℕ) → AreKept reads order weight
    → read_of reads (place_of item) ≡ None → length reads < MOST_READS → FitsOpt item.value → BelongsAt reads order (rank (place_of item)) at
    → weight_of_read item ≤ 4184 → AreKept (reads ++ item ∷ []) (insert order at (length reads)) (weight + weight_of_read item)
kept-grows reads order weight item at kept new room value belongs bounded =
    let longer = length-append reads (item ∷ []) in
    let more = weight-more reads item in
    let is = kept.weight_is in
    let old = kept.bounded in
    record {
      list = read-list-grows reads item kept.list new room value;
      ordered = order-grows reads item order at kept.ordered belongs;
      weight_is = omega (arith, more, is);
      bounded = omega (arith, longer, old, bounded);
    }
