-- A search by halves, and a position put into the order.
use Rattle.std.specs.declared.cmp.Ordering.TheVariants.{Less, Greater}
use Rattle.std.proofs.Common.{◌≡◌, ◌≢◌, ◌⊎◌, inl, inr, ◌<◌, ◌≤◌, ◌+◌, ◌-◌, ℕ, Bool, true, false, List, [], ◌∷◌, ◌++◌, length, insert, nat_lt, refl, sym, ap, ◌∙◌, subst, arith, length-append}
use Rattle.std.proofs.lemmas.Bool.{ltb-true, ltb-false}
use Rattle.std.proofs.lemmas.List.Edits.{get_or-insert_at, get_or-insert_below, get_or-insert_above, length-insert}
use Rattle.sp_base.specs.declared.reads.ReadItem.{ReadItem}
use Rattle.ext_mean.specs.Views.{place_of}
use Rattle.rw_set.specs.Order.{AreAbove, AreBelow, BelongsAt, IsOrder, compare_ranks, position_at, rank, rank_at}
use Rattle.rw_set.proofs.Ranks.{compared-itself, compared-itself-greater, compared-trans, compared-greater, compared-less, rank_at-before, rank_at-last}

pub record IsBetween (reads : List ReadItem) (order target : List ℕ) (low high : ℕ) : Type 0 where
  pub ends : low ≤ high
  pub within : high ≤ length order
  pub below : AreBelow reads order target low
  pub above : AreAbove reads order target high

pub whole : (reads : List ReadItem) (order target : List ℕ) → IsBetween reads order target 0 (length order)
whole reads order target = record {
  ends = omega arith;
  within = omega arith;
  below = λ k less. absurd (omega arith);
  above = λ k more within. absurd (omega arith);
}

-- where a number is no greater than another, it is the same or less
split-le : (a b : ℕ) → a ≤ b → (a ≡ b) ⊎ (a < b)
split-le a b fits = tested (nat_lt a b) refl
  where
    tested : (less : Bool) → nat_lt a b ≡ less → (a ≡ b) ⊎ (a < b)
    tested true is = inr (ltb-true a b is)
    tested false is = let more = ltb-false a b is in inl (omega arith)

pub above-middle : (reads : List ReadItem) (order target : List ℕ) (low middle high : ℕ) → IsOrder reads order → IsBetween reads order target low high
    → low ≤ middle → middle < high → compare_ranks (rank_at reads (position_at order middle)) target ≡ Less → IsBetween reads order target (middle + 1) high
above-middle reads order target low middle high ordered between from to less =
    let within = between.within in
    record {
      ends = omega arith;
      within = within;
      below = λ k fits. elim (split-le k middle (omega arith)) [
        | inl same ↦ subst (λ j. compare_ranks (rank_at reads (position_at order j)) target ≡ Less) (sym same) less
        | inr lower ↦ compared-trans (rank_at reads (position_at order k)) (rank_at reads (position_at order middle)) target (ordered.rising k middle lower (omega arith)) less
      ];
      above = between.above;
    }

pub below-middle : (reads : List ReadItem) (order target : List ℕ) (low middle high : ℕ) → IsOrder reads order → IsBetween reads order target low high
    → low ≤ middle → middle < high → compare_ranks (rank_at reads (position_at order middle)) target ≡ Greater → IsBetween reads order target low middle
below-middle reads order target low middle high ordered between from to greater =
    let within = between.within in
    record {
      ends = from;
      within = omega arith;
      below = between.below;
      above = λ k fits inside. elim (split-le middle k fits) [
        | inl same ↦ subst (λ j. compare_ranks (rank_at reads (position_at order j)) target ≡ Greater) same greater
        | inr upper ↦
            compared-greater target (rank_at reads (position_at order k))
            (compared-trans target (rank_at reads (position_at order middle)) (rank_at reads (position_at order k))
            (compared-less (rank_at reads (position_at order middle)) target greater) (ordered.rising middle k upper inside))
      ];
    }

-- where a position stands once another was put before those from a place on
data Stood (order : List ℕ) (at new k : ℕ) : Type 0 where
  before : k < at → position_at (insert order at new) k ≡ position_at order k → Stood order at new k
  here : k ≡ at → position_at (insert order at new) k ≡ new → Stood order at new k
  behind : (j : ℕ) → k ≡ j + 1 → at ≤ j → j < length order → position_at (insert order at new) k ≡ position_at order j → Stood order at new k

stood : (order : List ℕ) (at new k : ℕ) → at ≤ length order → k < length order + 1 → Stood order at new k
stood order at new k fits inside = tested (nat_lt k at) refl
  where
    over : (j : ℕ) → k ≡ j + 1 → at ≤ j → Stood order at new k
    over j is more = behind j is more (omega arith) (subst (λ i. position_at (insert order at new) i ≡ position_at order j) (sym is) (get_or-insert_above order at new 0 j more fits))

    not-less : at ≤ k → Stood order at new k
    not-less more = elim (split-le at k more) [
      | inl same ↦ here (sym same) (subst (λ i. position_at (insert order at new) i ≡ new) same (get_or-insert_at order at new 0 fits))
      | inr upper ↦ over (k - 1) (omega arith) (omega arith)
    ]

    tested : (less : Bool) → nat_lt k at ≡ less → Stood order at new k
    tested true is = let less = ltb-true k at is in before less (get_or-insert_below order at new 0 k less fits)
    tested false is = not-less (ltb-false k at is)

module _ (reads : List ReadItem) (item : ReadItem) (order : List ℕ) (at : ℕ) (ordered : IsOrder reads order) (belongs : BelongsAt reads order (rank (place_of item)) at) where
  abbrev more : List ReadItem
  more = reads ++ item ∷ []

  abbrev after : List ℕ
  after = insert order at (length reads)

  abbrev target : List ℕ
  target = rank (place_of item)

  -- the rank at an old position, and at the new one
  old-rank : (j k : ℕ) → j < length order → position_at after k ≡ position_at order j → rank_at more (position_at after k) ≡ rank_at reads (position_at order j)
  old-rank j k inside is = ap (rank_at more) is ∙ rank_at-before reads item (position_at order j) (ordered.within j inside)

  new-rank : (k : ℕ) → position_at after k ≡ length reads → rank_at more (position_at after k) ≡ target
  new-rank k is = ap (rank_at more) is ∙ rank_at-last reads item

  both : (j k : ℕ) (one other : List ℕ) → rank_at more (position_at after j) ≡ one → rank_at more (position_at after k) ≡ other → compare_ranks one other ≡ Less
      → compare_ranks (rank_at more (position_at after j)) (rank_at more (position_at after k)) ≡ Less
  both j k one other first second less = rw (first, second) less

  rising-more : (j k : ℕ) → j < k → Stood order at (length reads) j → Stood order at (length reads) k
      → compare_ranks (rank_at more (position_at after j)) (rank_at more (position_at after k)) ≡ Less
  rising-more j k less (before lj ej) (before lk ek) =
      let fits = belongs.within in
      both j k _ _ (old-rank j j (omega arith) ej) (old-rank k k (omega arith) ek) (ordered.rising j k less (omega arith))
  rising-more j k less (before lj ej) (here ik ek) =
      let fits = belongs.within in
      both j k _ _ (old-rank j j (omega arith) ej) (new-rank k ek) (belongs.below j lj)
  rising-more j k less (before lj ej) (behind i ik mk wk ek) =
      let fits = belongs.within in
      both j k _ _ (old-rank j j (omega arith) ej) (old-rank i k wk ek) (ordered.rising j i (omega arith) wk)
  rising-more j k less (here ij ej) (before lk ek) = absurd (omega arith)
  rising-more j k less (here ij ej) (here ik ek) = absurd (omega arith)
  rising-more j k less (here ij ej) (behind i ik mk wk ek) =
      both j k _ _ (new-rank j ej) (old-rank i k wk ek) (compared-less (rank_at reads (position_at order i)) target (belongs.above i mk wk))
  rising-more j k less (behind i ij mj wj ej) (before lk ek) = absurd (omega arith)
  rising-more j k less (behind i ij mj wj ej) (here ik ek) = absurd (omega arith)
  rising-more j k less (behind i ij mj wj ej) (behind h ih mh wh eh) =
      both j k _ _ (old-rank i j wj ej) (old-rank h k wh eh) (ordered.rising i h (omega arith) wh)

  within-more : (k : ℕ) → Stood order at (length reads) k → position_at after k < length reads + 1
  within-more k (before lk ek) =
      let fits = belongs.within in let inside = ordered.within k (omega arith) in omega (arith, ek, inside)
  within-more k (here ik ek) = omega (arith, ek)
  within-more k (behind i ik mk wk ek) = let inside = ordered.within i wk in omega (arith, ek, inside)

  longer : length after ≡ length order + 1
  longer = length-insert order at (length reads) belongs.within

  whole-more : (position : ℕ) → position < length reads + 1 → (k : ℕ) × (k < length after) × (position_at after k ≡ position)
  whole-more position inside = elim (split-le position (length reads) (omega arith)) [
    | inl new ↦
        (let fits = belongs.within in
        let l = longer in
        (at, omega (arith, l, fits), get_or-insert_at order at (length reads) 0 fits ∙ sym new))
    | inr old ↦ placed (ordered.whole position old)
  ]
    where
      placed : (k : ℕ) × (k < length order) × (position_at order k ≡ position) → (j : ℕ) × (j < length after) × (position_at after j ≡ position)
      placed known = tested (nat_lt known.0 at) refl
        where
          tested : (less : Bool) → nat_lt known.0 at ≡ less → (j : ℕ) × (j < length after) × (position_at after j ≡ position)
          tested true is =
              let less = ltb-true known.0 at is in
              let l = longer in
              let inside-order = known.1 in
              (known.0, omega (arith, l, inside-order), get_or-insert_below order at (length reads) 0 known.0 less belongs.within ∙ known.2)
          tested false is =
              let above = ltb-false known.0 at is in
              let l = longer in
              let inside-order = known.1 in
              (known.0 + 1, omega (arith, l, inside-order), get_or-insert_above order at (length reads) 0 known.0 above belongs.within ∙ known.2)

  pub order-grows : IsOrder more after
  order-grows =
      let many = length-append reads (item ∷ []) in
      let l = longer in
      let old = ordered.many in
      record {
        many = omega (arith, many, l, old);
        within = λ k inside. let fits = within-more k (stood order at (length reads) k belongs.within (omega (arith, l, inside))) in omega (arith, fits, many);
        rising = λ j k less inside. rising-more j k less (stood order at (length reads) j belongs.within (omega (arith, l, inside, less))) (stood order at (length reads) k belongs.within (omega (arith, l, inside)));
        whole = λ position inside. whole-more position (omega (arith, many, inside));
      }

-- where a place without a read belongs, no read has its rank
pub belongs-apart : (reads : List ReadItem) (order target : List ℕ) (at : ℕ) → IsOrder reads order → BelongsAt reads order target at
    → (position : ℕ) → position < length reads → rank_at reads position ≢ target
belongs-apart reads order target at ordered belongs position inside same = placed (ordered.whole position inside)
  where
    equal : (k : ℕ) → position_at order k ≡ position → rank_at reads (position_at order k) ≡ target
    equal k is = ap (rank_at reads) is ∙ same

    placed : (k : ℕ) × (k < length order) × (position_at order k ≡ position) → ⊥
    placed known = tested (nat_lt known.0 at) refl
      where
        tested : (less : Bool) → nat_lt known.0 at ≡ less → ⊥
        tested true is =
            compared-itself target (subst (λ one. compare_ranks one target ≡ Less) (equal known.0 known.2) (belongs.below known.0 (ltb-true known.0 at is)))
        tested false is =
            compared-itself-greater target (subst (λ one. compare_ranks one target ≡ Greater) (equal known.0 known.2) (belongs.above known.0 (ltb-false known.0 at is) known.1))
