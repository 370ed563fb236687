-- Places by their ranks, and the reads at them.
use Rattle.std.specs.List.{AllByRecursion, IsDistinct}
use Rattle.std.specs.declared.cmp.Ordering.TheVariants.{Less, Equal, Greater}
use Rattle.std.proofs.Common.{◌≡◌, ◌≢◌, ◌<◌, ℕ, zero, suc, Bool, true, false, List, [], ◌∷◌, ◌++◌, length, map, get_or, Some, None, refl, sym, ap, ◌∙◌, subst, arith, if◌then◌else◌, eq-eqb}
use Rattle.std.proofs.lemmas.Bool.Decides.{nat_tests}
use Rattle.std.proofs.lemmas.Cmp.{nat_list_cmp_total}
use Rattle.std.proofs.lemmas.Grind.{common_steps}
use Rattle.std.proofs.lemmas.Map.Keys.{IsDistinct-head, IsDistinct-tail}
use Rattle.std.proofs.lemmas.Map.Lookups.{exact_bytes}
use Rattle.std.proofs.lemmas.Slice.Eq.{bytes_eq-Decides}
use Rattle.sp_base.specs.declared.reads.ReadItem.{ReadItem}
use Rattle.sp_base.specs.Places.{Place, same_place}
use Rattle.ext_mean.specs.Views.{place_of}
use Rattle.rw_set.specs.Order.{compare_ranks, rank, rank_at}
use Rattle.rw_set.specs.ReadLists.{read_of}
use Rattle.rw_set.proofs.Growing.{none-first, none-rest}

same_place-refl : (place : Place) → same_place place place ≡ true
same_place-refl place =
    let table = eq-eqb place.table place.table refl in
    let key = (bytes_eq-Decides place.key place.key).1 refl in
    rw (table, key)

same_place-true : (a b : Place) → same_place a b ≡ true → a ≡ b
same_place-true a b same = grind (arith, nat_tests, common_steps, bytes_eq-Decides)

-- places of one rank are one place
rank-same : (a b : Place) → rank a ≡ rank b → a ≡ b
rank-same a b same =
    let tables : a.table ≡ b.table = cc in
    let keys : a.key ≡ b.key = cc in
    ap (λ t. record { table = t; key = a.key }) tables ∙ ap (λ k. record { table = b.table; key = k }) keys

pub compared-same : (one other : List ℕ) → compare_ranks one other ≡ Equal → one ≡ other
compared-same one other equal = exact_bytes one other equal

pub compared-trans : (one two three : List ℕ) → compare_ranks one two ≡ Less → compare_ranks two three ≡ Less → compare_ranks one three ≡ Less
compared-trans one two three first second = nat_list_cmp_total.trans one two three first second

pub compared-greater : (one other : List ℕ) → compare_ranks one other ≡ Less → compare_ranks other one ≡ Greater
compared-greater one other less = rw (nat_list_cmp_total.antisymm other one, less) refl

pub compared-less : (one other : List ℕ) → compare_ranks one other ≡ Greater → compare_ranks other one ≡ Less
compared-less one other greater = rw (nat_list_cmp_total.antisymm other one, greater) refl

pub compared-itself : (one : List ℕ) → compare_ranks one one ≡ Less → ⊥
compared-itself one less = let greater = compared-greater one one less in let clash : Less ≡ Greater = sym less ∙ greater in cc

pub compared-itself-greater : (one : List ℕ) → compare_ranks one one ≡ Greater → ⊥
compared-itself-greater one greater = compared-itself one (compared-less one one greater)

-- the ranks of reads with one more behind them
pub rank_at-before : (reads : List ReadItem) (item : ReadItem) (position : ℕ) → position < length reads → rank_at (reads ++ item ∷ []) position ≡ rank_at reads position
rank_at-before [] item position within = absurd (omega arith)
rank_at-before (read ∷ reads) item zero within = refl
rank_at-before (read ∷ reads) item (suc position) within = rank_at-before reads item position (omega arith)

pub rank_at-last : (reads : List ReadItem) (item : ReadItem) → rank_at (reads ++ item ∷ []) (length reads) ≡ rank (place_of item)
rank_at-last [] item = refl
rank_at-last (read ∷ reads) item = rank_at-last reads item

-- a place that no read has is not found
pub unranked-unread : (reads : List ReadItem) (place : Place) → ((position : ℕ) → position < length reads → rank_at reads position ≢ rank place) → read_of reads place ≡ None
unranked-unread [] place apart = refl
unranked-unread (read ∷ reads) place apart =
    other-first (same_place (place_of read) place) refl (unranked-unread reads place (λ position within. apart (suc position) (omega arith)))
  where
    other-first : (same : Bool) → same_place (place_of read) place ≡ same → read_of reads place ≡ None → (if same then Some read else read_of reads place) ≡ None
    other-first true is rest = absurd (apart 0 (omega arith) (ap rank (same_place-true (place_of read) place is)))
    other-first false is rest = rest

apart-at : (place : Place) (reads : List ReadItem) (position : ℕ) → position < length reads
    → AllByRecursion (λ other. same_place place other ≡ false) (map place_of reads) → rank_at reads position ≡ rank place → ⊥
apart-at place [] position within apart same = omega arith
apart-at place (read ∷ reads) zero within apart same =
    let is : place_of read ≡ place = rank-same (place_of read) place same in
    let clash : true ≡ false = sym (same_place-refl place) ∙ ap (same_place place) (sym is) ∙ apart.0 in cc
apart-at place (read ∷ reads) (suc position) within apart same = apart-at place reads position (omega arith) apart.1 same

-- a place's read is found, where the places are distinct
pub ranked-read : (reads : List ReadItem) (place : Place) (position : ℕ) (other : ReadItem) → IsDistinct same_place (map place_of reads) → position < length reads
    → rank_at reads position ≡ rank place → read_of reads place ≡ Some (get_or reads position other)
ranked-read [] place position other distinct within same = absurd (omega arith)
ranked-read (read ∷ reads) place zero other distinct within same =
    let is : place_of read ≡ place = rank-same (place_of read) place same in
    let found : same_place (place_of read) place ≡ true = subst (λ p. same_place (place_of read) p ≡ true) is (same_place-refl (place_of read)) in
    ap (λ (b : Bool). if b then Some read else read_of reads place) found
ranked-read (read ∷ reads) place (suc position) other distinct within same =
    let rest = ranked-read reads place position other (IsDistinct-tail same_place (place_of read) (map place_of reads) distinct) (omega arith) same in
    later (same_place (place_of read) place) refl rest
  where
    later : (b : Bool) → same_place (place_of read) place ≡ b → read_of reads place ≡ Some (get_or reads position other)
        → (if b then Some read else read_of reads place) ≡ Some (get_or reads position other)
    later true is rest =
        let at : place_of read ≡ place = same_place-true (place_of read) place is in
        absurd (apart-at (place_of read) reads position (omega arith) (IsDistinct-head same_place (place_of read) (map place_of reads) distinct) (same ∙ ap rank (sym at)))
    later false is rest = rest

-- nor does a place that is not found have the rank of a read
pub unread-unranked : (reads : List ReadItem) (place : Place) (position : ℕ) → read_of reads place ≡ None → position < length reads → rank_at reads position ≡ rank place → ⊥
unread-unranked [] place position none within same = omega arith
unread-unranked (read ∷ reads) place zero none within same =
    let is : place_of read ≡ place = rank-same (place_of read) place same in
    let found : same_place (place_of read) place ≡ true = subst (λ p. same_place (place_of read) p ≡ true) is (same_place-refl (place_of read)) in
    let clash : true ≡ false = sym found ∙ none-first (same_place (place_of read) place) read (read_of reads place) none in cc
unread-unranked (read ∷ reads) place (suc position) none within same =
    unread-unranked reads place position (none-rest (same_place (place_of read) place) read (read_of reads place) none) (omega arith) same
