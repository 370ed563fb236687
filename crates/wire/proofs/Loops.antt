-- Reading values one after the other, as a loop does.
use Rattle.std.proofs.Common.{◌≡◌, ℕ, suc, ◌-◌, ◌+◌, ◌≤◌, ◌<◌, List, [], ◌∷◌, ◌++◌, Result, Ok, Err, refl, sym, ap, ◌∙◌, append_assoc, arith}
use Rattle.std.proofs.lemmas.List.{append-nil}
use Rattle.wire.specs.declared.faults.ReadFault.{ReadFault}
use Rattle.wire.specs.declared.faults.ReadFault.TheVariants as faults
use Rattle.sp_base.specs.declared.numbers.TableId.{TableId}
use Rattle.sp_base.specs.declared.rights.Level.{Level}
use Rattle.wire.specs.Fields.{right_in, tables_from}
use Rattle.wire.specs.Readers.{Reader, ◌>>=◌, Fails, repeated}

-- what was read before, and what is still read
abbrev pub with_front : {A : Type 0} → List A → Result (List A × List ℕ) ℕ → Result (List A × List ℕ) ℕ
with_front front read = read >>= λ x. Ok (front ++ x.0, x.1)

regroup : {A : Type 0} (front : List A) (x : A) (read : Result (List A × List ℕ) ℕ) →
    with_front front (read >>= λ y. Ok (x ∷ y.0, y.1)) ≡ with_front (front ++ x ∷ []) read
regroup {A = A} front x (Ok y) = ap (λ (xs : List A). Ok (xs, y.1)) (sym (append_assoc front (x ∷ []) y.0))
regroup front x (Err left) = refl

pub goes_on : {A : Type 0} (p : Reader A) (front : List A) (count i : ℕ) (bytes : List ℕ) (x : A) (after : List ℕ) (total : Result (List A × List ℕ) ℕ) →
    i < count → p bytes ≡ Ok (x, after) → with_front front (repeated p (count - i) bytes) ≡ total →
    with_front (front ++ x ∷ []) (repeated p (count - (i + 1)) after) ≡ total
unfolding repeated
goes_on p front count i bytes x after total lt h so_far =
    let k : count - i ≡ suc (count - (i + 1)) = omega arith in
    let one : with_front front (repeated p (count - i) bytes) ≡ with_front (front ++ x ∷ []) (repeated p (count - (i + 1)) after) =
    rw (k, h) (regroup front x (repeated p (count - (i + 1)) after)) in
    sym one ∙ so_far

pub ends : {A : Type 0} (p : Reader A) (e : ReadFault) (front : List A) (count i : ℕ) (bytes : List ℕ) (total : Result (List A × List ℕ) ℕ) →
    i < count → Fails e (p bytes) → with_front front (repeated p (count - i) bytes) ≡ total → Fails e total
unfolding repeated
ends p faults.Memory front count i bytes total lt h so_far = tt
ends p (faults.Bad left) front count i bytes total lt h so_far =
    let k : count - i ≡ suc (count - (i + 1)) = omega arith in
    let one : with_front front (repeated p (count - i) bytes) ≡ Err left = rw (k, h) refl in
    sym so_far ∙ one

pub is_done : {A : Type 0} (p : Reader A) (front : List A) (count i : ℕ) (bytes : List ℕ) (total : Result (List A × List ℕ) ℕ) →
    count ≤ i → with_front front (repeated p (count - i) bytes) ≡ total → total ≡ Ok (front, bytes)
unfolding repeated
is_done {A = A} p front count i bytes total le so_far =
    let k : count - i ≡ 0 = omega arith in
    let one : with_front front (repeated p (count - i) bytes) ≡ Ok (front, bytes) = rw k (ap (λ (xs : List A). Ok (xs, bytes)) (append-nil front)) in
    sym so_far ∙ one

pub rights_go_on : (front : List (TableId × Level)) (count i least most : ℕ) (bytes : List ℕ) (r : TableId × Level) (after : List ℕ)
    (total : Result (List (TableId × Level) × List ℕ) ℕ) → i < count → most ≡ 4294967295 - (count - 1 - i) →
    right_in least most bytes ≡ Ok (r, after) → with_front front (tables_from (count - i) least bytes) ≡ total →
    with_front (front ++ r ∷ []) (tables_from (count - (i + 1)) (r.0.0 + 1) after) ≡ total
unfolding tables_from
rights_go_on front count i least most bytes r after total lt m h so_far =
    let k : count - i ≡ suc (count - (i + 1)) = omega arith in
    let n : most ≡ 4294967295 - (count - (i + 1)) = omega (arith, m) in
    let h' : right_in least (4294967295 - (count - (i + 1))) bytes ≡ Ok (r, after) = ap (λ (x : ℕ). right_in least x bytes) (sym n) ∙ h in
    let one : with_front front (tables_from (count - i) least bytes) ≡ with_front (front ++ r ∷ []) (tables_from (count - (i + 1)) (r.0.0 + 1) after) =
    rw (k, h') (regroup front r (tables_from (count - (i + 1)) (r.0.0 + 1) after)) in
    sym one ∙ so_far

pub rights_end : (e : ReadFault) (front : List (TableId × Level)) (count i least most : ℕ) (bytes : List ℕ)
    (total : Result (List (TableId × Level) × List ℕ) ℕ) → i < count → most ≡ 4294967295 - (count - 1 - i) →
    Fails e (right_in least most bytes) → with_front front (tables_from (count - i) least bytes) ≡ total → Fails e total
unfolding tables_from
rights_end faults.Memory front count i least most bytes total lt m h so_far = tt
rights_end (faults.Bad left) front count i least most bytes total lt m h so_far =
    let k : count - i ≡ suc (count - (i + 1)) = omega arith in
    let n : most ≡ 4294967295 - (count - (i + 1)) = omega (arith, m) in
    let h' : right_in least (4294967295 - (count - (i + 1))) bytes ≡ Err left = ap (λ (x : ℕ). right_in least x bytes) (sym n) ∙ h in
    let one : with_front front (tables_from (count - i) least bytes) ≡ Err left = rw (k, h') refl in
    sym so_far ∙ one

pub rights_done : (front : List (TableId × Level)) (count i least : ℕ) (bytes : List ℕ) (total : Result (List (TableId × Level) × List ℕ) ℕ) →
    count ≤ i → with_front front (tables_from (count - i) least bytes) ≡ total → total ≡ Ok (front, bytes)
unfolding tables_from
rights_done front count i least bytes total le so_far =
    let k : count - i ≡ 0 = omega arith in
    let one : with_front front (tables_from (count - i) least bytes) ≡ Ok (front, bytes) = rw k (ap (λ (xs : List (TableId × Level)). Ok (xs, bytes)) (append-nil front)) in
    sym so_far ∙ one
