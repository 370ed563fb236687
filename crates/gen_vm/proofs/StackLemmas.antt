-- A stack grows at the end of its list, and is seen from there.
use Rattle.std.proofs.Common.{◌≡◌, inl, inr, ℕ, zero, suc, ◌-◌, ◌<◌, ◌≤◌, List, [], ◌∷◌, ◌++◌, length, get_or, reverse, take, drop, refl, ap, sym, ◌∙◌, arith}
use Rattle.std.specs.Prelude.{Option, slice_get, slice_set, unwrap_or}
use Rattle.std.proofs.lemmas.List.{reverse-append, reverse-reverse, length-reverse, length-drop, take-append-drop, drop_all, get_or-reverse, take_all}
use Rattle.std.proofs.lemmas.Option.{slice_get-get_or, slice_get_past, unwrap_or-slice_get}
use Rattle.std.proofs.Math.Seq.{drop-append_seam, take-append_seam}
use Rattle.std.proofs.lemmas.Bool.{cases_lt}
use Rattle.ext_mean.specs.declared.state.Value.{Value}
use Rattle.ext_mean.specs.MeaningValues.{nothing}
use Rattle.gen_code.specs.Machine.{slot}
use Rattle.gen_vm.specs.Depths.{at_depth}

pub reverse-pushed : {X : Type 0} (items : List X) (item : X) → reverse (items ++ item ∷ []) ≡ item ∷ reverse items
reverse-pushed items item = reverse-append items (item ∷ [])

-- the part that is kept, seen from its end
kept-some : {X : Type 0} (items : List X) (count : ℕ) → count ≤ length items → reverse (take (length items - count) items) ≡ drop count (reverse items)
kept-some items count few =
    let n = length items - count in
    let back = reverse (drop n items) in
    let front = reverse (take n items) in
    let whole : reverse items ≡ back ++ front = ap reverse (sym (take-append-drop n items)) ∙ reverse-append (take n items) (drop n items) in
    let long : length back ≡ count = length-reverse (drop n items) ∙ length-drop n items ∙ omega arith in
    sym (ap (drop count) whole ∙ ap (λ (k : ℕ). drop k (back ++ front)) (sym long) ∙ drop-append_seam back front)

taken-some : {X : Type 0} (items : List X) (count : ℕ) → count ≤ length items → drop (length items - count) items ≡ reverse (take count (reverse items))
taken-some items count few =
    let n = length items - count in
    let back = reverse (drop n items) in
    let front = reverse (take n items) in
    let whole : reverse items ≡ back ++ front = ap reverse (sym (take-append-drop n items)) ∙ reverse-append (take n items) (drop n items) in
    let long : length back ≡ count = length-reverse (drop n items) ∙ length-drop n items ∙ omega arith in
    let part : take count (reverse items) ≡ back = ap (take count) whole ∙ ap (λ (k : ℕ). take k (back ++ front)) (sym long) ∙ take-append_seam back front in
    sym (ap reverse part ∙ reverse-reverse (drop n items))

all-kept : {X : Type 0} (items : List X) (count : ℕ) → length items ≤ count → reverse (take (length items - count) items) ≡ drop count (reverse items)
all-kept items count many =
    let none : length items - count ≡ 0 = omega arith in
    let long : length (reverse items) ≤ count = omega (arith, length-reverse items) in
    ap (λ (n : ℕ). reverse (take n items)) none ∙ sym (drop_all count (reverse items) long)

all-taken : {X : Type 0} (items : List X) (count : ℕ) → length items ≤ count → drop (length items - count) items ≡ reverse (take count (reverse items))
all-taken items count many =
    let none : length items - count ≡ 0 = omega arith in
    let long : length (reverse items) ≤ count = omega (arith, length-reverse items) in
    ap (λ (n : ℕ). drop n items) none ∙ sym (ap reverse (take_all count (reverse items) long) ∙ reverse-reverse items)

-- so many of the last items are gone
pub reverse-kept : {X : Type 0} (items : List X) (count : ℕ) → reverse (take (length items - count) items) ≡ drop count (reverse items)
reverse-kept items count = elim (cases_lt count (length items)) [
  | inl less ↦ kept-some items count (omega arith)
  | inr more ↦ all-kept items count more
]

-- and these are they
pub reverse-taken : {X : Type 0} (items : List X) (count : ℕ) → drop (length items - count) items ≡ reverse (take count (reverse items))
reverse-taken items count = elim (cases_lt count (length items)) [
  | inl less ↦ taken-some items count (omega arith)
  | inr more ↦ all-taken items count more
]

-- a value by its depth
pub at_depth-reverse : (items : List Value) (depth : ℕ) → depth < length items → at_depth depth (reverse items) ≡ unwrap_or (slice_get items (length items - 1 - depth)) nothing
at_depth-reverse items depth within =
    unwrap_or-slice_get (reverse items) depth nothing ∙ get_or-reverse items depth nothing within
    ∙ sym (unwrap_or-slice_get items (length items - 1 - depth) nothing)

pub at_depth-past : (items : List Value) (depth : ℕ) → length items ≤ depth → at_depth depth (reverse items) ≡ nothing
at_depth-past items depth past =
    let long : length (reverse items) ≤ depth = omega (arith, length-reverse items) in
    ap (λ (z : Option Value). unwrap_or z nothing) (slice_get_past (reverse items) depth long)

-- a slot that is not there stays so
pub set-past : {X : Type 0} (items : List X) (at : ℕ) (item : X) → length items ≤ at → slice_set items at item ≡ items
set-past [] at item past = refl
set-past (first ∷ items) zero item past = absurd (omega arith)
set-past (first ∷ items) (suc at) item past = ap (λ z. first ∷ z) (set-past items at item (omega arith))

-- what is written twice at one place is what was written last
pub set-set : {X : Type 0} (items : List X) (at : ℕ) (first second : X) → slice_set (slice_set items at first) at second ≡ slice_set items at second
set-set [] at first second = refl
set-set (item ∷ items) zero first second = refl
set-set (item ∷ items) (suc at) first second = ap (λ z. item ∷ z) (set-set items at first second)

-- the value of a slot that is there
pub slot-read : (items : List Value) (at : ℕ) (value : Value) → at < length items → value ≡ get_or items at value → value ≡ slot items at
slot-read items at value within read =
    read ∙ sym (ap (λ (z : Option Value). unwrap_or z nothing) (slice_get-get_or items at value within))

pub ruleset stacks = (reverse-pushed, reverse-kept, reverse-taken, at_depth-reverse, at_depth-past, set-past)
