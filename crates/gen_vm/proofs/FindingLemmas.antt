-- An item that was found stands in the list, and is the one that a change replaces.
use Rattle.std.proofs.Common.{◌≡◌, ℕ, zero, suc, ◌+◌, ◌<◌, ◌≤◌, Bool, true, false, cond, List, [], ◌∷◌, ◌++◌, length, set, Option, Some, None, refl, ap, sym, ◌∙◌, arith}
use Rattle.std.specs.Prelude.{is_some}
use Rattle.sp_base.specs.Places.{Place, same_place}
use Rattle.sp_base.specs.declared.writes.Change.{Change}
use Rattle.sp_base.specs.declared.writes.Write.{Write}
use Rattle.ext_mean.specs.MeaningValues.{changed, pending, place_changed}
use Rattle.gen_vm.specs.Finding.{first_from}

-- how far behind its beginning a search found an item
pub record IsAt (k at length : ℕ) : Type 0 where
  pub from : k ≤ at
  pub below : at < k + length

none-some : (n : ℕ) → (let none : Option ℕ = None in none ≡ Some n) → ⊥
none-some n e = cc

some-none : (n : ℕ) → (let none : Option ℕ = None in Some n ≡ none) → ⊥
some-none n e = cc

at-step : (b : Bool) (k at n : ℕ) (rest : Option ℕ) → cond b (Some k) rest ≡ Some at → (rest ≡ Some at → IsAt (k + 1) at n) → IsAt k at (suc n)
at-step true k at n rest e more = let f : k ≡ at = cc in record { from = omega arith; below = omega arith }
at-step false k at n rest e more = let h = more e in record { from = omega arith; below = omega arith }

pub found-at : {A : Type 0} (test : A → Bool) (k at : ℕ) (items : List A) → first_from test k items ≡ Some at → IsAt k at (length items)
found-at test k at [] e = absurd (none-some at e)
found-at test k at (first ∷ rest) e = at-step (test first) k at (length rest) (first_from test (k + 1) rest) e (found-at test (k + 1) at rest)

pub found-below : {A : Type 0} (test : A → Bool) (at : ℕ) (items : List A) → first_from test 0 items ≡ Some at → at < length items
found-below test at items e = let h = found-at test 0 at items e in omega arith

-- an item is replaced where the first one that passes the test stands
set-step : {A : Type 0} (b : Bool) (k j : ℕ) (rest : Option ℕ) (first new : A) (items behind : List A)
    → cond b (Some k) rest ≡ Some (k + j)
    → (rest ≡ Some (k + j) → IsAt (k + 1) (k + j) (length items))
    → ((i : ℕ) → rest ≡ Some (k + 1 + i) → behind ≡ set items i new)
    → cond b (new ∷ items) (first ∷ behind) ≡ set (first ∷ items) j new
set-step true k zero rest first new items behind e above more = refl
set-step true k (suc j) rest first new items behind e above more = let f : k ≡ k + suc j = cc in absurd (omega arith)
set-step false k zero rest first new items behind e above more = let h = above e in absurd (omega arith)
set-step false k (suc j) rest first new items behind e above more =
    let f : rest ≡ Some (k + 1 + j) = e ∙ ap (λ (n : ℕ). Some n) (omega arith) in
    ap (λ (z : List _). first ∷ z) (more j f)

-- nothing passes the test
lost-step : {A : Type 0} (b : Bool) (k : ℕ) (rest : Option ℕ) (first new : A) (items behind all : List A)
    → cond b (Some k) rest ≡ None → (rest ≡ None → behind ≡ all)
    → cond b (new ∷ items) (first ∷ behind) ≡ first ∷ all
lost-step true k rest first new items behind all e more = absurd (some-none k e)
lost-step false k rest first new items behind all e more = ap (λ (z : List _). first ∷ z) (more e)

-- whether a change is at a place
abbrev there : Place → Write → Bool
there place write = same_place (place_changed write) place

changed-from : (new : Write) (k j : ℕ) (writes : List Write) → first_from (there (place_changed new)) k writes ≡ Some (k + j) → changed new writes ≡ set writes j new
changed-from new k j [] e = absurd (none-some (k + j) e)
changed-from new k j (first ∷ rest) e =
    set-step (there (place_changed new) first) k j (first_from (there (place_changed new)) (k + 1) rest) first new rest (changed new rest) e
    (found-at (there (place_changed new)) (k + 1) (k + j) rest)
    (λ i. changed-from new (k + 1) i rest)

pub changed-found : (new : Write) (at : ℕ) (writes : List Write) → first_from (λ write. same_place (place_changed write) (place_changed new)) 0 writes ≡ Some at
    → set writes at new ≡ changed new writes
changed-found new at writes e = sym (changed-from new 0 at writes (e ∙ ap (λ (n : ℕ). Some n) (omega arith)))

changed-none : (new : Write) (k : ℕ) (writes : List Write) → first_from (there (place_changed new)) k writes ≡ None → changed new writes ≡ writes ++ new ∷ []
changed-none new k [] e = refl
changed-none new k (first ∷ rest) e =
    lost-step (there (place_changed new) first) k (first_from (there (place_changed new)) (k + 1) rest) first new rest (changed new rest) (rest ++ new ∷ []) e
    (changed-none new (k + 1) rest)

pub changed-absent : (new : Write) (writes : List Write) → first_from (λ write. same_place (place_changed write) (place_changed new)) 0 writes ≡ None → changed new writes ≡ writes ++ new ∷ []
changed-absent new writes = changed-none new 0 writes

-- something is pending at a place exactly where it was found
pending-step : (b : Bool) (k : ℕ) (rest : Option ℕ) (change : Change) (behind : Option Change) → is_some behind ≡ is_some rest → is_some (cond b (Some change) behind) ≡ is_some (cond b (Some k) rest)
pending-step true k rest change behind e = refl
pending-step false k rest change behind e = e

pending-from : (place : Place) (k : ℕ) (writes : List Write) → is_some (pending place writes) ≡ is_some (first_from (there place) k writes)
pending-from place k [] = refl
pending-from place k (first ∷ rest) = pending-step (there place first) k (first_from (there place) (k + 1) rest) first.change (pending place rest) (pending-from place (k + 1) rest)

pub pending-found : (place : Place) (writes : List Write) → is_some (pending place writes) ≡ is_some (first_from (λ write. same_place (place_changed write) place) 0 writes)
pending-found place writes = pending-from place 0 writes

pub ruleset finding = (found-below, changed-found, changed-absent, pending-found)
