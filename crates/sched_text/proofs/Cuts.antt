-- A text cut at a byte, step by step.
use Rattle.std.proofs.Common.{◌≡◌, ℕ, suc, ◌+◌, ◌-◌, ◌<◌, List, [], ◌∷◌, ◌++◌, Option, Some, None, refl, sym, ap, ◌∙◌, append_assoc, arith}
use Rattle.std.specs.Prelude.{map}
use Rattle.std.proofs.lemmas.List.{map-append}
use Rattle.sched_text.specs.Fields.{cut, first_fields}

-- bytes before what stands before the cut
abbrev pub with_front : List ℕ → List ℕ × Option (List ℕ) → List ℕ × Option (List ℕ)
with_front front parts = (front ++ parts.0, parts.1)

one_less : (k n : ℕ) → k < n → n - k ≡ suc (n - (k + 1))
one_less k n h = omega arith

last_alone : (k n : ℕ) (rest front : List ℕ) → k < n → cut 32 rest ≡ (front, None) → first_fields (n - k) rest ≡ front ∷ []
last_alone k n rest front h e = rw (one_less k n h, e) refl

next_before : (k n : ℕ) (rest front more : List ℕ) → k < n → cut 32 rest ≡ (front, Some more) → first_fields (n - k) rest ≡ front ∷ first_fields (n - (k + 1)) more
next_before k n rest front more h e = rw (one_less k n h, e) refl

-- a field is added behind those before, and nothing is left, or more
module _ {A : Type 0} (now : A → List ℕ) (before after : List A) (x : A) (k n : ℕ) (rest : List ℕ) (whole : List (List ℕ)) where
  pub last_field : k < n → after ≡ before ++ x ∷ [] → cut 32 rest ≡ (now x, None) → map now before ++ first_fields (n - k) rest ≡ whole → map now after ≡ whole
  last_field h e c so_far =
      let f = last_alone k n rest (now x) h c in
      rw e (map-append now before (x ∷ []) ∙ ap (λ (r : List (List ℕ)). map now before ++ r) (sym f) ∙ so_far)

  pub next_field : (more : List ℕ) → k < n → after ≡ before ++ x ∷ [] → cut 32 rest ≡ (now x, Some more) → map now before ++ first_fields (n - k) rest ≡ whole → map now after ++ first_fields (n - (k + 1)) more ≡ whole
  next_field more h e c so_far =
      let f = next_before k n rest (now x) more h c in
      rw (e, map-append now before (x ∷ []), append_assoc) (ap (λ (r : List (List ℕ)). map now before ++ r) (sym f) ∙ so_far)
