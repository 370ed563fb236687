-- A journal with one more entry.
use Rattle.std.specs.Prelude.{◌⊎◌}
use Rattle.std.proofs.Common.{◌≡◌, ◌≤◌, ◌<◌, ℕ, zero, suc, List, [], ◌∷◌, ◌++◌, length, take, Some, slice_get, refl, sym, ◌∙◌, ap, subst, inl, inr, arith}
use Rattle.std.proofs.lemmas.List.{take-append-le}
use Rattle.std.proofs.Math.Seq.{take-append_seam}
use Rattle.journal.specs.declared.entry.Entry.{Entry}
use Rattle.journal.specs.Legal.{EachFrom}

-- an item of a list with one more item is one of the list, or the last
pub slice_get-append_one : {A : Type 0} (xs : List A) (y : A) (i : ℕ) (x : A)
    → slice_get (xs ++ y ∷ []) i ≡ Some x
    → ((slice_get xs i ≡ Some x) × (i < length xs)) ⊎ ((i ≡ length xs) × (y ≡ x))
slice_get-append_one [] y zero x found = inr (refl, (cc))
slice_get-append_one [] y (suc i) x found = (cc)
slice_get-append_one (z ∷ xs) y zero x found = inl (found, omega arith)
slice_get-append_one (z ∷ xs) y (suc i) x found =
    elim (slice_get-append_one xs y i x found) [
      | inl h ↦ inl (h.0, omega (arith, h.1))
      | inr h ↦ inr (omega (arith, h.0), h.1)
    ]

-- what holds at each place of a journal from a number on and of the next entry holds at each place of the longer one
pub each-grown : (Holds : List Entry → Entry → Type 0) (start : ℕ) (journal : List Entry) (entry : Entry)
    → EachFrom Holds start journal → Holds journal entry → EachFrom Holds start (journal ++ entry ∷ [])
each-grown Holds start journal entry before next i x from found =
    elim (slice_get-append_one journal entry i x found) [
      | inl h ↦
          let within : i ≤ length journal = omega (arith, h.1) in
          subst (λ (front : List Entry). Holds front x) (sym (take-append-le i journal (entry ∷ []) within))
          (before i x from h.0)
      | inr h ↦
          let front : take i (journal ++ entry ∷ []) ≡ journal =
          ap (λ (n : ℕ). take n (journal ++ entry ∷ [])) h.0 ∙ take-append_seam journal (entry ∷ []) in
          subst (λ (earlier : List Entry). Holds earlier x) (sym front)
          (subst (λ (last : Entry). Holds journal last) h.1 next)
    ]
