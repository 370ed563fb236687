-- A line is its fields with one space between each two.
use Rattle.std.proofs.Common.{◌≡◌, ℕ, zero, suc, ◌<◌, ◌≤◌, true, false, eqb, List, [], ◌∷◌, ◌++◌, length, Option, Some, None, refl, sym, ap, subst, ◌∙◌, inl, inr, arith}
use Rattle.std.specs.Prelude.{◌↔◌}
use Rattle.std.specs.List.{AllByRecursion}
use Rattle.std.specs.Option.{option_map_or}
use Rattle.std.proofs.lemmas.Bool.{cases_eq, ne_eqb, eq-eqb}
use Rattle.std.proofs.lemmas.List.{append-nil}
use Rattle.sched_text.specs.Fields.{cut, first_fields, fields_of}
use Rattle.sched_text.specs.Laws.{spaced, Lacks, AreFields, FieldsAreSpaced}
use Rattle.sched_text.proofs.Digits.{option_cases}

-- ---- a text cut at a byte

same_is : (mark : ℕ) → eqb mark mark ≡ true
same_is mark = eq-eqb mark mark refl

pub cut_alone : (mark : ℕ) (text : List ℕ) → Lacks mark text → cut mark text ≡ (text, None)
cut_alone mark [] lacks = refl
cut_alone mark (byte ∷ text) lacks =
    let t : eqb byte mark ≡ false = ne_eqb byte mark lacks.0 in
    rw (t, cut_alone mark text lacks.1) refl

pub cut_first : (mark : ℕ) (front rest : List ℕ) → Lacks mark front → cut mark (front ++ mark ∷ rest) ≡ (front, Some rest)
cut_first mark [] rest lacks = let t = same_is mark in rw t refl
cut_first mark (byte ∷ front) rest lacks =
    let t : eqb byte mark ≡ false = ne_eqb byte mark lacks.0 in
    rw (t, cut_first mark front rest lacks.1) refl

-- what was cut, put together again
abbrev together : ℕ → List ℕ × Option (List ℕ) → List ℕ
together mark parts = parts.0 ++ option_map_or (λ rest. mark ∷ rest) parts.1 []

pub cut_together : (mark : ℕ) (text : List ℕ) → text ≡ together mark (cut mark text)
cut_together mark [] = refl
cut_together mark (byte ∷ text) =
    elim (cases_eq byte mark) [
      | inl same ↦ let t : eqb byte mark ≡ true = eq-eqb byte mark same in
          rw t (ap (λ (b : ℕ). b ∷ text) same)
      | inr other ↦ let t : eqb byte mark ≡ false = ne_eqb byte mark other in
          rw t (ap (λ (r : List ℕ). byte ∷ r) (cut_together mark text))
    ]

-- ---- fields

one_more : (front : List ℕ) (most : ℕ) (rest : List ℕ) → length (first_fields most rest) < most → spaced (front ∷ first_fields most rest) ≡ front ++ 32 ∷ spaced (first_fields most rest)
one_more front zero rest h = absurd (omega arith)
one_more front (suc most) rest h = refl

shorter : {m n : ℕ} → suc m < suc n → m < n
shorter h = omega arith

pub spaced_back : (most : ℕ) (line : List ℕ) → length (first_fields most line) < most → line ≡ spaced (first_fields most line)
spaced_back zero line h = absurd (omega arith)
spaced_back (suc most) line h =
    let parts = cut_together 32 line in
    elim (option_cases (cut 32 line).1) [
      | inl none ↦
          let alone : line ≡ (cut 32 line).0 ++ [] = rw none at parts in
          rw none (alone ∙ append-nil (cut 32 line).0)
      | inr some ↦
          let both : line ≡ (cut 32 line).0 ++ 32 ∷ some.0 = rw some.1 at parts in
          let fewer : length (first_fields most some.0) < most = rw some.1 at (shorter h) in
          rw some.1 (both ∙ ap (λ (r : List ℕ). (cut 32 line).0 ++ 32 ∷ r) (spaced_back most some.0 fewer) ∙ sym (one_more (cut 32 line).0 most some.0 fewer))
    ]

pub fields_again : (most : ℕ) (fields : List (List ℕ)) → 1 ≤ length fields → length fields ≤ most → AllByRecursion (Lacks 32) fields → first_fields most (spaced fields) ≡ fields
fields_again most [] some few apart = absurd (omega arith)
fields_again zero (field ∷ more) some few apart = absurd (omega arith)
fields_again (suc most) (field ∷ []) some few apart = rw (cut_alone 32 field apart.0) refl
fields_again (suc most) (field ∷ next ∷ more) some few apart =
    rw (cut_first 32 field (spaced (next ∷ more)) apart.0)
    (ap (λ (r : List (List ℕ)). field ∷ r) (fields_again most (next ∷ more) (omega arith) (omega arith) apart.1))

fields_law : (most : ℕ) (line : List ℕ) (fields : List (List ℕ)) → length fields < most → AreFields fields → (first_fields most line ≡ fields) ↔ (line ≡ spaced fields)
fields_law most line fields few are = (
  λ e. spaced_back most line (subst (λ (l : List (List ℕ)). length l < most) (sym e) few) ∙ ap spaced e,
  λ e. ap (first_fields most) e ∙ fields_again most fields are.some (omega (arith, few)) are.apart,
)

pub fields_are_spaced : FieldsAreSpaced
unfolding fields_of
fields_are_spaced line fields are = fields_law 10 line fields (omega (arith, are.few)) are
