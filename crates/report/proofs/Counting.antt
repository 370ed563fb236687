-- How the count of a tenant's texts grows with the entries.
use Rattle.std.proofs.Common.{◌≡◌, ℕ, suc, ◌+◌, ◌≤◌, ◌==◌, true, false, cond, List, [], ◌∷◌, ◌++◌, length, length-append, append-nil, refl, ap, subst, sym, ◌∙◌, arith, inl, inr}
use Rattle.std.proofs.lemmas.Bool.Decides.{eqb_tells}
use Rattle.sp_base.specs.declared.numbers.TenantId.{TenantId}
use Rattle.journal.specs.declared.entry.Entry.{Entry}
use Rattle.journal.specs.declared.entry.Entry.TheVariants.{Invoke, Put, Install}
use Rattle.journal.specs.Folds.{texts_of}
use Rattle.report.specs.Numbering.{Counts, CountsTexts, ChangesOnly, count_of}

-- no tenant has more texts than there are entries
pub length-texts_of : (entries : List Entry) (tenant : TenantId) → length (texts_of entries tenant) ≤ length entries
length-texts_of [] tenant = omega arith
length-texts_of (Invoke call outcome writes reads home ∷ entries) tenant = omega (arith, length-texts_of entries tenant)
length-texts_of (Put installer table key value ∷ entries) tenant = omega (arith, length-texts_of entries tenant)
length-texts_of (Install installer text ∷ entries) tenant =
    elim (installer.0 == tenant.0) as (λ b. length (cond b (text ∷ texts_of entries tenant) (texts_of entries tenant)) ≤ suc (length entries)) [
      | true ↦ omega (arith, length-texts_of entries tenant)
      | false ↦ omega (arith, length-texts_of entries tenant)
    ]

-- the texts of more entries stand behind those of the first
pub texts_of-append : (before after : List Entry) (tenant : TenantId) → texts_of (before ++ after) tenant ≡ texts_of before tenant ++ texts_of after tenant
texts_of-append [] after tenant = refl
texts_of-append (Invoke call outcome writes reads home ∷ before) after tenant = texts_of-append before after tenant
texts_of-append (Put installer table key value ∷ before) after tenant = texts_of-append before after tenant
texts_of-append (Install installer text ∷ before) after tenant =
    elim (installer.0 == tenant.0) as (λ b. cond b (text ∷ texts_of (before ++ after) tenant) (texts_of (before ++ after) tenant) ≡ cond b (text ∷ texts_of before tenant) (texts_of before tenant) ++ texts_of after tenant) [
      | true ↦ ap (λ (texts : List (List ℕ)). text ∷ texts) (texts_of-append before after tenant)
      | false ↦ texts_of-append before after tenant
    ]

-- one installation more
pub counts-installed : (old new : Counts) (before : List Entry) (tenant : TenantId) (text : List ℕ)
    → CountsTexts old before → ChangesOnly old new tenant.0 (count_of old tenant.0 + 1)
    → CountsTexts new (before ++ Install tenant text ∷ [])
counts-installed old new before tenant text counts changes other =
    let all = texts_of-append before (Install tenant text ∷ []) other in
    let was : count_of old other.0 ≡ length (texts_of before other) = counts other in
    elim (eqb_tells tenant.0 other.0) [
      | inl same ↦
          let grown : count_of new other.0 ≡ count_of old other.0 + 1 =
          subst (λ (n : ℕ). count_of new n ≡ count_of old n + 1) same.1 changes.changed in
          let test = same.0 in
          rw (all, test) (grown ∙ omega (arith, was, length-append (texts_of before other) (text ∷ [])))
      | inr differs ↦
          let kept : count_of new other.0 ≡ count_of old other.0 =
          changes.others other.0 (λ e. differs.1 (sym e)) in
          let test = differs.0 in
          rw (all, test) (kept ∙ was ∙ ap length (sym (append-nil (texts_of before other))))
    ]

-- an entry that is no installation
pub counts-kept : (counts : Counts) (before : List Entry) (entry : Entry)
    → ((tenant : TenantId) (text : List ℕ) → entry ≡ Install tenant text → ⊥) → CountsTexts counts before
    → CountsTexts counts (before ++ entry ∷ [])
counts-kept counts before (Invoke call outcome writes reads home) none was tenant =
    let all = texts_of-append before (Invoke call outcome writes reads home ∷ []) tenant in
    rw all (was tenant ∙ ap length (sym (append-nil (texts_of before tenant))))
counts-kept counts before (Put installer table key value) none was tenant =
    let all = texts_of-append before (Put installer table key value ∷ []) tenant in
    rw all (was tenant ∙ ap length (sym (append-nil (texts_of before tenant))))
counts-kept counts before (Install installer text) none was tenant = absurd (none installer text refl)
