-- What one more entry makes of the folds.
use Rattle.std.specs.Prelude.{◌==◌, if◌then◌else◌}
use Rattle.std.proofs.Common.{◌≡◌, ◌≤◌, ℕ, suc, ◌+◌, Bool, true, false, List, [], ◌∷◌, ◌++◌, length, refl, sym, ◌∙◌, ap, subst, arith, add-one}
use Rattle.sp_base.specs.declared.numbers.Caller.{Caller}
use Rattle.sp_base.specs.declared.numbers.TenantId.{TenantId}
use Rattle.sp_base.specs.Places.{Place}
use Rattle.records.specs.Records.{Record, absent}
use Rattle.journal.specs.declared.entry.Entry.{Entry}
use Rattle.journal.specs.declared.entry.Entry.TheVariants.{Invoke, Put, Install}
use Rattle.journal.specs.Folds.{after_entries, after_entry, last_after, last_of, record_of, same_caller, texts_of}

-- the texts of one more entry stand behind the others
pub texts_of-behind : (journal : List Entry) (entry : Entry) (tenant : TenantId)
    → texts_of (journal ++ entry ∷ []) tenant ≡ texts_of journal tenant ++ texts_of (entry ∷ []) tenant
texts_of-behind [] entry tenant = refl
texts_of-behind (Invoke call outcome writes reads home ∷ journal) entry tenant = texts_of-behind journal entry tenant
texts_of-behind (Put putter table key value ∷ journal) entry tenant = texts_of-behind journal entry tenant
texts_of-behind (Install installer text ∷ journal) entry tenant =
    elim (installer.0 == tenant.0) as
    (λ (b : Bool). (if b then text ∷ texts_of (journal ++ entry ∷ []) tenant else texts_of (journal ++ entry ∷ []) tenant)
    ≡ (if b then text ∷ texts_of journal tenant else texts_of journal tenant) ++ texts_of (entry ∷ []) tenant) [
      | true ↦ ap (λ (texts : List (List ℕ)). text ∷ texts) (texts_of-behind journal entry tenant)
      | false ↦ texts_of-behind journal entry tenant
    ]

-- no tenant has more texts than there are entries
pub texts_of-few : (journal : List Entry) (tenant : TenantId) → length (texts_of journal tenant) ≤ length journal
texts_of-few [] tenant = omega arith
texts_of-few (Invoke call outcome writes reads home ∷ journal) tenant = omega (arith, texts_of-few journal tenant)
texts_of-few (Put putter table key value ∷ journal) tenant = omega (arith, texts_of-few journal tenant)
texts_of-few (Install installer text ∷ journal) tenant =
    elim (installer.0 == tenant.0) as
    (λ (b : Bool). length (if b then text ∷ texts_of journal tenant else texts_of journal tenant) ≤ suc (length journal)) [
      | true ↦ omega (arith, texts_of-few journal tenant)
      | false ↦ omega (arith, texts_of-few journal tenant)
    ]

last_after-behind : (journal : List Entry) (last : ℕ) (entry : Entry) (caller : Caller)
    → last_after last (journal ++ entry ∷ []) caller ≡ last_after (last_after last journal caller) (entry ∷ []) caller
last_after-behind [] last entry caller = refl
last_after-behind (Invoke call outcome writes reads home ∷ journal) last entry caller =
    last_after-behind journal (if same_caller call.caller caller then call.number.0 else last) entry caller
last_after-behind (Put putter table key value ∷ journal) last entry caller = last_after-behind journal last entry caller
last_after-behind (Install installer text ∷ journal) last entry caller = last_after-behind journal last entry caller

-- one more entry is the last word on its caller's number
pub last_of-behind : (journal : List Entry) (entry : Entry) (caller : Caller)
    → last_of (journal ++ entry ∷ []) caller ≡ last_after (last_of journal caller) (entry ∷ []) caller
last_of-behind journal entry caller = last_after-behind journal 0 entry caller

after_entries-behind : (n : ℕ) (journal : List Entry) (entry : Entry) (place : Place) (before : Record)
    → after_entries n (journal ++ entry ∷ []) place before ≡ after_entry (n + length journal) entry place (after_entries n journal place before)
after_entries-behind n [] entry place before = ap (λ (m : ℕ). after_entry m entry place before) (omega arith)
after_entries-behind n (first ∷ journal) entry place before =
    after_entries-behind (n + 1) journal entry place (after_entry n first place before)
    ∙ ap (λ (m : ℕ). after_entry m entry place (after_entries n (first ∷ journal) place before)) (omega arith)

-- one more entry is the last word on what it changes
pub record_of-behind : (journal : List Entry) (entry : Entry) (place : Place)
    → record_of (journal ++ entry ∷ []) place ≡ after_entry (length journal) entry place (record_of journal place)
record_of-behind journal entry place =
    after_entries-behind 0 journal entry place absent
    ∙ ap (λ (m : ℕ). after_entry m entry place (record_of journal place)) (omega arith)
