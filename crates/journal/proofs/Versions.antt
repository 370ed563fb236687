-- The value of a version: it stays as the journal grows, and the version that now stands has the
-- value that now stands.
use Rattle.std.specs.Prelude.{◌⊎◌, if◌then◌else◌}
use Rattle.std.proofs.Common.{◌≡◌, ◌≤◌, ◌<◌, ℕ, zero, suc, ◌+◌, Bool, true, false, List, [], ◌∷◌, ◌++◌, length, Option, Some, slice_get, refl, sym, ◌∙◌, ap, subst, inl, inr, arith, append_assoc, append-nil, add-one, length-append}
use Rattle.sp_base.specs.declared.writes.Change.{Change}
use Rattle.sp_base.specs.declared.writes.Change.TheVariants as change
use Rattle.sp_base.specs.declared.writes.Write.{Write}
use Rattle.sp_base.specs.Places.{Place, same_place}
use Rattle.journal.specs.declared.entry.Entry.{Entry}
use Rattle.journal.specs.declared.entry.Entry.TheVariants.{Invoke, Put, Install}
use Rattle.records.specs.Records.{Record, absent, place_at}
use Rattle.journal.specs.Folds.{put_by, changed_by, after_changes, after_entry, after_entries, record_of, value_by, value_at}

-- What an entry with number n makes of a record, from what it makes of an absent one: either it
-- leaves both, or it makes both the same, which is absent or has the version n + 1.
abbrev pub Touches : ℕ → Record → Record → Record → Type 0
Touches n before after blank =
    ((after ≡ before) × (blank ≡ absent))
    ⊎ ((after ≡ blank) × ((blank.version ≡ n + 1) ⊎ (blank ≡ absent)))

touches-change : (n : ℕ) (change : Change) → ((changed_by n change).version ≡ n + 1) ⊎ (changed_by n change ≡ absent)
touches-change n (change.Put value) = inl refl
touches-change n change.Del = inr refl

-- after a change of this entry, the rest of its changes leave that or make their own
after-own : (n : ℕ) (writes : List Write) (place : Place) (own : Record)
    → ((own.version ≡ n + 1) ⊎ (own ≡ absent))
    → Touches n own (after_changes n writes place own) (after_changes n writes place absent)
    → ((after_changes n writes place own).version ≡ n + 1) ⊎ (after_changes n writes place own ≡ absent)
after-own n writes place own made (inl h) =
    elim made [ inl v ↦ inl (ap (λ (r : Record). r.version) h.0 ∙ v) | inr e ↦ inr (h.0 ∙ e) ]
after-own n writes place own made (inr h) =
    elim h.1 [ inl v ↦ inl (ap (λ (r : Record). r.version) h.0 ∙ v) | inr e ↦ inr (h.0 ∙ e) ]

touches-changes : (n : ℕ) (writes : List Write) (place : Place) (before : Record)
    → Touches n before (after_changes n writes place before) (after_changes n writes place absent)
touches-changes n [] place before = inl (refl, refl)
touches-changes n (write ∷ writes) place before =
    elim (same_place (place_at write.table write.key) place) as
    (λ (same : Bool). Touches n before
    (after_changes n writes place (if same then changed_by n write.change else before))
    (after_changes n writes place (if same then changed_by n write.change else absent))) [
      | true ↦ inr (
        refl,
        after-own n writes place (changed_by n write.change) (touches-change n write.change)
            (touches-changes n writes place (changed_by n write.change)),
      )
      | false ↦ touches-changes n writes place before
    ]

touches-entry : (n : ℕ) (entry : Entry) (place : Place) (before : Record)
    → Touches n before (after_entry n entry place before) (after_entry n entry place absent)
touches-entry n (Invoke call outcome writes reads home) place before = touches-changes n writes place before
touches-entry n (Put tenant table key value) place before =
    elim (same_place (place_at table key) place) as
    (λ (same : Bool). Touches n before (if same then put_by n value else before) (if same then put_by n value else absent)) [
      | true ↦ inr (refl, inl refl)
      | false ↦ inl (refl, refl)
    ]
touches-entry n (Install tenant text) place before = inl (refl, refl)

pub slice_get-append_front : {A : Type 0} (xs ys : List A) (i : ℕ) → i < length xs → slice_get (xs ++ ys) i ≡ slice_get xs i
slice_get-append_front [] ys i within = absurd (omega arith)
slice_get-append_front (x ∷ xs) ys zero within = refl
slice_get-append_front (x ∷ xs) ys (suc i) within = slice_get-append_front xs ys i (omega arith)

pub slice_get-append_seam : {A : Type 0} (xs : List A) (y : A) (ys : List A) → slice_get (xs ++ y ∷ ys) (length xs) ≡ Some y
slice_get-append_seam [] y ys = refl
slice_get-append_seam (x ∷ xs) y ys = slice_get-append_seam xs y ys

-- a version's value stays as the journal grows
pub value_at-prefix : (front back : List Entry) (place : Place) (version : ℕ) → version ≤ length front
    → value_at (front ++ back) place version ≡ value_at front place version
value_at-prefix front back place zero within = refl
value_at-prefix front back place (suc n) within =
    ap (λ (found : Option Entry). value_by n found place) (slice_get-append_front front back n (omega arith))

-- a record's version is of this journal and has the record's value
pub record IsValued (journal : List Entry) (place : Place) (found : Record) : Type 0 where
  pub by_now : found.version ≤ length journal
  pub value : value_at journal place found.version ≡ found.value

valued-after : (journal : List Entry) (entry : Entry) (place : Place) (before after blank : Record)
    → blank ≡ after_entry (length journal) entry place absent → IsValued journal place before
    → Touches (length journal) before after blank → IsValued (journal ++ entry ∷ []) place after
valued-after journal entry place before after blank made valued (inl h) = record {
  by_now = rw h.0 (omega (arith, valued.by_now, length-append journal (entry ∷ [])));
  value = rw h.0 (value_at-prefix journal (entry ∷ []) place before.version valued.by_now ∙ valued.value);
}
valued-after journal entry place before after blank made valued (inr h) =
    elim h.1 [
      | inl v ↦
          let version : after.version ≡ suc (length journal) =
          ap (λ (r : Record). r.version) h.0 ∙ v ∙ add-one (length journal) in
          record {
            by_now = omega (arith, version, length-append journal (entry ∷ []));
            value =
                ap (λ (n : ℕ). value_at (journal ++ entry ∷ []) place n) version
                ∙ ap (λ (found : Option Entry). value_by (length journal) found place) (slice_get-append_seam journal entry [])
                ∙ ap (λ (r : Record). r.value) (sym made)
                ∙ ap (λ (r : Record). r.value) (sym h.0);
          }
      | inr e ↦
          let gone : after ≡ absent = h.0 ∙ e in
          record {
            by_now = rw gone (omega arith);
            value = rw gone refl;
          }
    ]

valued-entries : (journal entries : List Entry) (place : Place) (before : Record) → IsValued journal place before
    → IsValued (journal ++ entries) place (after_entries (length journal) entries place before)
valued-entries journal [] place before valued =
    subst (λ (all : List Entry). IsValued all place before) (sym (append-nil journal)) valued
valued-entries journal (entry ∷ entries) place before valued =
    let next = after_entry (length journal) entry place before in
    let step = valued-after journal entry place before next (after_entry (length journal) entry place absent) refl valued
    (touches-entry (length journal) entry place before) in
    let rest = valued-entries (journal ++ entry ∷ []) entries place next step in
    let longer : length (journal ++ entry ∷ []) ≡ length journal + 1 = length-append journal (entry ∷ []) in
    subst (λ (n : ℕ). IsValued (journal ++ entry ∷ entries) place (after_entries n entries place next)) longer
    (subst (λ (all : List Entry). IsValued all place (after_entries (length (journal ++ entry ∷ [])) entries place next))
    (append_assoc journal (entry ∷ []) entries) rest)

-- the version that a journal leaves has the value that it leaves
pub valued-record : (journal : List Entry) (place : Place) → IsValued journal place (record_of journal place)
valued-record journal place = valued-entries [] journal place absent (record { by_now = omega arith; value = refl })
