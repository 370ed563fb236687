-- The indexes of a journal with one more entry.
use Rattle.std.proofs.Common.{◌≡◌, ℕ, List, [], ◌∷◌, ◌++◌, length, refl, sym, ◌∙◌, ap}
use Rattle.sp_base.specs.Places.{Place}
use Rattle.records.specs.Records.{Record, TablesValue, record_in}
use Rattle.journal.specs.declared.entry.Entry.{Entry}
use Rattle.journal.specs.declared.entry.Entry.TheVariants.{Invoke, Put, Install}
use Rattle.journal.specs.Folds.{after_changes, after_entry, last_after, texts_of}
use Rattle.journal.proofs.Behind.{last_of-behind, record_of-behind, texts_of-behind}
use Rattle.book.specs.declared.exts.Exts.{Exts}
use Rattle.book.specs.declared.lasts.Lasts.{Lasts}
use Rattle.book.specs.Changes.{changes_in}
use Rattle.book.specs.Indexes.{AreIndexes, AreNoted, AreSame}

entry-changes : (n : ℕ) (entry : Entry) (place : Place) (before : Record)
    → after_changes n (changes_in entry) place before ≡ after_entry n entry place before
entry-changes n (Invoke call outcome writes reads home) place before = refl
entry-changes n (Put tenant table key value) place before = refl
entry-changes n (Install tenant text) place before = refl

-- an entry's changes were made, and what it says of extensions and last numbers was noted
pub indexes-grown : {journal : List Entry} {tables : TablesValue} {exts : Exts} {lasts : Lasts} (entry : Entry)
    (after : TablesValue) (noted : Exts) (numbered : Lasts) → AreIndexes journal tables exts lasts
    → ((place : Place) → record_in after place ≡ after_changes (length journal) (changes_in entry) place (record_in tables place))
    → AreNoted exts lasts entry noted numbered → AreIndexes (journal ++ entry ∷ []) after noted numbered
indexes-grown {journal} {tables} {exts} {lasts} entry after noted numbered indexes made notes = record {
  records = λ place.
      made place
      ∙ ap (λ (before : Record). after_changes (length journal) (changes_in entry) place before) (indexes.records place)
      ∙ entry-changes (length journal) entry place _
      ∙ sym (record_of-behind journal entry place);
  texts = λ tenant.
      notes.texts tenant
      ∙ ap (λ (texts : List (List ℕ)). texts ++ texts_of (entry ∷ []) tenant) (indexes.texts tenant)
      ∙ sym (texts_of-behind journal entry tenant);
  last = λ caller.
      notes.last caller
      ∙ ap (λ (last : ℕ). last_after last (entry ∷ []) caller) (indexes.last caller)
      ∙ sym (last_of-behind journal entry caller);
}

-- nothing but room was taken
pub indexes-kept : {journal : List Entry} {tables : TablesValue} {exts : Exts} {lasts : Lasts}
    (after : TablesValue) (same : Exts) (numbered : Lasts) → AreIndexes journal tables exts lasts
    → ((place : Place) → record_in after place ≡ record_in tables place)
    → AreSame exts lasts same numbered → AreIndexes journal after same numbered
indexes-kept {journal} {tables} {exts} {lasts} after same numbered indexes made sames = record {
  records = λ place. made place ∙ indexes.records place;
  texts = λ tenant. sames.texts tenant ∙ indexes.texts tenant;
  last = λ caller. sames.last caller ∙ indexes.last caller;
}

pub all-same : (exts : Exts) (lasts : Lasts) → AreSame exts lasts exts lasts
all-same exts lasts = record { texts = λ tenant. refl; last = λ caller. refl }
