-- The journal with the entry is sound, and its indexes are those of the journal with the entry.
use Rattle.std.proofs.Common.{◌≡◌, ℕ, List, [], ◌∷◌, ◌++◌, length, sym, ◌∙◌, ap, subst}
use Rattle.sp_base.specs.declared.writes.Write.{Write}
use Rattle.sp_base.specs.Places.{Place}
use Rattle.records.specs.Records.{Record, record_in}
use Rattle.journal.specs.declared.entry.Entry.{Entry}
use Rattle.journal.specs.Folds.{after_changes}
use Rattle.book.specs.Changes.{changes_in}
use Rattle.book.specs.Standing.{BookValue, IsSound}
use Rattle.book.specs.Verdict.{grown}
use Rattle.book.proofs.Indexing.{indexes-grown}
use Rattle.book.proofs.book.Book.append.Goals as goal

pub invariant_of-self-2 : goal.invariant_of-self-2
invariant_of-self-2 c =
    let before = c.self.inside.journal.entries in
    let whole : c.push_reserved.new.self.entries ≡ before ++ c.args.entry ∷ [] =
    c.push_reserved.ensures.entries ∙ ap (λ (list : List Entry). list ++ c.args.entry ∷ []) c.reserve-2.ensures.entries in
    let limit : c.push_reserved.new.self.limit ≡ c.self.inside.journal.limit =
    c.push_reserved.ensures.limit ∙ c.reserve-2.ensures.limit in
    let made : (place : Place) → record_in c.make_all.new.tables place
    ≡ after_changes (length before) (changes_in c.args.entry) place (record_in c.self.inside.tables place) =
    λ place.
    c.make_all.ensures place
    ∙ ap (λ (n : ℕ). after_changes n c.in_ok-changes.changes place (record_in c.reserve.new.self place)) (c.len-2.ensures.length ∙ ap length c.reserve-2.ensures.entries)
    ∙ ap (λ (writes : List Write). after_changes (length before) writes place (record_in c.reserve.new.self place)) c.in_ok-changes.ensures
    ∙ ap (λ (old : Record). after_changes (length before) (changes_in c.args.entry) place old) (c.reserve.ensures.records place) in
    rw (whole, limit) (
      subst (λ (book : BookValue). IsSound book.grants book.limit book.audit (grown book.journal c.args.entry)) (sym c.self.view_is)
          c.requires.sound,
      indexes-grown c.args.entry _ _ _ c.self.invariant.1 made c.in_ok-note.ensures.ok,
    )
