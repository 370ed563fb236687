-- The size is that of the installation's entry.
use Rattle.std.proofs.Common.{List, ℕ, ap, ◌∙◌}
use Rattle.journal.specs.declared.entry.Entry.TheVariants.{Install}
use Rattle.journal.specs.Sizes.{size_of_entry}
use Rattle.book.specs.Verdict.{is_full_for}
use Rattle.book.proofs.book.Book.is_full_of.Goals as goal

pub returns-clause-full : goal.returns-clause-full
returns-clause-full c =
    let book = c.args.self.now in
    c.is_full.ensures
    ∙ ap (λ (size : ℕ). is_full_for book.limit book.journal size)
    (c.install_size.ensures.size c.args.tenant ∙ ap (λ (text : List ℕ). size_of_entry (Install c.args.tenant text)) c.sized_text.ensures.text)
