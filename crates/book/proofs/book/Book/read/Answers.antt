-- What was found is what the journal leaves, which is within the limit of values.
use Rattle.std.proofs.Common.{Option, List, ℕ, sym, ap, subst}
use Rattle.sp_base.specs.declared.reads.ReadItem.{ReadItem}
use Rattle.sp_base.specs.Spelling.{FitsOpt}
use Rattle.records.specs.Records.{place_at}
use Rattle.journal.specs.Folds.{record_of}
use Rattle.journal.proofs.Fitting.{record-fits}
use Rattle.book.specs.Standing.{BookValue}
use Rattle.book.proofs.book.Book.read.Goals as goal

pub returns-in-Ok-clause-fits : goal.returns-in-Ok-clause-fits
returns-in-Ok-clause-fits c =
    let place = place_at c.args.table c.args.key.now in
    subst (λ (value : Option (List ℕ)). FitsOpt value) (sym (ap (λ (item : ReadItem). item.value) c.in-Ok.ensures))
    (subst (λ (book : BookValue). FitsOpt (record_of book.journal place).value) c.self.view_is
    (record-fits c.self.inside.journal.entries place c.self.invariant.0.fits))
