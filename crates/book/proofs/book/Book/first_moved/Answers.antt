-- The read with the index is the first one whose version has moved.
use Rattle.std.proofs.Common.{◌≡◌, Some, refl, sym, ◌∙◌, arith}
use Rattle.std.proofs.lemmas.Grind.{common_steps}
use Rattle.std.proofs.lemmas.Option.{slice_get_read}
use Rattle.book.specs.Verdict.{moved}
use Rattle.book.proofs.book.Book.first_moved.Goals as goal

pub returns-then-version-read-clause-found : goal.returns-then-version-read-clause-found
returns-then-version-read-clause-found c =
    let read = c.index-reads-index in
    let first : moved c.args.self.now.journal c.args.reads.now ≡ Some read.result = grind (arith, common_steps) in
    slice_get_read c.args.reads.now _ c.loop-index.index read.result refl c.loop-index-test.true read.is ∙ sym first
