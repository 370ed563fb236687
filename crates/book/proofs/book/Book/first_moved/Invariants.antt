-- The first moved read of what is left is the first of all.
use Rattle.std.proofs.Common.{◌≡◌, drop}
use Rattle.book.specs.Verdict.{moved}
use Rattle.book.proofs.book.Book.first_moved.Given as goal

abbrev pub invariant-loop-index : goal.invariant-loop-index
invariant-loop-index l = moved l.self.journal (drop l.index l.reads) ≡ moved l.self.journal l.fn.reads
