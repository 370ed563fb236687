-- The law is proved for every journal.
use Rattle.book.proofs.Verdicts.{legal-killed-are-spent}
use Rattle.book.proofs.laws.legal_killed_are_spent.Goals as goal

pub returns : goal.returns
returns c = legal-killed-are-spent
