-- The law is proved for every book and every run.
use Rattle.book.proofs.Verdicts.{conflicts-name-moved-reads}
use Rattle.book.proofs.laws.conflicts_name_moved_reads.Goals as goal

pub returns : goal.returns
returns c = conflicts-name-moved-reads
