-- The law is proved for every entry.
use Rattle.journal.proofs.Lengths.{sizes-are-lengths}
use Rattle.journal.proofs.laws.sizes_are_lengths.Goals as goal

pub returns : goal.returns
returns c = sizes-are-lengths
