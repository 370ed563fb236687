use Rattle.sched_text.proofs.Hexes.{bytes_are_pairs}
use Rattle.sched_text.proofs.laws.bytes_are_pairs.Goals as goal

pub returns : goal.returns
returns c = bytes_are_pairs
