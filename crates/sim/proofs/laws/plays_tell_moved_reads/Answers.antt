use Rattle.sim.proofs.Conflicts.{plays-moved}
use Rattle.sim.proofs.laws.plays_tell_moved_reads.Goals as goal

pub returns : goal.returns
returns c = plays-moved
