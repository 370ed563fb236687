-- The law is proved for the whole language.
use Rattle.ext_mean.proofs.ConfinementProved.{within-limits}
use Rattle.ext_mean.proofs.laws.runs_are_within_limits.Goals as goal

pub returns : goal.returns
returns c = within-limits
