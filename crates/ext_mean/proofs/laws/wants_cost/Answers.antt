-- The law is proved for the whole language.
use Rattle.ext_mean.proofs.WantsProved.{cost}
use Rattle.ext_mean.proofs.laws.wants_cost.Goals as goal

pub returns : goal.returns
returns c = cost
