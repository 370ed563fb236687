-- The law is proved for the whole language.
use Rattle.ext_mean.proofs.KnownProved.{known-cost}
use Rattle.ext_mean.proofs.laws.known_records_cost.Goals as goal

pub returns : goal.returns
returns c = known-cost
