-- The law is proved for the whole language.
use Rattle.ext_mean.proofs.AskedProved.{reads-cost}
use Rattle.ext_mean.proofs.laws.reads_cost.Goals as goal

pub returns : goal.returns
returns c = reads-cost
