-- The law is proved for the whole language.
use Rattle.ext_mean.proofs.AskedProved.{read-joins}
use Rattle.ext_mean.proofs.laws.a_wanted_read_joins.Goals as goal

pub returns : goal.returns
returns c = read-joins
