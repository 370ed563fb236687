-- The law is proved for the whole language.
use Rattle.ext_mean.proofs.ConfinementProved.{only-readable}
use Rattle.ext_mean.proofs.laws.only_readable_is_wanted.Goals as goal

pub returns : goal.returns
returns c = only-readable
