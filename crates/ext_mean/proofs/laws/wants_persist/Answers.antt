-- The law is proved for the whole language.
use Rattle.ext_mean.proofs.KnownProved.{persist}
use Rattle.ext_mean.proofs.laws.wants_persist.Goals as goal

pub returns : goal.returns
returns c = persist
