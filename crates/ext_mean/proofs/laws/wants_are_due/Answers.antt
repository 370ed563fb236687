-- The law is proved for the whole language.
use Rattle.ext_mean.proofs.WantsProved.{are-due}
use Rattle.ext_mean.proofs.laws.wants_are_due.Goals as goal

pub returns : goal.returns
returns c = are-due
