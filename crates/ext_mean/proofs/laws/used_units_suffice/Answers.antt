-- The law is proved for the whole language.
use Rattle.ext_mean.proofs.UnitsProved.{used-suffice}
use Rattle.ext_mean.proofs.laws.used_units_suffice.Goals as goal

pub returns : goal.returns
returns c = used-suffice
