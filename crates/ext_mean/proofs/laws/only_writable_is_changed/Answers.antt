-- The law is proved for the whole language.
use Rattle.ext_mean.proofs.ConfinementProved.{only-writable}
use Rattle.ext_mean.proofs.laws.only_writable_is_changed.Goals as goal

pub returns : goal.returns
returns c = only-writable
