-- The law is proved for the whole language.
use Rattle.ext_mean.proofs.ConfinementProved.{changed-once}
use Rattle.ext_mean.proofs.laws.places_are_changed_once.Goals as goal

pub returns : goal.returns
returns c = changed-once
