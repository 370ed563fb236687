use Rattle.ext_check.proofs.OneRefusal.{refused-not-accepted}
use Rattle.ext_check.proofs.laws.refused_are_not_accepted.Goals as goal

pub returns : goal.returns
returns c = refused-not-accepted
