use Rattle.ext_canonical.proofs.CanonicalProved.{canonical-is-spelled}
use Rattle.ext_canonical.proofs.laws.canonical_is_spelled.Goals as goal

pub returns : goal.returns
returns c = canonical-is-spelled
