use Rattle.ext_canonical.proofs.CanonicalProved.{canonical-is-short}
use Rattle.ext_canonical.proofs.laws.canonical_is_short.Goals as goal

pub returns : goal.returns
returns c = canonical-is-short
