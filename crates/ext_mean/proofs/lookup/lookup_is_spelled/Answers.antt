-- Token by token.
use Rattle.ext_mean.proofs.LookupSpelled.{lookup-spelled}
use Rattle.ext_mean.proofs.lookup.lookup_is_spelled.Goals as goal

pub returns : goal.returns
returns c = lookup-spelled
