-- Proved by cases on the tests.
use Rattle.ext_mean.proofs.LookupProved.{lookup-means}
use Rattle.ext_mean.proofs.lookup.lookup_means.Goals as goal

pub returns : goal.returns
returns c = lookup-means
