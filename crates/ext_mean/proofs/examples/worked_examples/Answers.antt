-- Each example is computed.
use Rattle.ext_mean.proofs.ExamplesProved.{examples}
use Rattle.ext_mean.proofs.examples.worked_examples.Goals as goal

pub returns : goal.returns
returns c = examples
