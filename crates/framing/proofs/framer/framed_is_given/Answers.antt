use Rattle.framing.proofs.Given as given
use Rattle.framing.proofs.framer.framed_is_given.Goals as goal

pub returns : goal.returns
returns c = given.framed_given
