use Rattle.framing.proofs.Once as once
use Rattle.framing.proofs.framer.one_reading.Goals as goal

pub returns : goal.returns
returns c = once.one_reading
