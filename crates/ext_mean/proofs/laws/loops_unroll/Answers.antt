-- The law is proved for the whole language.
use Rattle.ext_mean.proofs.LoopsProved.{loops-unroll}
use Rattle.ext_mean.proofs.laws.loops_unroll.Goals as goal

pub returns : goal.returns
returns c = loops-unroll
