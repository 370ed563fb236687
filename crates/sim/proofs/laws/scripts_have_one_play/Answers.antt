use Rattle.sim.proofs.Judging.{judged-once}
use Rattle.sim.proofs.Playing.{one-play}
use Rattle.sim.proofs.laws.scripts_have_one_play.Goals as goal

pub returns : goal.returns
returns c = one-play judged-once
