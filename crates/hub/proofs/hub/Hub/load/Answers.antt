use Rattle.std.proofs.Common.{rules}
use Rattle.hub.proofs.Loads.{weighs}
use Rattle.hub.proofs.Resting.{rests_stale}
use Rattle.hub.proofs.hub.Hub.load.Goals as goal

pub load-requires : goal.load-requires
load-requires g c = (search rules, search rules, weighs g.B.Keeps.stands_for g.B.Keeps.fixed _ _ _ _ (rests_stale _ _ c.pass.invariant))
