use Rattle.std.proofs.Common.{rules}
use Rattle.hub.proofs.Loads.{leaves}
use Rattle.hub.proofs.Resting.{rests_stale}
use Rattle.hub.proofs.hub.Hub.leave.Goals as goal

pub fetch_sub-before-requires : goal.fetch_sub-before-requires
fetch_sub-before-requires g c = (search rules, search rules, leaves g.B.Keeps.stands_for g.B.Keeps.fixed _ _ _ _ (rests_stale _ _ c.pass.invariant) (search rules))
