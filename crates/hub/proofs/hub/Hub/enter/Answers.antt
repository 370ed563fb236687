use Rattle.std.proofs.Common.{rules}
use Rattle.hub.proofs.Loads.{enters}
use Rattle.hub.proofs.Resting.{rests_stale}
use Rattle.hub.proofs.hub.Hub.enter.Goals as goal

pub fetch_add-before-requires : goal.fetch_add-before-requires
fetch_add-before-requires g c = (search rules, search rules, enters g.B.Keeps.stands_for g.B.Keeps.fixed _ _ _ _ (rests_stale _ _ c.pass.invariant) (search rules))
