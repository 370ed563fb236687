use Rattle.std.proofs.Common.{rules}
use Rattle.hub.proofs.Turns.{looks}
use Rattle.hub.proofs.hub.Hub.take.Goals as goal

pub load-requires : goal.load-requires
load-requires g c = (search rules, search rules, looks g.B.Keeps.stands_for g.B.Keeps.fixed _ _ _ _)
