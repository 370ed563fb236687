use Rattle.std.proofs.Common.{rules}
use Rattle.hub.proofs.Seats.{splits}
use Rattle.hub.proofs.Resting.{rests_stale}
use Rattle.hub.proofs.hub.Hub.split.Goals as goal

pub split_seat-requires : goal.split_seat-requires
split_seat-requires g c = (search rules, search rules, splits g.B.Keeps.stands_for g.B.Keeps.fixed _ _ _ (rests_stale _ _ c.pass.invariant))
