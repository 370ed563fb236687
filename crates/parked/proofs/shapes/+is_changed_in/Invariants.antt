-- Fewer writes are left at each call.
use Rattle.std.proofs.Common.{length}
use Rattle.parked.proofs.shapes.+is_changed_in.Given as goal

abbrev pub decreases-is_changed_in : goal.decreases-is_changed_in
decreases-is_changed_in l = length l.writes.now
