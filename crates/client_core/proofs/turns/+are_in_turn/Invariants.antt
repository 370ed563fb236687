-- Fewer calls are left at each call.
use Rattle.std.proofs.Common.{length}
use Rattle.client_core.proofs.turns.+are_in_turn.Given as goal

abbrev pub decreases-are_in_turn : goal.decreases-are_in_turn
decreases-are_in_turn l = length l.calls.now
