-- The calls in the queue and those that are left are all of them.
use Rattle.std.specs.Vec.Iter.{into_iter_items}
use Rattle.std.proofs.Common.{◌≡◌, ◌++◌}
use Rattle.drive.proofs.running.queue_of.Given as goal

abbrev pub invariant-loop-call : goal.invariant-loop-call
invariant-loop-call l = l.live.items ++ into_iter_items l.call-iterator ≡ l.fn.begun.items
