-- No reads are a read list, in order, and weigh nothing.
use Rattle.rw_set.proofs.Kept.{nothing-kept}
use Rattle.rw_set.proofs.read_set.ReadSet.new.Goals as goal

pub invariant_of-result : goal.invariant_of-result
invariant_of-result c = rw (c.new.ensures.items, c.new-2.ensures.items) nothing-kept
