-- Between the two bounds lies the place, where the order has it.
use Rattle.std.proofs.Common.{◌-◌}
use Rattle.ext_mean.specs.Laws.{place_in}
use Rattle.rw_set.specs.Order.{rank}
use Rattle.rw_set.proofs.Searching.{IsBetween}
use Rattle.rw_set.proofs.search.search.Given as goal

abbrev pub invariant-loop-low : goal.invariant-loop-low
invariant-loop-low l = IsBetween l.reads l.order (rank (place_in l.table l.key)) l.low l.high

abbrev pub decreases-loop-low : goal.decreases-loop-low
decreases-loop-low l = l.high - l.low
