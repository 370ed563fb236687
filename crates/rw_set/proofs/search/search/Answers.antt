-- Each comparison leaves the half in which the place is.
use Rattle.std.proofs.Common.{◌+◌, ◌-◌, ◌/◌, sym, ◌∙◌, arith}
use Rattle.ext_mean.specs.Laws.{place_in}
use Rattle.rw_set.specs.Order.{rank}
use Rattle.rw_set.proofs.Ranks.{compared-same}
use Rattle.rw_set.proofs.Searching.{above-middle, below-middle}
use Rattle.rw_set.proofs.search.search.Goals as goal

pub loop-low-preserved-in-Less : goal.loop-low-preserved-in-Less
loop-low-preserved-in-Less c =
    let middle = c.loop-low.low + (c.loop-low.high - c.loop-low.low) / 2 in
    above-middle c.args.reads.now c.args.order.now (rank (place_in c.args.table c.args.key.now)) c.loop-low.low middle c.loop-low.high
    c.requires c.loop-low.invariant (omega arith) (omega arith) (sym c.compare_at.ensures ∙ c.in-Less.is)

pub returns-in-Equal-clause-found : goal.returns-in-Equal-clause-found
returns-in-Equal-clause-found c =
    let within = c.loop-low.invariant.within in
    record {
      within = omega arith;
      same = compared-same _ _ (sym c.compare_at.ensures ∙ c.in-Equal.is);
    }

pub loop-low-preserved : goal.loop-low-preserved
loop-low-preserved c =
    let middle = c.loop-low.low + (c.loop-low.high - c.loop-low.low) / 2 in
    below-middle c.args.reads.now c.args.order.now (rank (place_in c.args.table c.args.key.now)) c.loop-low.low middle c.loop-low.high
    c.requires c.loop-low.invariant (omega arith) (omega arith) (sym c.compare_at.ensures ∙ c.in-Greater.is)
