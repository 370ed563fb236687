-- A place without a read is not found.
use Rattle.ext_mean.specs.Laws.{place_in}
use Rattle.rw_set.specs.Order.{position_at}
use Rattle.rw_set.proofs.Ranks.{unread-unranked}
use Rattle.rw_set.proofs.search.place_for.Goals as goal

pub unreachable-requires : goal.unreachable-requires
unreachable-requires c =
    let found = c.in-Ok.ensures.found in
    unread-unranked c.args.reads.now (place_in c.args.table c.args.key.now) (position_at c.args.order.now c.in-Ok.field-0)
    c.requires.new (c.requires.ordered.within c.in-Ok.field-0 found.within) found.same
