-- What stands where the search ends is the place's read, and where it ends without one there is none.
use Rattle.std.proofs.Common.{Some, sym, ap, ◌∙◌}
use Rattle.ext_mean.specs.Laws.{place_in}
use Rattle.rw_set.specs.Order.{position_at, rank}
use Rattle.rw_set.proofs.Ranks.{ranked-read, unranked-unread}
use Rattle.rw_set.proofs.Searching.{belongs-apart}
use Rattle.rw_set.proofs.search.find.Goals as goal

pub returns-in-Ok : goal.returns-in-Ok
returns-in-Ok c =
    let found = c.in-Ok.ensures.found in
    sym (ranked-read c.args.reads.now (place_in c.args.table c.args.key.now) (position_at c.args.order.now c.in-Ok.k) c.index-reads-order.result
    c.requires.distinct (c.requires.ordered.within c.in-Ok.k found.within) found.same ∙ ap Some (sym c.index-reads-order.is))

pub returns-in-Err : goal.returns-in-Err
returns-in-Err c =
    sym (unranked-unread c.args.reads.now (place_in c.args.table c.args.key.now)
    (belongs-apart c.args.reads.now c.args.order.now (rank (place_in c.args.table c.args.key.now)) c.in-Err.field-0 c.requires.ordered c.in-Err.ensures.absent))
