use Rattle.std.proofs.Common.{arith}
use Rattle.wire.proofs.Tables.{rights_read}
use Rattle.wire.proofs.granted.rights.Goals as goal

pub of-requires : goal.of-requires
of-requires c =
    rights_read c.args.bytes.now c.in_ok-count.count c.in_ok-count.rest.now c.in_ok-list.list.items c.in_ok-list.rest.now
    (λ i. omega (arith, c.type_inv.bytes i)) c.in_ok-count.ensures.given c.in_ok-list.ensures
