-- One more read is bare.
use Rattle.std.proofs.Common.{◌<◌, length, get_or, ap, arith}
use Rattle.std.proofs.lemmas.List.Edits.{map_over_more}
use Rattle.sp_base.specs.declared.reads.ReadItem.{ReadItem}
use Rattle.journal.specs.Reads.{bare}
use Rattle.book.proofs.reads.bare_reads.Goals as goal

pub loop-item-preserved : goal.loop-item-preserved
loop-item-preserved c =
    let within : c.loop-item.item-index < length c.args.reads =
    omega (arith, ap length c.into_vec-items.ensures, ap length c.deref_mut-item-items.ensures.value) in
    let item : ReadItem = get_or c.loop-item.item-items c.loop-item.item-index c.item-item.result in
    rw c.forget.ensures
    (map_over_more bare c.args.reads c.loop-item.item-items c.loop-item.item-index item within
    c.loop-item.invariant (ap (λ (d : ReadItem). get_or c.loop-item.item-items c.loop-item.item-index d) c.item-item.is))
