-- The read joins the list, its position the order, and its bytes the weight.
use Rattle.std.proofs.Common.{◌≡◌, List, [], ◌∷◌, ◌++◌, length, insert, ap, ◌∙◌, arith}
use Rattle.sp_base.specs.declared.reads.ReadItem.{ReadItem}
use Rattle.rw_set.proofs.Kept.{kept-grows}
use Rattle.rw_set.proofs.read_set.ReadSet.add.Goals as goal

pub invariant_of-self-in-Ok-push : goal.invariant_of-self-in-Ok-push
invariant_of-self-in-Ok-push c =
    let reads = c.self.inside.items.items in
    let order = c.self.inside.order.items in
    let at = c.place_for-at.result in
    let pushed : c.push.new.self.items ≡ reads ++ c.args.item ∷ [] =
    c.in-Ok-push.ensures.items ∙ ap (λ (xs : List ReadItem). xs ++ c.args.item ∷ []) c.reserve.ensures.items in
    let long : c.len-position.result ≡ length reads = omega (arith, c.len-position.ensures, c.self.inside.items.ok) in
    let inserted : c.insert.new.self.items ≡ insert order at (length reads) =
    c.in-Ok-insert.ensures.items ∙ ap (insert order at) long in
    rw (pushed, inserted, c.read_weight.ensures.weight)
    (kept-grows reads order c.self.inside.weight c.args.item at c.self.invariant
    (rw (← c.self.view_is) at c.requires.new) (rw (← c.self.view_is) at c.requires.room) c.requires.value
    (rw (c.as_slice-items.ensures.value, c.as_slice.ensures.value) at c.place_for-at.ensures)
    (rw c.read_weight.ensures.weight at c.read_weight.ensures.bounded))
