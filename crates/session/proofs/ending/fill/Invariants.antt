-- The ends that are left lead to what all of them lead to.
use Rattle.std.specs.Vec.Iter.{into_iter_items}
use Rattle.std.proofs.Common.{List}
use Rattle.task.specs.Parking.{ParkedCall}
use Rattle.wire.specs.declared.items.Item.{Item}
use Rattle.session.specs.Filling.{Fills}
use Rattle.session.proofs.ending.fill.Given as goal

abbrev pub invariant-loop-one : goal.invariant-loop-one
invariant-loop-one l = (after : List ParkedCall) (told : List Item) → Fills l.calls l.items.items (into_iter_items l.one-iterator) after told
    → Fills l.fn.calls l.fn.items.items l.fn.ends.items after told
