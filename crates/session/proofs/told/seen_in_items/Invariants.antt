-- What is left of the items shows as much as all of them.
use Rattle.std.proofs.Common.{◌≡◌, drop}
use Rattle.session.specs.Seeing.{AllCounted}
use Rattle.session.specs.States.{seen_in_items}
use Rattle.session.proofs.told.seen_in_items.Given as goal

abbrev pub invariant-loop-item : goal.invariant-loop-item
invariant-loop-item l = AllCounted l.items → seen_in_items l.latest (drop l.item-index l.items) ≡ seen_in_items l.fn.seen l.items
