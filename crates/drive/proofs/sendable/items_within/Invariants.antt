-- What holds of those that are left holds of all.
use Rattle.std.specs.List.{AllByRecursion}
use Rattle.std.proofs.Common.{drop}
use Rattle.wire.specs.Answers.{FitsBatchItem}
use Rattle.drive.proofs.sendable.items_within.Given as goal

abbrev pub invariant-loop-item : goal.invariant-loop-item
invariant-loop-item l = AllByRecursion FitsBatchItem (drop l.item-index l.items) → AllByRecursion FitsBatchItem l.items
