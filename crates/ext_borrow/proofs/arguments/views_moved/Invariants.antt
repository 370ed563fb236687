-- the arguments that are left answer as all do
use Rattle.std.proofs.Common.{◌≡◌, drop}
use Rattle.ext_mean.specs.OwnedItems.{views_moved}
use Rattle.ext_borrow.proofs.arguments.views_moved.Given as goal

abbrev pub invariant-loop-arg : goal.invariant-loop-arg
invariant-loop-arg l = views_moved l.scope l.moved.items (drop l.arg-index l.args) ≡ views_moved l.scope l.fn.moved.items l.args
