-- the arguments that are left answer as all do
use Rattle.std.proofs.Common.{◌≡◌, drop}
use Rattle.ext_mean.specs.OwnedItems.{moves_twice}
use Rattle.ext_borrow.proofs.arguments.moves_twice.Given as goal

abbrev pub invariant-loop-arg : goal.invariant-loop-arg
invariant-loop-arg l = moves_twice l.scope l.moved.items (drop l.arg-index l.args) ≡ moves_twice l.scope l.fn.moved.items l.args
