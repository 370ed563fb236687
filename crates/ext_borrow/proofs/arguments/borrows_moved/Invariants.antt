-- the arguments that are left answer as all do
use Rattle.std.proofs.Common.{◌≡◌, drop}
use Rattle.ext_mean.specs.OwnedItems.{borrows_moved}
use Rattle.ext_borrow.proofs.arguments.borrows_moved.Given as goal

abbrev pub invariant-loop-arg : goal.invariant-loop-arg
invariant-loop-arg l = borrows_moved l.loans l.scope l.moved (drop l.arg-index l.args) ≡ borrows_moved l.loans l.scope l.moved l.args
