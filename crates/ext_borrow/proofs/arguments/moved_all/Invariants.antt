-- the arguments that are left answer as all do
use Rattle.std.proofs.Common.{◌≡◌, drop}
use Rattle.ext_mean.specs.OwnedItems.{moved_all}
use Rattle.ext_borrow.proofs.arguments.moved_all.Given as goal

abbrev pub invariant-loop-arg : goal.invariant-loop-arg
invariant-loop-arg l = moved_all l.scope l.marks.items (drop l.arg-index l.args) ≡ moved_all l.scope l.fn.marks.items l.args
