-- the arguments that are left answer as all do
use Rattle.std.proofs.Common.{◌≡◌, drop}
use Rattle.ext_mean.specs.OwnedItems.{any_gone}
use Rattle.ext_borrow.proofs.arguments.any_gone.Given as goal

abbrev pub invariant-loop-arg : goal.invariant-loop-arg
invariant-loop-arg l = any_gone l.scope l.gone (drop l.arg-index l.args) ≡ any_gone l.scope l.gone l.args
