-- the arguments that are left answer as all do
use Rattle.std.proofs.Common.{◌≡◌, drop}
use Rattle.ext_mean.specs.OwnedItems.{any_frozen}
use Rattle.ext_borrow.specs.Scenes.{seen}
use Rattle.ext_borrow.proofs.arguments.any_frozen.Given as goal

abbrev pub invariant-loop-arg : goal.invariant-loop-arg
invariant-loop-arg l = any_frozen l.loans (seen l.scene) (drop l.arg-index l.args) ≡ any_frozen l.loans (seen l.scene) l.args
