-- what is left answers as all does
use Rattle.std.proofs.Common.{◌≡◌, drop}
use Rattle.ext_mean.specs.OwnedItems.{any_held}
use Rattle.ext_borrow.proofs.frozen.any_held.Given as goal

abbrev pub invariant-loop-origin : goal.invariant-loop-origin
invariant-loop-origin l = any_held l.buffer l.row (drop l.origin-index l.held) ≡ any_held l.buffer l.row l.held
