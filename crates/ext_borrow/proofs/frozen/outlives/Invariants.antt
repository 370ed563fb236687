-- what is left answers as all does
use Rattle.std.proofs.Common.{◌≡◌, drop}
use Rattle.ext_mean.specs.OwnedItems.{outlives}
use Rattle.ext_borrow.proofs.frozen.outlives.Given as goal

abbrev pub invariant-loop-buffer : goal.invariant-loop-buffer
invariant-loop-buffer l = outlives l.buffer (drop l.buffer l.loans) l.number l.origin ≡ outlives 0 l.loans l.number l.origin
