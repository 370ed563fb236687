-- what is left answers as all does
use Rattle.std.proofs.Common.{◌≡◌, drop}
use Rattle.ext_mean.specs.OwnedItems.{borrows_marked}
use Rattle.ext_borrow.proofs.frozen.borrows_marked.Given as goal

abbrev pub invariant-loop-buffer : goal.invariant-loop-buffer
invariant-loop-buffer l = borrows_marked l.buffer (drop l.buffer l.loans) l.marks l.origin ≡ borrows_marked 0 l.loans l.marks l.origin
