-- what is left answers as all does
use Rattle.std.proofs.Common.{◌≡◌, drop}
use Rattle.ext_mean.specs.OwnedItems.{any_borrower}
use Rattle.ext_borrow.proofs.frozen.any_borrower.Given as goal

abbrev pub invariant-loop-variable : goal.invariant-loop-variable
invariant-loop-variable l = any_borrower l.row (drop l.variable-index l.scope) ≡ any_borrower l.row l.scope
