-- the parameters so far, and those that are left
use Rattle.std.proofs.Common.{◌≡◌, ◌++◌, drop}
use Rattle.ext_mean.specs.Borrowing.{numbered}
use Rattle.ext_borrow.proofs.check.scope_of.Given as goal

abbrev pub invariant-loop-number : goal.invariant-loop-number
invariant-loop-number l = l.scope.items ++ numbered l.number (drop l.number l.params) ≡ numbered 0 l.params
