-- the marks so far, and those that are left
use Rattle.std.proofs.Common.{◌≡◌, ◌++◌, length}
use Rattle.ext_mean.specs.Ownership.{either}
use Rattle.ext_borrow.proofs.marks.either.Given as goal

abbrev pub invariant-loop-one : goal.invariant-loop-one
invariant-loop-one l = l.marks.items ++ either l.one l.other ≡ either l.fn.first l.fn.second

abbrev pub decreases-loop-one : goal.decreases-loop-one
decreases-loop-one l = length l.one
