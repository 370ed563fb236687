-- the rows so far, and those that are left
use Rattle.std.proofs.Common.{◌≡◌, ◌++◌, ◌-◌}
use Rattle.ext_mean.specs.Borrowing.{rows}
use Rattle.ext_borrow.proofs.table.loans.Given as goal

abbrev pub invariant-loop-buffer : goal.invariant-loop-buffer
invariant-loop-buffer l = l.loans.items ++ rows l.gifts l.count l.buffer (l.count - l.buffer) ≡ rows l.gifts l.count 0 l.count
