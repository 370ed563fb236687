-- the rounds that are left lead to where all do
use Rattle.std.proofs.Common.{◌≡◌, ◌-◌, false, replicate}
use Rattle.ext_mean.specs.Borrowing.{rounds}
use Rattle.ext_borrow.proofs.table.borrowers.Given as goal

abbrev pub invariant-loop-round : goal.invariant-loop-round
invariant-loop-round l = rounds l.buffer l.gifts (l.count - l._round) l.marks.items ≡ rounds l.buffer l.gifts l.count (replicate l.count false)
