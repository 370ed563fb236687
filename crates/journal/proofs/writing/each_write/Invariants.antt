-- The writes so far stand behind what was there, and the rest are within their limits.
use Rattle.std.proofs.Common.{◌≡◌, ◌++◌, take}
use Rattle.std.specs.List.{flat_map}
use Rattle.sp_base.specs.Spelling.{write}
use Rattle.journal.proofs.writing.each_write.Given as goal

abbrev pub invariant-loop-next : goal.invariant-loop-next
invariant-loop-next l = l.out.items ≡ l.fn.out.items ++ flat_map write (take l.next-index l.list)
