use Rattle.std.proofs.Common.{◌≡◌, ◌++◌, take}
use Rattle.std.specs.List.{flat_map}
use Rattle.sp_base.specs.Spelling.{right}
use Rattle.wire.proofs.writing_lists.each_right.Given as goal

abbrev pub invariant-loop-next : goal.invariant-loop-next
invariant-loop-next l = l.out.items ≡ l.fn.out.items ++ flat_map right (take l.next-index l.list)
