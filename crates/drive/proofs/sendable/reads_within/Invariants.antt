-- What holds of those that are left holds of all.
use Rattle.std.specs.List.{AllByRecursion}
use Rattle.std.proofs.Common.{drop}
use Rattle.sp_base.specs.Spelling.{FitsRead}
use Rattle.drive.proofs.sendable.reads_within.Given as goal

abbrev pub invariant-loop-read : goal.invariant-loop-read
invariant-loop-read l = AllByRecursion FitsRead (drop l.read-index l.reads) → AllByRecursion FitsRead l.reads
