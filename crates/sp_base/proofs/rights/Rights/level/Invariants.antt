-- What is left of the list has the level that the whole list has.
use Rattle.std.proofs.Common.{◌≡◌, drop}
use Rattle.sp_base.specs.RightsList.{level_of}
use Rattle.sp_base.proofs.rights.Rights.level.Given as goal

abbrev pub invariant-loop-number : goal.invariant-loop-number
invariant-loop-number l = level_of (drop l.number-index l.number-items) l.table ≡ level_of l.fn.self l.table
