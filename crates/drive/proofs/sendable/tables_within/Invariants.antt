-- What holds of those that are left holds of all.
use Rattle.std.specs.List.{AllByRecursion}
use Rattle.std.proofs.Common.{drop}
use Rattle.sp_base.specs.declared.numbers.TableId.{TableId}
use Rattle.sp_base.specs.declared.rights.Level.{Level}
use Rattle.sp_base.specs.Spelling.{IsU32}
use Rattle.drive.proofs.sendable.tables_within.Given as goal

abbrev pub invariant-loop-table : goal.invariant-loop-table
invariant-loop-table l = AllByRecursion (λ (right : TableId × Level). IsU32 right.0.0) (drop l.table-index l.list) → AllByRecursion (λ (right : TableId × Level). IsU32 right.0.0) l.list
