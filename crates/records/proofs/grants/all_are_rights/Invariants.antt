-- What was walked over has rights.
use Rattle.std.proofs.Common.{take}
use Rattle.std.specs.List.{AllByRecursion}
use Rattle.sp_base.specs.RightsList.{AreRights}
use Rattle.records.proofs.grants.all_are_rights.Given as goal

abbrev pub invariant-loop-rights : goal.invariant-loop-rights
invariant-loop-rights l = AllByRecursion (λ grant. AreRights grant.1) (take l.rights-index l.list)
