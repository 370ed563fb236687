-- the rows passed over stand in front
use Rattle.std.proofs.Common.{◌≡◌, ◌+◌, drop}
use Rattle.sched_text.specs.Reading.{tenants_before}
use Rattle.sched_text.proofs.tenants.place_of_tenant.Given as goal

abbrev pub invariant-loop-at : goal.invariant-loop-at
invariant-loop-at g l = l.at + tenants_before l.tenant (drop l.at l.rows) ≡ tenants_before l.tenant l.fn.rows
