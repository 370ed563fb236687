-- what the rows still to come tell is what all tell
use Rattle.std.proofs.Common.{◌≡◌, drop}
use Rattle.sched_text.specs.Tenants.{has_tenant}
use Rattle.sched_text.proofs.tenants.has_tenant.Given as goal

abbrev pub invariant-loop-number : goal.invariant-loop-number
invariant-loop-number l = has_tenant (drop l.number-index l.rows) l.tenant ≡ has_tenant l.fn.rows l.tenant
