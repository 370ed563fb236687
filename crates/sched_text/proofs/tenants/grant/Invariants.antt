-- no row passed over names the tenant
use Rattle.std.proofs.Common.{◌≡◌, ◌++◌, take, drop}
use Rattle.records.specs.GrantsList.{rights_of}
use Rattle.sched_text.specs.Tenants.{granted}
use Rattle.sched_text.proofs.tenants.grant.Given as goal

abbrev pub invariant-loop-at : goal.invariant-loop-at
invariant-loop-at l = record {
  same : l.rows ≡ l.fn.rows;
  after : granted l.tenant l.table l.level l.rows ≡ take l.at l.rows ++ granted l.tenant l.table l.level (drop l.at l.rows);
  rights : rights_of l.rows l.tenant ≡ rights_of (drop l.at l.rows) l.tenant;
}
