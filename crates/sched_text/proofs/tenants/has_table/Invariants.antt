-- what the rights still to come tell is what all tell
use Rattle.std.proofs.Common.{◌≡◌, drop}
use Rattle.sched_text.specs.Tenants.{has_table}
use Rattle.sched_text.proofs.tenants.has_table.Given as goal

abbrev pub invariant-loop-number : goal.invariant-loop-number
invariant-loop-number l = has_table (drop l.number-index l.rights) l.table ≡ has_table l.fn.rights l.table
