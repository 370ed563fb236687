-- the rights that the rows still to come give are those that all give
use Rattle.std.proofs.Common.{◌≡◌, drop}
use Rattle.records.specs.GrantsList.{rights_of}
use Rattle.sched_text.proofs.tenants.found.Given as goal

abbrev pub invariant-loop-number : goal.invariant-loop-number
invariant-loop-number l = rights_of (drop l.number-index l.rows) l.tenant ≡ rights_of l.fn.rows l.tenant
