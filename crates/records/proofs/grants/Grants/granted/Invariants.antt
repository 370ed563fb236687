-- The rights in what is left of the list are those of the whole list.
use Rattle.std.proofs.Common.{◌≡◌, drop}
use Rattle.records.specs.GrantsList.{rights_of}
use Rattle.records.proofs.grants.Grants.granted.Given as goal

abbrev pub invariant-loop-number : goal.invariant-loop-number
invariant-loop-number l = rights_of (drop l.number-index l.number-items) l.tenant ≡ rights_of l.fn.self l.tenant
