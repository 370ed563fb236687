-- the rights passed over stand in front
use Rattle.std.proofs.Common.{◌≡◌, ◌+◌, drop}
use Rattle.sched_text.specs.Reading.{tables_before}
use Rattle.sched_text.proofs.tenants.place_of_table.Given as goal

abbrev pub invariant-loop-at : goal.invariant-loop-at
invariant-loop-at l = l.at + tables_before l.table (drop l.at l.rights) ≡ tables_before l.table l.fn.rights
