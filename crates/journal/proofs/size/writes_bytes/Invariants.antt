-- The total so far, and what is left to add.
use Rattle.std.proofs.Common.{◌≡◌, ◌≤◌, ◌+◌, ◌*◌, sum_by, drop}
use Rattle.std.specs.List.{AllByRecursion}
use Rattle.ext_mean.specs.Outcomes.{ChangeFits}
use Rattle.journal.specs.Sizes.{write_size}
use Rattle.journal.proofs.size.writes_bytes.Given as goal

abbrev pub invariant-loop-write : goal.invariant-loop-write
invariant-loop-write l = record {
  total : l.total + sum_by write_size (drop l.write-index l.writes) ≡ sum_by write_size l.fn.writes;
  small : l.total ≤ 4168 * l.write-index;
  values : AllByRecursion ChangeFits (drop l.write-index l.writes);
}
