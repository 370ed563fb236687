-- The total so far, and what is left to add.
use Rattle.std.proofs.Common.{◌≡◌, ◌≤◌, ◌+◌, ◌*◌, sum_by, drop}
use Rattle.journal.specs.Sizes.{read_size}
use Rattle.journal.proofs.size.reads_bytes.Given as goal

abbrev pub invariant-loop-read : goal.invariant-loop-read
invariant-loop-read l = record {
  total : l.total + sum_by read_size (drop l.read-index l.reads) ≡ sum_by read_size l.fn.reads;
  small : l.total ≤ 77 * l.read-index;
}
