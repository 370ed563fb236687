use Rattle.std.proofs.Common.{◌≡◌, ◌-◌, ◌+◌, ◌≤◌, ◌^◌}
use Rattle.wire.specs.Fields.{tables_from}
use Rattle.wire.proofs.Loops.{with_front}
use Rattle.wire.proofs.granted.right_list.Given as goal

abbrev pub invariant-loop-i : goal.invariant-loop-i
invariant-loop-i l = record {
  room : l.least + (l.count - l.i) ≤ 2 ^ 32;
  read : with_front l.list.items (tables_from (l.count - l.i) l.least l.rest) ≡ tables_from l.count 0 l.bytes;
}
