use Rattle.std.proofs.Common.{◌≡◌, ◌-◌}
use Rattle.wire.specs.Readers.{repeated}
use Rattle.wire.specs.Fields.{write_at}
use Rattle.wire.proofs.Loops.{with_front}
use Rattle.wire.proofs.lists.write_list.Given as goal

abbrev pub invariant-loop : goal.invariant-loop
invariant-loop l = with_front l.list.items (repeated write_at (l.count - l.counter) l.rest) ≡ repeated write_at l.count l.bytes
