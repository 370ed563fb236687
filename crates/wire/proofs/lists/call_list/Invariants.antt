use Rattle.std.proofs.Common.{◌≡◌, ◌-◌}
use Rattle.wire.specs.Readers.{repeated}
use Rattle.wire.specs.Fields.{asked_at}
use Rattle.wire.proofs.Loops.{with_front}
use Rattle.wire.proofs.lists.call_list.Given as goal

abbrev pub invariant-loop : goal.invariant-loop
invariant-loop l = with_front l.list.items (repeated asked_at (l.count - l.counter) l.rest) ≡ repeated asked_at l.count l.bytes
