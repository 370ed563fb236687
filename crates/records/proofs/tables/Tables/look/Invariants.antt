-- What is left of the list holds at the place what all of it does.
use Rattle.std.proofs.Common.{◌≡◌, drop}
use Rattle.records.specs.Records.{held_at, place_at}
use Rattle.records.proofs.tables.Tables.look.Given as goal

abbrev pub invariant-loop-stored : goal.invariant-loop-stored
invariant-loop-stored l =
    held_at (drop l.stored-index l.stored-items) (place_at l.table l.key) ≡ held_at l.fn.self.stored (place_at l.table l.key)
