-- The changes that are left make of the records what all of them do, and there is room for them.
use Rattle.std.proofs.Common.{◌≡◌, ◌≤◌, ◌+◌, length, drop}
use Rattle.sp_base.specs.Places.{Place}
use Rattle.records.specs.Records.{record_in}
use Rattle.journal.specs.Folds.{after_changes}
use Rattle.book.proofs.changes.make_all.Given as goal

abbrev pub invariant-loop-write : goal.invariant-loop-write
invariant-loop-write l = record {
  left : (place : Place) → after_changes l.n (drop (length l.yielded) l.fn.writes) place (record_in l.tables place)
      ≡ after_changes l.n l.fn.writes place (record_in l.fn.tables place);
  room : length l.fn.writes ≤ l.tables.spare + length l.yielded;
}
