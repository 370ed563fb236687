-- The fields written so far and those of what is left are those of all writes.
use Rattle.std.proofs.Common.{◌≡◌, ◌++◌, drop}
use Rattle.report.specs.Entries.{writes_fields}
use Rattle.report.specs.Lines.{spaced}
use Rattle.report.proofs.entries.add_writes.Given as goal

abbrev pub invariant-loop-write : goal.invariant-loop-write
invariant-loop-write l =
    l.text ++ spaced (writes_fields (drop l.write-index l.writes)) ≡ l.initial.text ++ spaced (writes_fields l.fn.writes)
