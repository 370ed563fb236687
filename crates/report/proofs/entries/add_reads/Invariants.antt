-- The fields written so far and those of what is left are those of all reads.
use Rattle.std.proofs.Common.{◌≡◌, ◌++◌, drop}
use Rattle.report.specs.Entries.{reads_fields}
use Rattle.report.specs.Lines.{spaced}
use Rattle.report.proofs.entries.add_reads.Given as goal

abbrev pub invariant-loop-read : goal.invariant-loop-read
invariant-loop-read l =
    l.text ++ spaced (reads_fields (drop l.read-index l.reads)) ≡ l.initial.text ++ spaced (reads_fields l.fn.reads)
