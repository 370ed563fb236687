-- Up to the index the reads are bare, and the rest are as they were.
use Rattle.std.proofs.Common.{◌≡◌, ◌++◌, map, take, drop}
use Rattle.journal.specs.Reads.{bare}
use Rattle.book.proofs.reads.bare_reads.Given as goal

abbrev pub invariant-loop-item : goal.invariant-loop-item
invariant-loop-item l = l.item-items ≡ map bare (take l.item-index l.fn.reads) ++ drop l.item-index l.fn.reads
