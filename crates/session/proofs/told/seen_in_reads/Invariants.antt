-- What is left of the reads shows as much as all of them.
use Rattle.std.proofs.Common.{◌≡◌, drop}
use Rattle.session.specs.States.{seen_in_reads}
use Rattle.session.proofs.told.seen_in_reads.Given as goal

abbrev pub invariant-loop-read : goal.invariant-loop-read
invariant-loop-read l = seen_in_reads l.latest (drop l.read-index l.reads) ≡ seen_in_reads l.fn.seen l.reads
