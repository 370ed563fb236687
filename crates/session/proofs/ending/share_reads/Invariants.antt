-- The reads so far are shared.
use Rattle.std.proofs.Common.{◌≡◌, take}
use Rattle.session.proofs.ending.share_reads.Given as goal

abbrev pub invariant-loop-read : goal.invariant-loop-read
invariant-loop-read l = l.shared ≡ take l.read-index l.reads
