-- The writes so far were shared.
use Rattle.std.proofs.Common.{◌≡◌, take}
use Rattle.book.proofs.changes.share_writes.Given as goal

abbrev pub invariant-loop-write : goal.invariant-loop-write
invariant-loop-write l = l.shared.items ≡ take l.write-index l.writes
