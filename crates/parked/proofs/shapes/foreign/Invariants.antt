-- What is foreign among the writes that are left is so among all.
use Rattle.std.proofs.Common.{◌≡◌, drop}
use Rattle.parked.specs.Taking.{foreign_in}
use Rattle.parked.proofs.shapes.foreign.Given as goal

abbrev pub invariant-loop-write : goal.invariant-loop-write
invariant-loop-write l = foreign_in l.rights (drop l.write-index l.writes) ≡ foreign_in l.rights l.fn.writes
