-- Whether a place stands twice among the reads that are left is whether it does among all.
use Rattle.std.proofs.Common.{◌≡◌, drop, map}
use Rattle.ext_mean.specs.Views.{place_of}
use Rattle.parked.specs.Taking.{stands_twice}
use Rattle.client_core.proofs.turns.has_twice.Given as goal

abbrev pub invariant-loop-index : goal.invariant-loop-index
invariant-loop-index l = stands_twice (map place_of (drop l.index l.reads)) ≡ stands_twice (map place_of l.fn.reads)
