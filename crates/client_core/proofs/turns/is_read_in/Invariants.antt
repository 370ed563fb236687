-- Whether the place stands among the reads that are left is whether it stands among all.
use Rattle.std.specs.List.{list_any}
use Rattle.std.proofs.Common.{◌≡◌, drop, map}
use Rattle.sp_base.specs.Places.{same_place}
use Rattle.ext_mean.specs.Views.{place_of}
use Rattle.client_core.proofs.turns.is_read_in.Given as goal

abbrev pub invariant-loop-other : goal.invariant-loop-other
invariant-loop-other l =
    list_any (same_place (place_of l.read)) (map place_of (drop l.other-index l.reads))
    ≡ list_any (same_place (place_of l.read)) (map place_of l.fn.reads)
