use Rattle.std.proofs.Common.{◌≡◌, ◌++◌, length}
use Rattle.std.specs.List.{All}
use Rattle.sp_base.specs.Limits.{IsBody}
use Rattle.framing.specs.Frames.{stream_of}
use Rattle.framing.proofs.cutting.cut.Given as goal

abbrev pub invariant-loop-body : goal.invariant-loop-body
invariant-loop-body l = (l.bytes ≡ stream_of l.bodies.items ++ l.rest) × All IsBody l.bodies.items

abbrev pub decreases-loop-body : goal.decreases-loop-body
decreases-loop-body l = length l.rest
