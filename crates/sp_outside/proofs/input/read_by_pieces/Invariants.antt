use Rattle.std.proofs.Common.{◌-◌, ◌≤◌, vec_len}
use Rattle.sp_outside.proofs.ReadingSteps.{HasRead}
use Rattle.sp_outside.proofs.input.read_by_pieces.Given as goal

abbrev pub invariant-pieces : goal.invariant-pieces
invariant-pieces g l = record {
  within : vec_len l.bytes ≤ l.most;
  never_falls : g.S.Source.faults l.initial.source ≤ g.S.Source.faults l.source;
  read : HasRead (g.S.Source.left l.initial.source) (g.S.Source.left l.source) l.bytes.items;
}

abbrev pub decreases-pieces : goal.decreases-pieces
decreases-pieces g l = l.most - vec_len l.bytes
