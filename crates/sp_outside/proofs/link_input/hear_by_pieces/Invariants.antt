use Rattle.std.proofs.Common.{◌≡◌, ◌-◌, ◌≤◌, vec_len}
use Rattle.sp_outside.specs.Hearing.{with_more}
use Rattle.sp_outside.proofs.ReadingSteps.{HasRead}
use Rattle.sp_outside.proofs.link_input.hear_by_pieces.Given as goal

abbrev pub invariant-pieces : goal.invariant-pieces
invariant-pieces g l = record {
  within : vec_len l.bytes ≤ l.most;
  never_falls : g.L.Link.faults l.initial.link ≤ g.L.Link.faults l.link;
  read : HasRead (g.L.Link.left l.initial.link) (g.L.Link.left l.link) l.bytes.items;
  heard : g.L.Link.heard l.link ≡ with_more (g.L.Link.heard l.initial.link) l.bytes.items;
  same_said : g.L.Link.said l.link ≡ g.L.Link.said l.initial.link;
}

abbrev pub decreases-pieces : goal.decreases-pieces
decreases-pieces g l = l.most - vec_len l.bytes
