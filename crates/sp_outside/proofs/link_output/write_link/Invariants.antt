use Rattle.std.proofs.Common.{◌≡◌, ◌-◌, ◌≤◌, length, take}
use Rattle.sp_outside.specs.Hearing.{with_more}
use Rattle.sp_outside.proofs.link_output.write_link.Given as goal

abbrev pub invariant-loop-done : goal.invariant-loop-done
invariant-loop-done g l = record {
  within : l.done ≤ length l.piece;
  never_falls : g.L.Link.faults l.initial.link ≤ g.L.Link.faults l.link;
  said : g.L.Link.said l.link ≡ with_more (g.L.Link.said l.initial.link) (take l.done l.piece);
  same_left : g.L.Link.left l.link ≡ g.L.Link.left l.initial.link;
  same_heard : g.L.Link.heard l.link ≡ g.L.Link.heard l.initial.link;
}

abbrev pub decreases-loop-done : goal.decreases-loop-done
decreases-loop-done g l = length l.piece - l.done
