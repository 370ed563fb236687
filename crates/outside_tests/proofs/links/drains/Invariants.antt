use Rattle.std.proofs.Common.{◌≡◌, ◌-◌, length, IfSome, IsTrue}
use Rattle.outside_tests.proofs.links.drains.Given as goal

-- the door is bound, and each link that it gave is done
abbrev pub invariant-links : goal.invariant-links
invariant-links g l = record {
  bound : IsTrue (g.D.Door.bound l.door);
  all_done : IfSome (g.D.Door.ended l.door) (λ links. length links ≡ g.D.Door.given l.door);
}

-- how many links the door may still give
abbrev pub decreases-links : goal.decreases-links
decreases-links g l = g.D.Door.most l.door - g.D.Door.given l.door
