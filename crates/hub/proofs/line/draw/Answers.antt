use Rattle.std.proofs.Common.{rules, ap, ◌∙◌}
use Rattle.hub.proofs.Turns.{draws}
use Rattle.hub.proofs.line.draw.Goals as goal

pub compare_exchange-requires : goal.compare_exchange-requires
compare_exchange-requires g c = (search rules, search rules, draws g.B.Keeps.stands_for g.B.Keeps.fixed _ _ _ _ _ (ap (λ m. m.0.role) c.loop.invariant.2 ∙ c.requires.idle) (search rules))
