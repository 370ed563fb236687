use Rattle.std.proofs.Common.{rules, sym, ap, ◌∙◌}
use Rattle.hub.proofs.Handing.{hands_on}
use Rattle.hub.proofs.hub.Hub.give.Goals as goal

pub fetch_add-requires : goal.fetch_add-requires
fetch_add-requires g c = let put = c.put_back.ensures.put in (
  search rules,
  search rules,
  hands_on g.B.Keeps.stands_for g.B.Keeps.fixed _ _ _ _ put.turn.0 c.args.value put.turn.1 put.hand put.stands_for
      (c.requires.fixed ∙ ap (λ h. g.B.Keeps.fixed h.origin.value.value) (sym c.self.view_is)),
)
