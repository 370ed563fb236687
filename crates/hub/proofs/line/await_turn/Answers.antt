use Rattle.std.proofs.Common.{◌≡◌, [], ◌∷◌, rules, sym, ap, ◌∙◌, Some}
use Rattle.atomic_table.specs.Table.{rest}
use Rattle.hub.proofs.Turns.{calls}
use Rattle.hub.proofs.line.await_turn.Goals as goal

pub load-requires : goal.load-requires
load-requires g c = (search rules, search rules, calls g.B.Keeps.stands_for g.B.Keeps.fixed _ _ _ _ _ (ap (λ m. m.0.role) c.loop.invariant.2 ∙ c.requires.waits.0))

pub exchange-requires : goal.exchange-requires
exchange-requires g c =
    let took = (c.load.ensures.2 c.args.ticket (ap (λ m. m.0.role) c.loop.invariant.2 ∙ c.requires.waits.0)).0 (search rules) in
    let hand : c.load.new.seat.me.1 ≡ (0, Some took.0) ∷ [] = ap (λ m. m.1) took.1 ∙ ap (λ h. (0, Some took.0) ∷ h) (ap (λ m. m.1) c.loop.invariant.2 ∙ c.requires.waits.1) in
    (search rules, (Some took.0, hand ∙ ap (λ h. (0, Some took.0) ∷ rest h) (sym hand)))
