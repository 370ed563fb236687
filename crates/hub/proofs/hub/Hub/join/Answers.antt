use Rattle.std.proofs.Common.{rules, sym, ap, ◌∙◌, subst}
use Rattle.hub.specs.Rule.{IsFresh}
use Rattle.hub.proofs.Seats.{joins}
use Rattle.hub.proofs.Handing.{settles}
use Rattle.hub.proofs.Resting.{rests_stale, rests_home}
use Rattle.hub.proofs.hub.Hub.join.Goals as goal

pub join_seat-requires : goal.join_seat-requires
join_seat-requires g c =
    let rests = rests_home _ _ c.into_seat.ensures.rests (ap (λ v. v.out) c.into_seat.ensures.view ∙ c.requires.home) in (
      search rules,
      search rules,
      rests.1,
      search rules,
      joins g.B.Keeps.stands_for g.B.Keeps.fixed _ _ _ _ _ (rests_stale _ _ c.pass.invariant) rests.0 (ap (λ v. v.inside) c.into_seat.ensures.view ∙ c.requires.outside),
    )

pub load-requires : goal.load-requires
load-requires g c = (
  search rules,
  search rules,
  settles g.B.Keeps.stands_for g.B.Keeps.fixed _ _ _ _ (subst (λ r. IsFresh r → ⊥) (sym (ap (λ m. m.0.role) c.join_seat.ensures.2)) (rests_stale _ _ c.pass.invariant)),
)
