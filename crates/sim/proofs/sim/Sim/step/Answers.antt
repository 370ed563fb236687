-- Each event by its rule.
use Rattle.std.proofs.Common.{sym, subst, refl}
use Rattle.sched_text.specs.declared.event.Event.{Event}
use Rattle.sim.specs.Play.{Nothing}
use Rattle.sim.specs.Standing.{Played}
use Rattle.sim.proofs.Turning.{if-ok-map}
use Rattle.sim.proofs.sim.Sim.step.Goals as goal

pub returns-in-Turn-clause-played : goal.returns-in-Turn-clause-played
returns-in-Turn-clause-played c =
    if-ok-map c.turn.result _ _ (λ line tells. subst (λ (e : Event). Played c.args.self.now c.turn.new.self e line) (sym c.in-Turn.is)
    (record { judgement = Nothing; judged = refl; tells = tells })) c.turn.ensures.told

pub returns-in-Steal-clause-played : goal.returns-in-Steal-clause-played
returns-in-Steal-clause-played c =
    if-ok-map c.steal.result _ _ (λ line tells. subst (λ (e : Event). Played c.args.self.now c.steal.new.self e line) (sym c.in-Steal.is)
    (record { judgement = Nothing; judged = refl; tells = tells })) c.steal.ensures.told

pub returns-in-Away-clause-played : goal.returns-in-Away-clause-played
returns-in-Away-clause-played c =
    if-ok-map c.away.result _ _ (λ line tells. subst (λ (e : Event). Played c.args.self.now c.away.new.self e line) (sym c.in-Away.is)
    (record { judgement = Nothing; judged = refl; tells = rw c.caller_of.ensures at tells })) c.away.ensures.told

pub returns-in-Cut-clause-played : goal.returns-in-Cut-clause-played
returns-in-Cut-clause-played c =
    if-ok-map c.cut.result _ _ (λ line tells. subst (λ (e : Event). Played c.args.self.now c.cut.new.self e line) (sym c.in-Cut.is)
    (record { judgement = Nothing; judged = refl; tells = rw c.caller_of-in-Cut.ensures at tells })) c.cut.ensures.told

pub returns-in-Begin-clause-played : goal.returns-in-Begin-clause-played
returns-in-Begin-clause-played c =
    if-ok-map c.begin.result _ _ (λ line tells. subst (λ (e : Event). Played c.args.self.now c.begin.new.self e line) (sym c.in-Begin.is)
    (record { judgement = Nothing; judged = refl; tells = rw c.call_of.ensures at tells })) c.begin.ensures.told
