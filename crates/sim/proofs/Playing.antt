-- A script has one play.
use Rattle.std.specs.Prelude.{map}
use Rattle.std.proofs.Common.{◌≡◌, ℕ, List, ◌∷◌, ◌++◌, Some, None, refl, ap, sym, ◌∙◌, subst}
use Rattle.report.specs.declared.line.Line.{Line}
use Rattle.report.specs.declared.line.Prefix.TheVariants.{At}
use Rattle.sched_text.specs.declared.event.Event.{Event}
use Rattle.sim.specs.Laws.{EventsAreJudgedOnce, ScriptsHaveOnePlay}
use Rattle.sim.specs.Play.{Answer, Judgement, Follows, no_event, one_event, Drains, no_more, one_more, drain_event, event_of, in_drain, opened}
use Rattle.sim.specs.State.{SimState}

-- what follows a state, whichever events these are
abbrev Alike : List Answer → List Answer → SimState → SimState → Type 0
Alike answers others after last = (answers ≡ others) × (after ≡ last)

one-more-alike : (state : SimState) (at : ℕ) (event : Event) (judgement other : Judgement) (answers others : List Answer) (after last : SimState)
    → judgement ≡ other → Alike answers others after last
    → Alike ((At at, (event_of state event judgement).0) ∷ answers) ((At at, (event_of state event other).0) ∷ others) after last
one-more-alike state at event judgement other answers others after last same alike =
    let head : Answer = (At at, (event_of state event judgement).0) in
    let head' : Answer = (At at, (event_of state event other).0) in
    let heads : head ≡ head' = ap (λ (j : Judgement). let a : Answer = (At at, (event_of state event j).0) in a) same in
    (ap (λ (a : Answer). a ∷ answers) heads ∙ ap (λ (rest : List Answer). head' ∷ rest) alike.0, alike.1)

follows-alike : EventsAreJudgedOnce → (state : SimState) (events : List (ℕ × Event)) (answers others : List Answer) (after last : SimState)
    → Follows state events answers after → Follows state events others last → Alike answers others after last
follows-alike once state events answers others after last (no_event s) (no_event s') = (refl, refl)
follows-alike once state events answers others after last (one_event s at event judgement rest more end judged follows) (one_event s' at' event' judgement' rest' more' end' judged' follows') =
    let same : judgement ≡ judgement' = once event judgement judgement' judged judged' in
    let moved : Follows (event_of state event judgement).1 rest more' end' =
    subst (λ (j : Judgement). Follows (event_of state event j).1 rest more' end') (sym same) follows' in
    one-more-alike state at event judgement judgement' more more' after last same
    (follows-alike once (event_of state event judgement).1 rest more more' after last follows moved)

drains-alike : (state : SimState) (lines others : List Line) (after last : SimState)
    → Drains state lines after → Drains state others last → (lines ≡ others) × (after ≡ last)
drains-alike state lines others after last (no_more s none) (no_more s' none') = (refl, refl)
drains-alike state lines others after last (no_more s none) (one_more s' event rest end some drains) =
    let both : None ≡ Some event = sym none ∙ some in absurd cc
drains-alike state lines others after last (one_more s event rest end some drains) (no_more s' none) =
    let both : None ≡ Some event = sym none ∙ some in absurd cc
drains-alike state lines others after last (one_more s event rest end some drains) (one_more s' event' rest' end' some' drains') =
    let both : Some event ≡ Some event' = sym some ∙ some' in
    let same : event ≡ event' = cc in
    let moved : Drains (drain_event state event).1 rest' end' =
    subst (λ (e : Event). Drains (drain_event state e).1 rest' end') (sym same) drains' in
    let alike = drains-alike (drain_event state event).1 rest rest' after last drains moved in
    (ap (λ (e : Event). (drain_event state e).0 ∷ rest) same ∙ ap (λ (r : List Line). (drain_event state event').0 ∷ r) alike.0, alike.1)

pub one-play : EventsAreJudgedOnce → ScriptsHaveOnePlay
one-play once script answers others journal another plays other =
    let body = follows-alike once (opened script.head) script.events plays.body other.body plays.between other.between plays.follows other.follows in
    let moved : Drains plays.between other.drained other.after =
    subst (λ (s : SimState). Drains s other.drained other.after) (sym body.1) other.drains in
    let drained = drains-alike plays.between plays.drained other.drained plays.after other.after plays.drains moved in (
      plays.answers_are ∙ ap (λ (b : List Answer). b ++ map in_drain plays.drained) body.0
          ∙ ap (λ (d : List Line). other.body ++ map in_drain d) drained.0 ∙ sym other.answers_are,
      plays.journal_is ∙ ap (λ (s : SimState). s.journal) drained.1 ∙ sym other.journal_is,
    )
