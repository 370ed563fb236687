-- A play's parts, put together from their ends.
use Rattle.std.specs.Prelude.{fold, map}
use Rattle.std.proofs.Common.{◌≡◌, ◌<◌, ℕ, true, leb, not, inl, inr, List, [], ◌∷◌, ◌++◌, ap, sym, ◌∙◌, subst, append_assoc, append-nil, refl}
use Rattle.std.specs.List.{AllByRecursion}
use Rattle.std.proofs.lemmas.Bool.{and_parts, cases_lt, le-leb}
use Rattle.std.proofs.lemmas.List.Sums.{fold-append}
use Rattle.std.proofs.lemmas.List.{map-append}
use Rattle.report.specs.declared.line.Line.{Line}
use Rattle.report.specs.declared.line.Prefix.TheVariants.{At}
use Rattle.sched_text.specs.declared.event.Event.{Event}
use Rattle.sched_text.specs.declared.event.Event.TheVariants as event
use Rattle.sched_text.specs.Fits.{IsEvent}
use Rattle.sim.specs.declared.sim.Sim.{Sim}
use Rattle.sim.specs.Play.{Answer, Drains, Follows, drain_event, event_of, in_drain, no_event, no_more, one_event, one_more}
use Rattle.sim.specs.Standing.{FitsEvent, Stands, StandsAt}
use Rattle.sim.specs.State.{SimState}
use Rattle.splinter.specs.Playing.{NoneTold, TellsBody, TellsDrain, TellsEvent, TellsSteps, StepTold}

-- events that follow one another
follows-append : {old between new : SimState} {events more : List (ℕ × Event)} {answers others : List Answer}
    → Follows old events answers between → Follows between more others new → Follows old (events ++ more) (answers ++ others) new
follows-append (no_event state) rest = rest
follows-append (one_event state at event judgement events answers after judged follows) rest =
    one_event state at event judgement _ _ _ judged (follows-append follows rest)

module _ {Listener : Type 0} (hear : Listener → Answer → Listener) where
  -- what was heard so far, and one answer more
  heard-more : (before between after : Listener) (answers : List Answer) (last : Answer) → between ≡ fold hear before answers
      → after ≡ hear between last → after ≡ fold hear before (answers ++ last ∷ [])
  heard-more before between after answers last first more =
      more ∙ ap (λ (listener : Listener). hear listener last) first ∙ sym (fold-append hear before answers (last ∷ []))

  pub body-start : (sim : Sim) (state : SimState) (listener : Listener) → StandsAt sim state → TellsBody hear state sim [] listener listener
  body-start sim state listener at = record { state = state; at = at; answers = []; follows = no_event state; heard = refl }

  -- an event was played, and its answer heard
  pub body-more : (old : SimState) (sim next : Sim) (events : List (ℕ × Event)) (number : ℕ) (event : Event) (before between after : Listener)
      → TellsBody hear old sim events before between → TellsEvent hear sim next number event between after
      → TellsBody hear old next (events ++ (number, event) ∷ []) before after
  body-more old sim next events number event before between after body added =
      let played = added.played in
      let told : added.line ≡ (event_of body.state event played.judgement).0 = played.tells.told body.state body.at in
      let Followed : Line → Type 0 = λ line. Follows body.state ((number, event) ∷ []) ((At number, line) ∷ []) (event_of body.state event played.judgement).1 in
      let last : Followed added.line = subst Followed (sym told) (one_event body.state number event played.judgement [] [] _ played.judged (no_event _)) in
      record {
        state = (event_of body.state event played.judgement).1;
        at = played.tells.left body.state body.at;
        answers = body.answers ++ (At number, added.line) ∷ [];
        follows = follows-append body.follows last;
        heard = heard-more before between after body.answers (At number, added.line) body.heard added.heard;
      }

  pub still-stands : (sim next : Sim) (number : ℕ) (event : Event) (before after : Listener) → Stands sim → TellsEvent hear sim next number event before after → Stands next
  still-stands sim next number event before after stands added = record {
    state = (event_of stands.state event added.played.judgement).1;
    at = added.played.tells.left stands.state stands.at;
  }

  pub steps-start : (sim : Sim) (state : SimState) (listener : Listener) → StandsAt sim state → TellsSteps hear state sim listener listener
  steps-start sim state listener at = record { state = state; at = at; lines = []; goes_on = λ rest last drains. drains; heard = refl }

  -- an event of the drain was played, and its answer heard
  pub steps-more : (old : SimState) (sim next : Sim) (before between after : Listener)
      → TellsSteps hear old sim before between → StepTold hear sim next between after → TellsSteps hear old next before after
  steps-more old sim next before between after steps added =
      let state : SimState = steps.state in
      let line : Line = added.line in
      let played = added.played in
      let told : line ≡ (drain_event state played.event).0 = played.tells.told state steps.at in
      let drains-more : (rest : List Line) (last : SimState) → Drains (drain_event state played.event).1 rest last → Drains state (line ∷ rest) last =
      λ rest last drains. subst (λ (said : Line). Drains state (said ∷ rest) last) (sym told)
      (one_more state played.event rest last (played.next state steps.at) drains) in
      record {
        state = (drain_event state played.event).1;
        at = played.tells.left state steps.at;
        lines = steps.lines ++ line ∷ [];
        goes_on = λ rest last drains. subst (λ (lines : List Line). Drains old lines last) (sym (append_assoc steps.lines (line ∷ []) rest))
            (steps.goes_on (line ∷ rest) last (drains-more rest last drains));
        heard = heard-more before between after (map in_drain steps.lines) (in_drain line) steps.heard added.heard
            ∙ ap (λ (answers : List Answer). fold hear before answers) (sym (map-append in_drain steps.lines (line ∷ [])));
      }

  pub step-stands : (sim next : Sim) (before after : Listener) → Stands sim → StepTold hear sim next before after → Stands next
  step-stands sim next before after stands added = record {
    state = (drain_event stands.state added.played.event).1;
    at = added.played.tells.left stands.state stands.at;
  }

  -- no call is live
  pub steps-end : (old : SimState) (sim last : Sim) (before between after : Listener) → TellsSteps hear old sim before between → NoneTold hear sim last between after
      → TellsDrain hear old last before after
  steps-end old sim last before between after steps added = record {
    state = steps.state;
    at = subst (λ (sim : Sim). StandsAt sim steps.state) (sym added.none.same) steps.at;
    lines = steps.lines;
    drains = subst (λ (lines : List Line). Drains old lines steps.state) (append-nil steps.lines)
        (steps.goes_on [] steps.state (no_more steps.state (added.none.none steps.state steps.at)));
    heard = added.heard ∙ steps.heard;
  }

-- events that fit a number of workers
abbrev pub Fit : ℕ → List (ℕ × Event) → Type 0
Fit workers events = AllByRecursion (λ row. FitsEvent workers row.1) events

-- a script's events fit the workers that it has
below : (workers worker : ℕ) → not (leb workers worker) ≡ true → worker < workers
below workers worker test = elim (cases_lt worker workers) [
  | inl lt ↦ lt
  | inr le ↦ let e : leb workers worker ≡ true = le-leb workers worker le in absurd cc
]

pub fits-event : (workers : ℕ) (event : Event) → IsEvent workers event → FitsEvent workers event
fits-event workers (event.Put tenant table key value) is = is.fields.value_size
fits-event workers (event.Ext tenant text) is = tt
fits-event workers (event.Begin worker tenant asked) is =
    (below workers worker is.has_workers, record { some_budget = is.fields.budget.low; budget = is.fields.budget.high; arguments = is.fields.args })
fits-event workers (event.Turn worker quantum) is = (below workers worker is.has_workers, is.fields.low, is.fields.high)
fits-event workers (event.Steal worker «from») is =
    let both = and_parts (not (leb workers worker)) (not (leb workers «from»)) is.has_workers in
    (below workers worker both.0, below workers «from» both.1)
fits-event workers (event.Away tenant caller) is = tt
fits-event workers (event.Cut tenant caller) is = tt

pub fits-events : (workers : ℕ) (events : List (ℕ × Event)) → AllByRecursion (λ row. IsEvent workers row.1) events → Fit workers events
fits-events workers [] all = tt
fits-events workers (row ∷ events) all = (fits-event workers row.1 all.0, fits-events workers events all.1)
