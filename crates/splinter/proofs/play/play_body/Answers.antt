-- The events that are left, and one event more.
use Rattle.std.specs.Vec.Iter.{into_iter_items}
use Rattle.std.proofs.Common.{◌≡◌, ℕ, List, [], ◌∷◌, ◌++◌, ◌∙◌, ap, sym, subst, append_assoc, rules}
use Rattle.sched_text.specs.declared.event.Event.{Event}
use Rattle.sim.specs.Standing.{workers_of}
use Rattle.splinter.proofs.Parts.{Fit, body-more, body-start, still-stands}
use Rattle.splinter.proofs.play.play_body.Goals as goal

pub loop-line-init : goal.loop-line-init
loop-line-init g c =
    let all : into_iter_items c.into_iter-line-iterator.result ≡ c.args.events = search rules in record {
      whole = all;
      fit = subst (λ (events : List (ℕ × Event)). Fit (workers_of c.args.sim.now) events) (sym all) c.requires.fits;
      stands = c.requires.stands;
      added = λ state at. body-start g.L.Listener.heard c.args.sim.now state c.args.listener.now at;
    }

pub loop-line-preserved : goal.loop-line-preserved
loop-line-preserved g c =
    let steps : into_iter_items c.loop-line.line-iterator ≡ (c.in-Some.line, c.in-Some.event) ∷ into_iter_items c.next.new.self = c.in-Some.ensures.steps.0 in
    let fits = subst (λ (events : List (ℕ × Event)). Fit (workers_of c.loop-line.sim) events) steps c.loop-line.invariant.fit in record {
      whole = append_assoc c.loop-line.yielded ((c.in-Some.line, c.in-Some.event) ∷ []) (into_iter_items c.next.new.self)
          ∙ ap (λ (events : List (ℕ × Event)). c.loop-line.yielded ++ events) (sym steps) ∙ c.loop-line.invariant.whole;
      fit = subst (λ (workers : ℕ). Fit workers (into_iter_items c.next.new.self)) (sym c.in_ok-play_event.ensures.workers) fits.1;
      stands = still-stands g.L.Listener.heard c.loop-line.sim c.play_event.new.sim c.in-Some.line c.in-Some.event c.loop-line.listener c.play_event.new.listener
          c.loop-line.invariant.stands c.in_ok-play_event.ensures.told;
      added = λ state at. body-more g.L.Listener.heard state c.loop-line.sim c.play_event.new.sim c.loop-line.yielded c.in-Some.line c.in-Some.event
          c.args.listener.now c.loop-line.listener c.play_event.new.listener (c.loop-line.invariant.added state at) c.in_ok-play_event.ensures.told;
    }
