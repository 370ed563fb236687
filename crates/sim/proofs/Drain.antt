-- The drain, with the next worker moved on.
use Rattle.std.specs.Prelude.{map}
use Rattle.std.proofs.Common.{◌≡◌, ℕ, ◌+◌, Option, Some, None, List, [], ◌∷◌, drop, refl, ap, sym, ◌∙◌, subst}
use Rattle.sp_base.specs.declared.numbers.Caller.{Caller}
use Rattle.clients.specs.Placing.{BeginsWith}
use Rattle.clients.specs.Pushed.{Pushed, pushed_of}
use Rattle.report.specs.declared.line.Line.{Line}
use Rattle.sched_text.specs.declared.event.Event.{Event}
use Rattle.sched_text.specs.declared.event.Event.TheVariants as event
use Rattle.task.specs.Turning.{Live}
use Rattle.sim.specs.declared.sim.Sim.{Sim}
use Rattle.sim.specs.Play.{away_event, first_busy, next_event, next_of, next_worker, or_else, turn_event}
use Rattle.sim.specs.Standing.{DrainStep, NoneLeft, StandsAt, Tells}
use Rattle.sim.specs.State.{SimState}

pub stands-next : (sim : Sim) (state : SimState) (next : ℕ) → StandsAt sim state → StandsAt (record sim { next = next }) (record state { next = next })
stands-next sim state next at = record {
  book = at.book;
  grants = at.grants;
  policy = at.policy;
  limit = at.limit;
  audit = at.audit;
  queues = at.queues;
  pushed = at.pushed;
  next = refl;
  indexed = at.indexed;
  installed = at.installed;
  live = at.live;
}

pub next-is : (sim : Sim) (state : SimState) (given : Option ℕ) → StandsAt sim state
    → given ≡ or_else (first_busy sim.next (drop sim.next sim.queues)) (first_busy 0 sim.queues) → next_worker state ≡ given
next-is sim state given at is =
    sym (is ∙ ap (λ (n : ℕ). or_else (first_busy n (drop n sim.queues)) (first_busy 0 sim.queues)) at.next
    ∙ ap (λ (queues : List (List Live)). or_else (first_busy state.next (drop state.next queues)) (first_busy 0 queues)) at.queues)

pub turn-played : (old new : Sim) (worker : ℕ) (line : Line)
    → Some worker ≡ or_else (first_busy old.next (drop old.next old.queues)) (first_busy 0 old.queues)
    → Tells (record old { next = worker + 1 }) new (λ state. turn_event state worker 10000) line → DrainStep old new line
turn-played old new worker line is tells = record {
  event = event.Turn worker 10000;
  next = λ state at. ap (λ (next : Option ℕ). next_of next state.pushed) (next-is old state (Some worker) at is);
  tells = record {
    told = λ state at. tells.told (record state { next = worker + 1 }) (stands-next old state (worker + 1) at);
    left = λ state at. tells.left (record state { next = worker + 1 }) (stands-next old state (worker + 1) at);
  };
}

-- ---- Where no worker has a call

none-kept : (pushed : List Live) → map pushed_of pushed ≡ [] → pushed ≡ []
none-kept [] is = refl
none-kept (live ∷ pushed) is = absurd (cc)

pub none-pushed : (sim : Sim) (state : SimState) → StandsAt sim state → sim.pushed ≡ [] → state.pushed ≡ []
none-pushed sim state at none = none-kept state.pushed (sym at.pushed ∙ none)

-- and none is pushed
pub none-left : (sim : Sim) → None ≡ or_else (first_busy sim.next (drop sim.next sim.queues)) (first_busy 0 sim.queues) → sim.pushed ≡ []
    → NoneLeft sim sim
none-left sim is none = record {
  none = λ state at. ap (λ (next : Option ℕ). next_of next state.pushed) (next-is sim state None at is) ∙ ap (next_of None) (none-pushed sim state at none);
  same = refl;
}

next-away : (pushed : List Live) (calls : List Pushed) (caller : Caller) → calls ≡ map pushed_of pushed → BeginsWith calls caller
    → next_of None pushed ≡ Some (event.Away caller.tenant caller.number)
next-away [] calls caller is begins = absurd (let front = begins.is in cc)
next-away (live ∷ pushed) calls caller is begins =
    let front = begins.is in
    let first : pushed_of live ≡ begins.front = cc in
    let same : live.call.caller ≡ caller = ap (λ (p : Pushed). p.call.caller) first ∙ sym begins.own in
    ap (λ (c : Caller). Some (event.Away c.tenant c.number)) same

-- the call that was pushed first goes on
pub away-played : (old new : Sim) (caller : Caller) (line : Line)
    → None ≡ or_else (first_busy old.next (drop old.next old.queues)) (first_busy 0 old.queues) → BeginsWith old.pushed caller
    → Tells old new (λ state. away_event state caller) line → DrainStep old new line
away-played old new caller line is begins tells = record {
  event = event.Away caller.tenant caller.number;
  next = λ state at. ap (λ (next : Option ℕ). next_of next state.pushed) (next-is old state None at is)
      ∙ next-away state.pushed old.pushed caller at.pushed begins;
  tells = tells;
}
