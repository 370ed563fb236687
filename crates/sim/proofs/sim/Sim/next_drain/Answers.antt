-- The next worker that has a call has a turn.
use Rattle.std.specs.Prelude.{IfSome}
use Rattle.std.proofs.Common.{◌+◌, ℕ, Option, sym, subst, ◌∙◌, arith}
use Rattle.sim.specs.Queueing.{HasCall}
use Rattle.sim.proofs.Drain.{stands-next, turn-played}
use Rattle.sim.proofs.sim.Sim.next_drain.Goals as goal

pub overflow_add-self : goal.overflow_add-self
overflow_add-self c =
    let has : HasCall c.args.self.now.queues c.in-Some.worker = subst (λ (o : Option ℕ). IfSome o (HasCall c.args.self.now.queues)) c.in-Some.is c.busy.ensures.found in
    omega (arith, has.small, c.busy.ensures.few)

pub turn-requires-clause-stands : goal.turn-requires-clause-stands
turn-requires-clause-stands c = record {
  state = record c.requires.state { next = c.in-Some.worker + 1 };
  at = stands-next c.args.self.now c.requires.state (c.in-Some.worker + 1) c.requires.at;
}

pub turn-requires-clause-worker : goal.turn-requires-clause-worker
turn-requires-clause-worker c =
    let has : HasCall c.args.self.now.queues c.in-Some.worker = subst (λ (o : Option ℕ). IfSome o (HasCall c.args.self.now.queues)) c.in-Some.is c.busy.ensures.found in
    has.small

pub returns-clause-played : goal.returns-clause-played
returns-clause-played c =
    turn-played c.args.self.now c.turn.new.self c.in-Some.worker c.in_ok-line.line (sym c.in-Some.is ∙ c.busy.ensures.first) c.in_ok-line.ensures.told

pub returns-clause-falls : goal.returns-clause-falls
returns-clause-falls c =
    let has : HasCall c.args.self.now.queues c.in-Some.worker = subst (λ (o : Option ℕ). IfSome o (HasCall c.args.self.now.queues)) c.in-Some.is c.busy.ensures.found in
    c.in_ok-line.ensures.falls has.some
