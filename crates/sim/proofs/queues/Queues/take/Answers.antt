-- The first call is out, and the load is less by one.
use Rattle.std.proofs.Common.{◌≡◌, ◌≤◌, ◌-◌, ℕ, sym, subst, ap, ◌∙◌, List, [], Option, set, length, ◌<◌, arith}
use Rattle.std.specs.Prelude.{MatchOption}
use Rattle.std.proofs.lemmas.List.{length-set}
use Rattle.task.specs.Turning.{Live}
use Rattle.sim.specs.Play.{load_of}
use Rattle.sim.specs.Queueing.{Takes, TakesNothing}
use Rattle.sim.proofs.Queueing.{load-taken, queue-at, taken}
use Rattle.sim.proofs.queues.Queues.take.Goals as goal

pub overflow_sub-self : goal.overflow_sub-self
overflow_sub-self c =
    let queues = c.self.inside.queues.items in
    let old = c.index_mut-queue.result.now in
    let small : c.args.worker < length queues = subst (λ (before : List (List Live)). c.args.worker < length before) (sym c.self.view_is) c.requires in
    let parts = taken c.pop.result queues c.args.worker old c.pop.new.self (queue-at queues c.args.worker old small c.index_mut-queue.ensures.value) c.pop.ensures in
    let takes : Takes queues (set queues c.args.worker c.pop.new.self) c.args.worker c.in-Some.task =
    subst (λ (given : Option Live). MatchOption given (TakesNothing queues (set queues c.args.worker c.pop.new.self) c.args.worker)
    (Takes queues (set queues c.args.worker c.pop.new.self) c.args.worker)) c.in-Some.is parts in
    let less = load-taken queues (set queues c.args.worker c.pop.new.self) c.args.worker c.in-Some.task small takes in
    let load = c.self.invariant.1 in
    omega (arith, less, load)

pub invariant_of-self : goal.invariant_of-self
invariant_of-self c =
    let queues = c.self.inside.queues.items in
    let old = c.index_mut-queue.result.now in
    let small : c.args.worker < length queues = subst (λ (before : List (List Live)). c.args.worker < length before) (sym c.self.view_is) c.requires in
    let parts = taken c.pop.result queues c.args.worker old c.pop.new.self (queue-at queues c.args.worker old small c.index_mut-queue.ensures.value) c.pop.ensures in
    let none : TakesNothing queues (set queues c.args.worker c.pop.new.self) c.args.worker =
    subst (λ (given : Option Live). MatchOption given (TakesNothing queues (set queues c.args.worker c.pop.new.self) c.args.worker)
    (Takes queues (set queues c.args.worker c.pop.new.self) c.args.worker)) c.in_default.is parts in
    let few : length (set queues c.args.worker c.pop.new.self) ≤ 64 = omega (arith, c.self.invariant.0, length-set queues c.args.worker c.pop.new.self) in
    (few, c.self.invariant.1 ∙ ap load_of (sym none.left))

pub invariant_of-self-2 : goal.invariant_of-self-2
invariant_of-self-2 c =
    let queues = c.self.inside.queues.items in
    let old = c.index_mut-queue.result.now in
    let small : c.args.worker < length queues = subst (λ (before : List (List Live)). c.args.worker < length before) (sym c.self.view_is) c.requires in
    let parts = taken c.pop.result queues c.args.worker old c.pop.new.self (queue-at queues c.args.worker old small c.index_mut-queue.ensures.value) c.pop.ensures in
    let takes : Takes queues (set queues c.args.worker c.pop.new.self) c.args.worker c.in-Some.task =
    subst (λ (given : Option Live). MatchOption given (TakesNothing queues (set queues c.args.worker c.pop.new.self) c.args.worker)
    (Takes queues (set queues c.args.worker c.pop.new.self) c.args.worker)) c.in-Some.is parts in
    let less = load-taken queues (set queues c.args.worker c.pop.new.self) c.args.worker c.in-Some.task small takes in
    let load = c.self.invariant.1 in
    let few : length (set queues c.args.worker c.pop.new.self) ≤ 64 = omega (arith, c.self.invariant.0, length-set queues c.args.worker c.pop.new.self) in
    let now : c.self.inside.load - 1 ≡ load_of (set queues c.args.worker c.pop.new.self) = omega (arith, less, load) in
    (few, now)

pub returns-in_default : goal.returns-in_default
returns-in_default c =
    let queues = c.self.inside.queues.items in
    let old = c.index_mut-queue.result.now in
    let parts = subst (λ (before : List (List Live)). MatchOption c.pop.result
    (TakesNothing before (set queues c.args.worker c.pop.new.self) c.args.worker)
    (Takes before (set queues c.args.worker c.pop.new.self) c.args.worker)) c.self.view_is
    (taken c.pop.result queues c.args.worker old c.pop.new.self
    (queue-at queues c.args.worker old (subst (λ (before : List (List Live)). c.args.worker < length before) (sym c.self.view_is) c.requires) c.index_mut-queue.ensures.value)
    c.pop.ensures) in
    subst (λ (given : Option Live). MatchOption given (TakesNothing c.args.self.now (set queues c.args.worker c.pop.new.self) c.args.worker)
    (Takes c.args.self.now (set queues c.args.worker c.pop.new.self) c.args.worker)) c.in_default.is parts

pub returns : goal.returns
returns c =
    let queues = c.self.inside.queues.items in
    let old = c.index_mut-queue.result.now in
    let parts = subst (λ (before : List (List Live)). MatchOption c.pop.result
    (TakesNothing before (set queues c.args.worker c.pop.new.self) c.args.worker)
    (Takes before (set queues c.args.worker c.pop.new.self) c.args.worker)) c.self.view_is
    (taken c.pop.result queues c.args.worker old c.pop.new.self
    (queue-at queues c.args.worker old (subst (λ (before : List (List Live)). c.args.worker < length before) (sym c.self.view_is) c.requires) c.index_mut-queue.ensures.value)
    c.pop.ensures) in
    subst (λ (given : Option Live). MatchOption given (TakesNothing c.args.self.now (set queues c.args.worker c.pop.new.self) c.args.worker)
    (Takes c.args.self.now (set queues c.args.worker c.pop.new.self) c.args.worker)) c.in-Some.is parts
