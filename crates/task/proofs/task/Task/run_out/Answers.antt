-- A quantum that is spent below the budget leaves a task.
use Rattle.std.proofs.Common.{◌≤◌, sym, subst, arith}
use Rattle.std.specs.Arc.{arc_value}
use Rattle.task.specs.Following.{live_of, phase_of}
use Rattle.task.specs.Tasks.{IsTask}
use Rattle.task.specs.Turning.{Live, spending}
use Rattle.task.proofs.Machines.{follows-still}
use Rattle.task.proofs.Turns.{spends}
use Rattle.task.proofs.task.Task.run_out.Goals as goal

pub invariant_of-self : goal.invariant_of-self
invariant_of-self c =
    let now = c.args.self.now in
    let task : IsTask now = subst (λ (live : Live). IsTask live) c.self.view_is c.self.invariant.0 in
    let units = c.requires.units in
    let within = task.within in
    let raised : now.spent ≤ c.args.units = omega (arith, units, within) in
    let fits : c.args.units ≤ now.call.budget = omega (arith, units) in
    let inside = c.self.inside in (
      subst (λ (live : Live). IsTask (spending live c.args.units)) (sym c.self.view_is)
          (spends now c.args.units task c.requires.ready raised fits c.requires.spent),
      c.self.invariant.1,
      follows-still (arc_value inside.code)
          (live_of inside.call (arc_value inside.ext) inside.rights inside.reads inside.spent inside.killed inside.run) inside.run
          c.self.invariant.2 c.args.units (phase_of inside.killed inside.run.phase) (λ on. on),
    )
