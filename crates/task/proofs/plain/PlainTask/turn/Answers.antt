-- The meaning with the units of a turn decides, and what ends is the meaning with the whole budget.
use Rattle.std.proofs.Common.{◌≤◌, sym, ◌∙◌, subst, arith}
use Rattle.task.specs.Tasks.{IsTask}
use Rattle.task.specs.Turning.{Live}
use Rattle.task.proofs.Turns.{done-ends, trapped-ends, waits}
use Rattle.task.proofs.plain.PlainTask.turn.Goals as goal

pub wait-requires : goal.wait-requires
wait-requires c =
    let now = c.args.self.now in
    let task : IsTask now = subst (λ (live : Live). IsTask live) c.self.view_is c.self.invariant.0 in
    let units = c.units-units.ensures in
    let fits : c.units-units.result ≤ now.call.budget = omega (arith, units) in
    waits now c.units-units.result c.in-Wants.table c.in-Wants.key c.in-Wants.used task c.requires.ready fits (sym c.in-Ok.ensures ∙ c.in-Wants.is)

pub end-requires : goal.end-requires
end-requires c =
    let now = c.args.self.now in
    let units = c.units-units.ensures in
    let fits : c.units-units.result ≤ now.call.budget = omega (arith, units) in
    rw c.new-none.ensures (trapped-ends now c.units-units.result c.in-Trapped.trap c.in-Trapped.used fits (sym c.in-Ok.ensures ∙ c.in-Trapped.is))

pub end-requires-in-Done : goal.end-requires-in-Done
end-requires-in-Done c =
    let now = c.args.self.now in
    let units = c.units-units.ensures in
    let fits : c.units-units.result ≤ now.call.budget = omega (arith, units) in
    done-ends now c.units-units.result c.in-Done.reply c.in-Done.writes c.in-Done.used fits (sym c.in-Ok.ensures ∙ c.in-Done.is)
