-- The call is moved.
use Rattle.std.proofs.Common.{ap, ◌∙◌}
use Rattle.report.specs.declared.line.Said.TheVariants as said
use Rattle.sp_base.specs.declared.calls.Call.{Call}
use Rattle.sim.specs.Play.{of_call}
use Rattle.sim.specs.declared.sim.Sim.{Sim}
use Rattle.sim.proofs.Eventing.{steal-tells}
use Rattle.sim.proofs.sim.Sim.steal.Goals as goal

pub returns-clause-told : goal.returns-clause-told
returns-clause-told c =
    steal-tells c.args.self.now _ c.take.new.self c.args.worker c.args.from c.in-Some.task c.line_of-line.result
    c.requires.worker c.requires.victim c.in-Some.ensures
    (c.line_of-line.ensures ∙ ap (λ (call : Call). of_call call said.Moved) c.call.ensures)
    (ap (λ queues. let s : Sim = record c.args.self.now { queues = queues } in s) c.in_ok-put.ensures)
