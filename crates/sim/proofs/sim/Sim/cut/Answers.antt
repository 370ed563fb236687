-- The caller's pushed call is forgotten.
use Rattle.std.specs.Prelude.{if◌then◌else◌}
use Rattle.std.proofs.Common.{◌≡◌, List, Some, None, refl, sym, ap, subst, ◌∙◌}
use Rattle.sp_base.specs.declared.calls.Call.{Call}
use Rattle.journal.specs.Folds.{same_caller}
use Rattle.clients.specs.First.{first_of}
use Rattle.clients.specs.Numbering.{number_of}
use Rattle.clients.specs.Pushed.{Pushed, is_callers}
use Rattle.clients.proofs.Firsts.{without-none}
use Rattle.report.specs.declared.line.Line.TheVariants as line
use Rattle.report.specs.declared.line.Said.TheVariants as said
use Rattle.sim.specs.declared.sim.Sim.{Sim}
use Rattle.sim.specs.Play.{cut_event, of_call}
use Rattle.sim.specs.Standing.{Tells}
use Rattle.sim.proofs.AtClients.{cut-idle, cut-tells}
use Rattle.sim.proofs.sim.Sim.cut.Goals as goal

pub returns-in_default-clause-told : goal.returns-in_default-clause-told
returns-in_default-clause-told c =
    let none : first_of (is_callers c.args.caller) c.args.self.now.pushed ≡ None = sym c.remove.ensures.call ∙ c.in_default.is in
    let same = c.remove.ensures.left ∙ without-none (is_callers c.args.caller) c.args.self.now.pushed none in
    subst (λ (calls : List Pushed). Tells c.args.self.now (record c.args.self.now { pushed = calls }) (λ state. cut_event state c.args.caller) line.Idle) (sym same)
    (cut-idle c.args.self.now c.args.caller none)

pub returns-clause-told : goal.returns-clause-told
returns-clause-told c =
    let found : first_of (is_callers c.args.caller) c.args.self.now.pushed ≡ Some c.in-Some.call = sym c.remove.ensures.call ∙ c.in-Some.is in
    cut-tells c.args.self.now _ c.args.caller c.in-Some.call c.line_of.result found (record {
      told = c.line_of.ensures ∙ ap (λ (k : Call). of_call k said.Cut) c.call-3.ensures;
      book = refl;
      policy = refl;
      queues = refl;
      pushed = c.remove.ensures.left;
      next = refl;
      callers = λ other. c.remove-2.ensures other
          ∙ ap (λ (k : Call). if same_caller k.caller other then None else number_of c.args.self.now.callers other) c.call-2.ensures;
    })
