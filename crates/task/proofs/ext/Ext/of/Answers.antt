-- The text is accepted, and the compiler's code does what the program means.
use Rattle.std.proofs.Common.{ℕ, List, sym, subst}
use Rattle.std.specs.Arc.{arc_value}
use Rattle.ext_mean.specs.declared.tree.Program.{Program}
use Rattle.ext_check.specs.Checking.{IsAccepted}
use Rattle.gen_code.specs.declared.code.Code.{Code}
use Rattle.gen_code.specs.Does.{Does}
use Rattle.task.proofs.ext.Ext.of.Goals as goal

pub invariant_of-result : goal.invariant_of-result
invariant_of-result c =
    let does : Does c.in_ok-code.code c.args.program = c.in_ok-code.ensures.does c.requires.typed in (
      subst (λ (program : Program). IsAccepted c.in_ok-text.text program) (sym c.in-Ok-new.ensures.ok)
          (subst (λ (text : List ℕ). IsAccepted text c.args.program) (sym c.in_ok-text.ensures) c.requires),
      subst (λ (program : Program). Does (arc_value c.in-Ok.code) program) (sym c.in-Ok-new.ensures.ok)
          (subst (λ (code : Code). Does code c.args.program) (sym c.in-Ok.ensures.ok) does),
    )
