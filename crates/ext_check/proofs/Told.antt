-- What is told of a text that is refused.
use Rattle.std.proofs.Common.{ℕ, List}
use Rattle.std.specs.Prelude.{IfOk, IfErr, Result, Ok, Err}
use Rattle.ext_mean.specs.declared.refusal.Refusal.{Refusal}
use Rattle.ext_mean.specs.declared.tree.Program.{Program}
use Rattle.ext_check.specs.declared.fault.CheckFault.{CheckFault}
use Rattle.ext_check.specs.declared.fault.CheckFault.TheVariants as fault
use Rattle.ext_check.specs.Checking.{IsAccepted, IsRefused, Explains, Tells}
use Rattle.ext_check.proofs.OneRefusal.{one-refusal, refused-not-accepted}

pub told : (text : List ℕ) (result : Result Program CheckFault) (line : ℕ) (which : Refusal)
    → IfOk result (λ program. IsAccepted text program) → IfErr result (λ e. Explains text e)
    → IsRefused text line which → Tells result line which
told text (Ok program) line which accepted explained refused = refused-not-accepted text line which program refused accepted
told text (Err (fault.Refused other another)) line which accepted explained refused = one-refusal text other line another which explained refused
told text (Err fault.Memory) line which accepted explained refused = tt
