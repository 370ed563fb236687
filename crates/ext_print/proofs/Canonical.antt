-- What holds of the canonical text holds of what was printed.
use Rattle.std.proofs.Common.{◌≡◌, ◌≤◌, ℕ, List, length, sym, subst}
use Rattle.std.specs.Prelude.{IfOk, Result, Ok, Err}
use Rattle.sp_base.specs.declared.memory.Memory.{Memory}
use Rattle.ext_mean.specs.declared.tree.Program.{Program}
use Rattle.ext_mean.specs.Canonical.{canonical}
use Rattle.ext_mean.specs.Text.{Spells}
use Rattle.ext_canonical.proofs.CanonicalProved.{canonical-is-short, canonical-is-spelled}

pub spelled : (program : Program) (result : Result (List ℕ) Memory) → IfOk result (λ text. text ≡ canonical program)
    → (source : List ℕ) → Spells source program → IfOk result (λ text. Spells text program)
spelled program (Ok text) same source is = subst (λ z. Spells z program) (sym same) (canonical-is-spelled source program is)
spelled program (Err e) same source is = tt

pub short : (program : Program) (result : Result (List ℕ) Memory) → IfOk result (λ text. text ≡ canonical program)
    → (source : List ℕ) → Spells source program → IfOk result (λ text. length text ≤ length source)
short program (Ok text) same source is = subst (λ (z : List ℕ). length z ≤ length source) (sym same) (canonical-is-short source program is)
short program (Err e) same source is = tt
