-- What holds of a program's code holds of what was compiled.
use Rattle.std.proofs.Common.{◌≡◌, sym, subst}
use Rattle.std.specs.Prelude.{IfOk, Result, Ok, Err}
use Rattle.sp_base.specs.declared.memory.Memory.{Memory}
use Rattle.ext_mean.specs.declared.tree.Program.{Program}
use Rattle.ext_mean.specs.Typing.{IsTyped}
use Rattle.gen_code.specs.declared.code.Code.{Code}
use Rattle.gen_code.specs.Codes.{code_of}
use Rattle.gen_code.specs.Does.{Does}
use Rattle.gen_code.specs.Sound.{IsSound}
use Rattle.gen_law.proofs.Programs.{code-means-the-same}
use Rattle.gen_compile.proofs.SoundCode.{code-sound}

pub sound : (program : Program) (result : Result Code Memory) → IfOk result (λ code. code ≡ code_of program) → IfOk result (λ code. IsSound code)
sound program (Ok code) same = subst IsSound (sym same) (code-sound program)
sound program (Err e) same = tt

pub does : (program : Program) (result : Result Code Memory) → IfOk result (λ code. code ≡ code_of program)
    → IsTyped program → IfOk result (λ code. Does code program)
does program (Ok code) same typed = subst (λ c. Does c program) (sym same) (code-means-the-same program typed)
does program (Err e) same typed = tt
