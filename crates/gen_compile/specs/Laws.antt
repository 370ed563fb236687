-- What holds of the code of every program.
use Rattle.ext_mean.specs.declared.tree.Program.{Program}
use Rattle.gen_code.specs.Codes.{code_of}
use Rattle.gen_code.specs.Sound.{IsSound}

-- jumps stay inside their function, and no loop goes on without a charge
abbrev pub CodeIsSound : Type 0
CodeIsSound = (program : Program) → IsSound (code_of program)
