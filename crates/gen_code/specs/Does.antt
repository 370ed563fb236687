-- When code does what a program means.
use Rattle.std.specs.Prelude.{◌≡◌, ℕ, List}
use Rattle.ext_mean.specs.declared.tree.Program.{Program}
use Rattle.ext_mean.specs.Meaning.{mean}
use Rattle.ext_mean.specs.Views.{View}
use Rattle.gen_code.specs.declared.code.Code.{Code}
use Rattle.gen_code.specs.Machine.{Progress, Going, Over, begin, most_turns, steps}

-- With any arguments and budget and on any view the code is over, with the meaning of the program, after
-- no more turns than its bound.
pub record Does (code : Code) (program : Program) : Type 0 where
  pub means : (args : List ℕ) (budget : ℕ) (view : View)
      → steps code (record { args = args; budget = budget; view = view }) (most_turns code budget) (Going (begin code))
      ≡ Over (mean program args budget view)

-- the code is that of some program
abbrev pub IsOfProgram : Code → Type 0
IsOfProgram code = (program : Program) × Does code program
