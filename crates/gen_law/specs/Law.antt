-- The law of the code of a program.
use Rattle.ext_mean.specs.declared.tree.Program.{Program}
use Rattle.ext_mean.specs.Typing.{IsTyped}
use Rattle.gen_code.specs.Codes.{code_of}
use Rattle.gen_code.specs.Does.{Does}

-- The code of a typed program does what the program means: with any arguments and budget and on any view
-- it is over, with the meaning of the program, after no more turns than its bound.
abbrev pub CodeMeansTheSame : Type 0
CodeMeansTheSame = (program : Program) → IsTyped program → Does (code_of program) program
