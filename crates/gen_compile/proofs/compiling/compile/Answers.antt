-- The code of a program is sound and does what the program means.
use Rattle.gen_compile.proofs.Compiled.{does, sound}
use Rattle.gen_compile.proofs.compiling.compile.Goals as goal

pub returns-clause-sound : goal.returns-clause-sound
returns-clause-sound c = sound c.args.program.now c.compiled.result c.compiled.ensures

pub returns-clause-does : goal.returns-clause-does
returns-clause-does c = does c.args.program.now c.compiled.result c.compiled.ensures
