use Rattle.ext_parse.proofs.OneProgram.{one-program}
use Rattle.ext_parse.proofs.laws.texts_spell_one_program.Goals as goal

pub returns : goal.returns
returns c = one-program
