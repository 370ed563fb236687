-- By induction over the tree.
use Rattle.gen_compile.proofs.SoundCode.{code-sound}
use Rattle.gen_compile.proofs.laws.code_is_sound.Goals as goal

pub returns : goal.returns
returns c = code-sound
