-- each jump so far may stand
use Rattle.std.proofs.Common.{◌<◌, ℕ}
use Rattle.gen_code.proofs.SoundLemmas.{LandsAt}
use Rattle.gen_code.proofs.sound.is_sound_function.Given as goal

abbrev pub invariant-loop-pc : goal.invariant-loop-pc
invariant-loop-pc l = (pc : ℕ) → pc < l.pc → LandsAt l.ops pc
