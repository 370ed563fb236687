-- each function so far is sound
use Rattle.std.proofs.Common.{◌<◌, ℕ}
use Rattle.gen_code.proofs.SoundLemmas.{SoundAt}
use Rattle.gen_code.proofs.sound.is_sound.Given as goal

abbrev pub invariant-loop-function : goal.invariant-loop-function
invariant-loop-function l = (number : ℕ) → number < l.function-index → SoundAt l.function-items number
