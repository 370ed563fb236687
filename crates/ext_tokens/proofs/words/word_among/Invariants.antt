-- The word is among those that are left exactly where it is among all.
use Rattle.std.proofs.Common.{◌≡◌, drop}
use Rattle.ext_tokens.specs.Words.{word_among}
use Rattle.ext_tokens.proofs.words.word_among.Given as goal

abbrev pub invariant-loop-word : goal.invariant-loop-word
invariant-loop-word l = word_among (drop l.word-index l.words) l.bytes ≡ word_among l.words l.bytes
