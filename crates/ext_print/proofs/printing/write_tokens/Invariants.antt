-- What is written and what is left to write are the whole.
use Rattle.std.proofs.Common.{◌≡◌, ◌++◌, drop, false}
use Rattle.ext_mean.specs.Canonical.{written}
use Rattle.ext_print.proofs.printing.write_tokens.Given as goal

abbrev pub invariant-loop-token : goal.invariant-loop-token
invariant-loop-token l =
    l.text.items ++ written l.wordy (drop l.token-index l.tokens) ≡ l.fn.text.items ++ written false l.tokens
