-- The bytes that were counted, and those that will be, are all.
use Rattle.std.proofs.Common.{◌≡◌, ◌+◌, drop}
use Rattle.std.specs.List.{prefix_len}
use Rattle.ext_mean.specs.Tokens.{is_digit}
use Rattle.ext_tokens.proofs.bytes.digits_length.Given as goal

abbrev pub invariant-loop-count : goal.invariant-loop-count
invariant-loop-count l = l.count + prefix_len is_digit (drop l.count l.bytes) ≡ prefix_len is_digit l.bytes
