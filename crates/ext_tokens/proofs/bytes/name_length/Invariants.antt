-- The bytes that were counted, and those that will be, are all.
use Rattle.std.proofs.Common.{◌≡◌, ◌+◌, drop}
use Rattle.std.specs.List.{prefix_len}
use Rattle.ext_mean.specs.Tokens.{is_name_byte}
use Rattle.ext_tokens.proofs.bytes.name_length.Given as goal

abbrev pub invariant-loop-count : goal.invariant-loop-count
invariant-loop-count l = l.count + prefix_len is_name_byte (drop l.count l.bytes) ≡ prefix_len is_name_byte l.bytes
