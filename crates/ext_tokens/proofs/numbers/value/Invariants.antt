-- The digits that are left complete the number.
use Rattle.std.proofs.Common.{◌≡◌, drop}
use Rattle.ext_mean.specs.Tokens.{digits_from}
use Rattle.ext_tokens.proofs.numbers.value.Given as goal

abbrev pub invariant-loop-digit : goal.invariant-loop-digit
invariant-loop-digit l = digits_from l.value (drop l.digit-index l.digits) ≡ digits_from 0 l.digits
