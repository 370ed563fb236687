-- A number that is too large stays so with further digits.
use Rattle.std.proofs.Common.{◌^◌}
use Rattle.ext_tokens.proofs.Lexing.{digits-over}
use Rattle.ext_tokens.proofs.numbers.value.Goals as goal

pub returns-in-None : goal.returns-in-None
returns-in-None c =
    digits-over c.loop-digit.value c.loop-digit.digit-index (2 ^ 64) c.args.digits.now c.loop-digit-test.true c.in-None.ensures c.loop-digit.invariant
