use Rattle.sched_text.proofs.Decimals.{numbers_are_decimal}
use Rattle.sched_text.proofs.laws.numbers_are_decimal.Goals as goal

pub returns : goal.returns
returns c = numbers_are_decimal
