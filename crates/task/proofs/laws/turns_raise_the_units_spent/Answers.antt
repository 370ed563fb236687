-- The law is proved of every task.
use Rattle.task.proofs.Counting.{turns-raise}
use Rattle.task.proofs.laws.turns_raise_the_units_spent.Goals as goal

pub returns : goal.returns
returns c = turns-raise
