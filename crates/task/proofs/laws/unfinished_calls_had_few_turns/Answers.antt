-- The law is proved of every task.
use Rattle.task.proofs.Counting.{few-turns}
use Rattle.task.proofs.laws.unfinished_calls_had_few_turns.Goals as goal

pub returns : goal.returns
returns c = few-turns
