-- The law is proved of every task.
use Rattle.task.proofs.Turns.{turns-keep}
use Rattle.task.proofs.laws.turns_keep_tasks.Goals as goal

pub returns : goal.returns
returns c = turns-keep
