-- The law is proved of every task.
use Rattle.task.proofs.Turns.{records-keep}
use Rattle.task.proofs.laws.records_keep_tasks.Goals as goal

pub returns : goal.returns
returns c = records-keep
