-- The law is proved of every task.
use Rattle.task.proofs.Turns.{begins}
use Rattle.task.proofs.laws.calls_begin_as_tasks.Goals as goal

pub returns : goal.returns
returns c = begins
