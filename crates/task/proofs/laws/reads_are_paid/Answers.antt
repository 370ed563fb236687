-- The law is proved of every task.
use Rattle.task.proofs.Counting.{are-paid}
use Rattle.task.proofs.laws.reads_are_paid.Goals as goal

pub returns : goal.returns
returns c = are-paid
