use Rattle.sched_text.proofs.Written.{lines_read_back}
use Rattle.sched_text.proofs.laws.lines_read_back.Goals as goal

pub returns : goal.returns
returns c = lines_read_back
