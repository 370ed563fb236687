use Rattle.std.proofs.Common.{rules}
use Rattle.sched_text.proofs.TextLines.{cut_shorter}
use Rattle.sched_text.proofs.texts.first_line.Goals as goal

pub returns-in-Some-clause-shorter : goal.returns-in-Some-clause-shorter
returns-in-Some-clause-shorter c = cut_shorter c.args.text.now c.cut.result.0.now c.in-Some.behind.now (search rules)
