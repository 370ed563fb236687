use Rattle.std.proofs.Common.{rules}
use Rattle.sched_text.proofs.TextLines.{passed_one, passed_out}
use Rattle.sched_text.proofs.texts.end_of_lines.Goals as goal

pub returns-in-None : goal.returns-in-None
returns-in-None c = passed_out c.args.count c.loop.counter c.args.text.now c.loop.rest.now c.cut.result.0.now c.loop-test.true (search rules) c.loop.invariant

pub loop-preserved : goal.loop-preserved
loop-preserved c = passed_one c.args.count c.loop.counter c.args.text.now c.loop.rest.now c.cut.result.0.now c.in-Some.behind.now c.loop-test.true (search rules) c.loop.invariant
