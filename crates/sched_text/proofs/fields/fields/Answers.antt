use Rattle.std.proofs.Common.{rules}
use Rattle.sched_text.specs.Fields.{fields_of}
use Rattle.sched_text.proofs.Cuts.{last_field, next_field}
use Rattle.sched_text.proofs.fields.fields.Goals as goal

pub returns-in-None : goal.returns-in-None
unfolding fields_of
returns-in-None c = last_field (λ x. x.now) c.loop.fields.items c.push.new.self.items c.cut.result.0 c.loop.counter 10 c.loop.rest.now _ c.loop-test.true c.in_ok-push.ensures.items (search rules) c.loop.invariant

pub loop-preserved : goal.loop-preserved
loop-preserved c = next_field (λ x. x.now) c.loop.fields.items c.push.new.self.items c.cut.result.0 c.loop.counter 10 c.loop.rest.now _ c.in-Some.after.now c.loop-test.true c.in_ok-push.ensures.items (search rules) c.loop.invariant
