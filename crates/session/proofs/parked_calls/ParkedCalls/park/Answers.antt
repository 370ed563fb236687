-- A call of a caller that has none.
use Rattle.session.proofs.Keeping.{parks}
use Rattle.session.proofs.parked_calls.ParkedCalls.park.Goals as goal

pub invariant_of-self-2 : goal.invariant_of-self-2
invariant_of-self-2 c =
    (parks c.self.inside.calls.items c.as_slice.result.now c.push.new.self.items c.args.parked c.call.result.now c.self.invariant
    c.as_slice.ensures.value c.call.ensures c.in-None.ensures.none c.in_ok-push.ensures.items).1

pub returns-clause-each : goal.returns-clause-each
returns-clause-each c =
    (parks c.self.inside.calls.items c.as_slice.result.now c.push.new.self.items c.args.parked c.call.result.now c.self.invariant
    c.as_slice.ensures.value c.call.ensures c.in-None.ensures.none c.in_ok-push.ensures.items).1
