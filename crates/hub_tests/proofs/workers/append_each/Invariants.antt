use Rattle.hub_tests.specs.Ready.{IsReady}
use Rattle.hub_tests.proofs.workers.append_each.Given as goal

abbrev pub invariant-loop-number : goal.invariant-loop-number
invariant-loop-number g l = IsReady l.fn.hub l.pass
