-- What the calls that are left lead to is what all lead to.
use Rattle.std.proofs.Common.{◌≡◌, length}
use Rattle.client_core.specs.Talking.{carries}
use Rattle.client_core.proofs.known.Known.carry_on.Given as goal

abbrev pub invariant-loop-call : goal.invariant-loop-call
invariant-loop-call l = carries l.self l.answered l.later ≡ carries l.self l.fn.answered l.fn.later

abbrev pub decreases-loop-call : goal.decreases-loop-call
decreases-loop-call l = length l.later
