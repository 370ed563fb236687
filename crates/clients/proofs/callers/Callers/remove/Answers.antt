-- The caller has no number, and every other caller what it had.
use Rattle.clients.proofs.callers.Callers.remove.Goals as goal

pub returns : goal.returns
returns c = λ other. c.remove.ensures.updates.0 (other.tenant.0, other.number)
