-- The caller has its number, and every other caller what it had.
use Rattle.clients.proofs.callers.Callers.add.Goals as goal

pub returns-clause-ok : goal.returns-clause-ok
returns-clause-ok c = λ other. c.in_ok-insert.ensures.updates.0 (other.tenant.0, other.number)
