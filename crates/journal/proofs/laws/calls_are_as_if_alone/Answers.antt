-- The law is proved for every legal journal.
use Rattle.journal.proofs.AloneProved.{as-if-alone}
use Rattle.journal.proofs.laws.calls_are_as_if_alone.Goals as goal

pub returns : goal.returns
returns c = as-if-alone
