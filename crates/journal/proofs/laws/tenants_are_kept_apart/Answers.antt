-- The law is proved for every program and all tables.
use Rattle.journal.proofs.AloneProved.{kept-apart}
use Rattle.journal.proofs.laws.tenants_are_kept_apart.Goals as goal

pub returns : goal.returns
returns c = kept-apart
