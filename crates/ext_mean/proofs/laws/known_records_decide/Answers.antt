-- The law is proved for the whole language.
use Rattle.ext_mean.proofs.LawsProved.{known-records}
use Rattle.ext_mean.proofs.laws.known_records_decide.Goals as goal

pub returns : goal.returns
returns c = known-records
