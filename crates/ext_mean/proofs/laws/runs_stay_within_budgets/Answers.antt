-- The law is proved for the whole language.
use Rattle.ext_mean.proofs.WantsProved.{stay-within}
use Rattle.ext_mean.proofs.laws.runs_stay_within_budgets.Goals as goal

pub returns : goal.returns
returns c = stay-within
