-- The law is proved for the whole language.
use Rattle.ext_mean.proofs.LawsProved.{greater-budgets}
use Rattle.ext_mean.proofs.laws.greater_budgets_mean_the_same.Goals as goal

pub returns : goal.returns
returns c = greater-budgets
