-- Each part stays by itself.
use Rattle.session.proofs.Longer.{item-longer}
use Rattle.session.proofs.LongerSteps.{asks-longer, fits-longer, step-longer, waits-longer}
use Rattle.session.proofs.laws.longer_journals_explain_as_much.Goals as goal

pub returns : goal.returns
returns c = record { items = item-longer; steps = step-longer; fits = fits-longer; asks = asks-longer; waits = waits-longer }
