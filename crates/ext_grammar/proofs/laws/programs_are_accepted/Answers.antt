use Rattle.ext_grammar.proofs.AgreementProved.{programs-are-accepted}
use Rattle.ext_grammar.proofs.laws.programs_are_accepted.Goals as goal

pub returns : goal.returns
returns c = programs-are-accepted
