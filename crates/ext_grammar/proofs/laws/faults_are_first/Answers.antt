use Rattle.ext_grammar.proofs.AgreementProved.{faults-are-first}
use Rattle.ext_grammar.proofs.laws.faults_are_first.Goals as goal

pub returns : goal.returns
returns c = faults-are-first
