use Rattle.ext_grammar.proofs.AgreementProved.{accepted-are-programs}
use Rattle.ext_grammar.proofs.laws.accepted_are_programs.Goals as goal

pub returns : goal.returns
returns c = accepted-are-programs
