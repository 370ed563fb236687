use Rattle.ext_grammar.proofs.Passed.{passed-have-no-code}
use Rattle.ext_grammar.proofs.laws.passed_have_no_code.Goals as goal

pub returns : goal.returns
returns c = passed-have-no-code
