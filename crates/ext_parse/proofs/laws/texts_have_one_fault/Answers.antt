use Rattle.ext_parse.proofs.OneFault.{one-fault}
use Rattle.ext_parse.proofs.laws.texts_have_one_fault.Goals as goal

pub returns : goal.returns
returns c = one-fault
