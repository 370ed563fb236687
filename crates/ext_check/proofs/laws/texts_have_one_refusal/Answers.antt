use Rattle.ext_check.proofs.OneRefusal.{one-refusal}
use Rattle.ext_check.proofs.laws.texts_have_one_refusal.Goals as goal

pub returns : goal.returns
returns c = one-refusal
