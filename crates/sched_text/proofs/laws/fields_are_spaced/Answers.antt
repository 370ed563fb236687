use Rattle.sched_text.proofs.Spaces.{fields_are_spaced}
use Rattle.sched_text.proofs.laws.fields_are_spaced.Goals as goal

pub returns : goal.returns
returns c = fields_are_spaced
