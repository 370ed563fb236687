use Rattle.ext_parse.proofs.OneFault.{faulty-spells-none}
use Rattle.ext_parse.proofs.laws.faulty_texts_spell_none.Goals as goal

pub returns : goal.returns
returns c = faulty-spells-none
