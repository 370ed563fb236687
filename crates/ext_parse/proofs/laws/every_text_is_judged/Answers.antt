-- The law is proved for all texts.
use Rattle.ext_parse.proofs.Judged.{every-judged}
use Rattle.ext_parse.proofs.laws.every_text_is_judged.Goals as goal

pub returns : goal.returns
returns c = every-judged
