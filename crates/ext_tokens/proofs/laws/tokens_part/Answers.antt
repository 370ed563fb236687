-- The law is proved for all texts.
use Rattle.ext_tokens.proofs.Readings.{tokens-part}
use Rattle.ext_tokens.proofs.laws.tokens_part.Goals as goal

pub returns : goal.returns
returns c = tokens-part
