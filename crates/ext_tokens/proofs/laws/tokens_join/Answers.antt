-- The law is proved for all texts.
use Rattle.ext_tokens.proofs.Readings.{tokens-join}
use Rattle.ext_tokens.proofs.laws.tokens_join.Goals as goal

pub returns : goal.returns
returns c = tokens-join
