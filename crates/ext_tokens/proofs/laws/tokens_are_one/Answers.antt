-- The law is proved for all texts.
use Rattle.ext_tokens.proofs.Readings.{tokens-one}
use Rattle.ext_tokens.proofs.laws.tokens_are_one.Goals as goal

pub returns : goal.returns
returns c = tokens-one
