-- The law is proved for all texts.
use Rattle.ext_tokens.proofs.ReadingsAreOne.{none-follows}
use Rattle.ext_tokens.proofs.laws.no_token_follows.Goals as goal

pub returns : goal.returns
returns c = none-follows
