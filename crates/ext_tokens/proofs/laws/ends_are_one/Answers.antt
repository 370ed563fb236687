-- The law is proved for all texts.
use Rattle.ext_tokens.proofs.ReadingsAreOne.{ends-one}
use Rattle.ext_tokens.proofs.laws.ends_are_one.Goals as goal

pub returns : goal.returns
returns c = ends-one
