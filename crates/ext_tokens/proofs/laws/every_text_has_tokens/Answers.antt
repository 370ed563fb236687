-- The law is proved for all texts.
use Rattle.ext_tokens.proofs.Scans.{every-scan}
use Rattle.ext_tokens.proofs.laws.every_text_has_tokens.Goals as goal

pub returns : goal.returns
returns c = every-scan
