-- The law is proved for every sound journal.
use Rattle.book.proofs.Soundness.{sound-legal}
use Rattle.book.proofs.laws.audited_is_legal.Goals as goal

pub returns : goal.returns
returns c grants limit journal sound = sound-legal sound
