-- What is seen is that of each state for which the session stands.
use Rattle.std.proofs.Common.{sym}
use Rattle.session.proofs.session.Session.seen.Goals as goal

pub returns : goal.returns
returns c = λ state stands. sym stands.seen
