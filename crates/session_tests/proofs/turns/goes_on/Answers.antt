-- The other session may be driven on, whatever the one at the bench hears.
use Rattle.session_tests.proofs.turns.goes_on.Goals as goal

pub returns-in_err-ended-clause-other : goal.returns-in_err-ended-clause-other
returns-in_err-ended-clause-other g c = c.exchange.ensures.others c.args.other.now c.requires.other

pub returns-then-ended-clause-other : goal.returns-then-ended-clause-other
returns-then-ended-clause-other g c = c.exchange.ensures.others c.args.other.now c.requires.other

pub returns-clause-other : goal.returns-clause-other
returns-clause-other g c = c.exchange.ensures.others c.args.other.now c.requires.other
