-- A session that ends keeps its tenant, its parked calls and what it has seen.
use Rattle.session.proofs.session.Session.end.Goals as goal

pub returns-clause-stands : goal.returns-clause-stands
returns-clause-stands c = λ state stands. record { tenant = stands.tenant; seen = stands.seen; map = stands.map; kept = stands.kept }

pub returns-clause-fits : goal.returns-clause-fits
returns-clause-fits c = λ journal grants fits.
    record { rights = fits.rights; seen = fits.seen; each = fits.each; few = fits.few; parked = fits.parked }
