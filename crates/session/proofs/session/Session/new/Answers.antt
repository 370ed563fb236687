-- A new session has no tenant, no parked call and has seen nothing.
use Rattle.std.proofs.Common.{◌≤◌, List, [], length, refl, sym, subst, arith}
use Rattle.sp_base.specs.declared.limits.TheConstants.{MOST_PARKED}
use Rattle.task.specs.Parking.{ParkedCall}
use Rattle.session.specs.Keeping.{IsOfEach}
use Rattle.session.specs.Standing.{AreKept}
use Rattle.session.proofs.session.Session.new.Goals as goal

pub returns-clause-stands : goal.returns-clause-stands
returns-clause-stands c = record {
  tenant = refl;
  seen = refl;
  map = tt;
  kept = subst (λ (calls : List ParkedCall). AreKept calls []) (sym c.new.ensures) (λ caller. tt);
}

pub returns-clause-fits : goal.returns-clause-fits
returns-clause-fits c = λ journal grants. record {
  rights = tt;
  seen = omega arith;
  each = subst IsOfEach (sym c.new.ensures) tt;
  few = subst (λ (calls : List ParkedCall). length calls ≤ MOST_PARKED) (sym c.new.ensures) (omega arith);
  parked = c.new.ensures;
}
