-- what the variables still to come answer is the answer for all
use Rattle.std.proofs.Common.{◌≡◌, drop}
use Rattle.ext_mean.specs.Origins.{variable_named}
use Rattle.ext_borrow.proofs.origins.variable_named.Given as goal

abbrev pub invariant-loop-variable : goal.invariant-loop-variable
invariant-loop-variable l = variable_named l.name (drop l.variable-index l.scope) ≡ variable_named l.name l.scope
