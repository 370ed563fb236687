-- what the variables still to come answer is the answer for all
use Rattle.std.proofs.Common.{◌≡◌, drop}
use Rattle.ext_mean.specs.Types.{kind_of}
use Rattle.gen_compile.proofs.names.kind_of.Given as goal

abbrev pub invariant-loop-variable : goal.invariant-loop-variable
invariant-loop-variable l = kind_of (drop l.variable-index l.scope) l.name ≡ kind_of l.scope l.name
