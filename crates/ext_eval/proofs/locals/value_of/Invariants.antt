-- what the variables still to come answer is the answer for all
use Rattle.std.proofs.Common.{◌≡◌, drop}
use Rattle.ext_mean.specs.MeaningValues.{value_of}
use Rattle.ext_eval.proofs.locals.value_of.Given as goal

abbrev pub invariant-loop-local : goal.invariant-loop-local
invariant-loop-local l = value_of l.name (drop l.local-index l.locals) ≡ value_of l.fn.name l.fn.locals
