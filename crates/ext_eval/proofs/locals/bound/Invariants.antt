-- the parameters so far, and those still to come, are all
use Rattle.std.proofs.Common.{◌≡◌, ◌++◌, drop}
use Rattle.ext_mean.specs.MeaningValues.{bound}
use Rattle.ext_eval.proofs.locals.bound.Given as goal

abbrev pub invariant-loop-at : goal.invariant-loop-at
invariant-loop-at l = l.locals ++ bound (drop l.at l.params) (drop l.at l.values) ≡ bound l.fn.params l.fn.values
