-- The tokens so far and those that are left are all.
use Rattle.std.proofs.Common.{◌≡◌, ◌++◌, drop}
use Rattle.ext_mean.specs.Canonical.{parameters_behind}
use Rattle.ext_print.proofs.shown_functions.show_listed_parameters.Given as goal

abbrev pub invariant-loop-param : goal.invariant-loop-param
invariant-loop-param l =
    l.tokens ++ parameters_behind (drop l.param-index l.params) ≡ l.fn.tokens ++ parameters_behind l.params
