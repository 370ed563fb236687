-- what the functions still to come answer is the answer for all
use Rattle.std.proofs.Common.{◌≡◌, drop}
use Rattle.ext_mean.specs.TypesOfItems.{function_named}
use Rattle.ext_types.proofs.functions.is_new.Given as goal

abbrev pub invariant-loop-function : goal.invariant-loop-function
invariant-loop-function l = function_named l.name (drop l.function-index l.functions) ≡ function_named l.name l.functions
