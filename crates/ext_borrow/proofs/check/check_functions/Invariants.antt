-- the functions that are left lead to where all of them do
use Rattle.std.proofs.Common.{◌≡◌, drop}
use Rattle.ext_mean.specs.Ownership.{owned_functions}
use Rattle.ext_mean.specs.Progress.{after, start}
use Rattle.ext_borrow.proofs.check.check_functions.Given as goal

abbrev pub invariant-loop-function : goal.invariant-loop-function
invariant-loop-function l = after l.progress (owned_functions (drop l.function-index l.functions)) ≡ after start (owned_functions l.functions)
