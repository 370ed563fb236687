-- the functions that are left lead to where all of them do
use Rattle.std.proofs.Common.{◌≡◌, drop}
use Rattle.ext_mean.specs.Typing.{function_codes}
use Rattle.ext_mean.specs.Progress.{after, start}
use Rattle.ext_types.proofs.check.check_functions.Given as goal

abbrev pub invariant-loop-at : goal.invariant-loop-at
invariant-loop-at l = after l.progress (function_codes l.functions l.at (drop l.at l.functions)) ≡ after start (function_codes l.functions 0 l.functions)
