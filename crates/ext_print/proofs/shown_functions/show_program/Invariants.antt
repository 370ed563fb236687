-- The tokens so far and those that are left are all.
use Rattle.std.proofs.Common.{◌≡◌, ◌++◌, drop}
use Rattle.std.specs.List.{flat_map}
use Rattle.ext_mean.specs.Canonical.{function_shown}
use Rattle.ext_print.proofs.shown_functions.show_program.Given as goal

abbrev pub invariant-loop-function : goal.invariant-loop-function
invariant-loop-function l =
    l.tokens ++ flat_map function_shown (drop l.function-index l.function-items)
    ≡ l.fn.tokens ++ flat_map function_shown l.function-items
