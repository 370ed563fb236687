-- The tokens so far and those that are left are all.
use Rattle.std.proofs.Common.{◌≡◌, ◌++◌, drop}
use Rattle.ext_mean.specs.Canonical.{listed_behind}
use Rattle.ext_print.proofs.shown_plain.show_listed.Given as goal

abbrev pub invariant-loop-arg : goal.invariant-loop-arg
invariant-loop-arg l =
    l.tokens ++ listed_behind (drop l.arg-index l.args) ≡ l.fn.tokens ++ listed_behind l.args
