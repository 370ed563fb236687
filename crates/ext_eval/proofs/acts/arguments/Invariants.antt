-- the values so far, and those of the arguments still to come, are those of all
use Rattle.std.proofs.Common.{◌≡◌, ◌++◌, drop, map}
use Rattle.ext_mean.specs.Work.{after, give, in_order}
use Rattle.ext_mean.specs.MeaningExpressions.{evaluate}
use Rattle.ext_eval.specs.Worlds.{world_of}
use Rattle.ext_eval.proofs.acts.arguments.Given as goal

abbrev pub invariant-loop-arg : goal.invariant-loop-arg
invariant-loop-arg l =
    after (in_order (map (evaluate (world_of l.world)) (drop l.arg-index l.args)) l.state) (λ rest. give (l.values ++ rest))
    ≡ in_order (map (evaluate (world_of l.world)) l.fn.args) l.fn.state
