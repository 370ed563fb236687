-- Before each turn the task is ready.
use Rattle.std.proofs.Common.{◌≡◌}
use Rattle.task.specs.declared.phase.Phase.TheVariants.{Ready}
use Rattle.task_tests.proofs.turns.run.Given as goal

abbrev pub invariant-loop-turn : goal.invariant-loop-turn
invariant-loop-turn g l = (g.B.Body.live l.task).phase ≡ Ready
