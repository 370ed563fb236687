-- The arms of a read.
use Rattle.std.specs.Prelude.{ℕ, List, Option}
use Rattle.ext_mean.specs.MeaningStatements.{Course, arm, run_block}
use Rattle.ext_eval.specs.declared.world.World.{World}
use Rattle.ext_eval.specs.declared.arms.Arms.{Arms}
use Rattle.ext_eval.specs.Worlds.{world_of, calls_of}

-- the arm that runs for a record that was found, or for none
abbrev pub arms_of : World → Arms → Option (List ℕ) → Course
arms_of world arms =
    arm arms.some.now
    (run_block (world_of world) (calls_of world) arms.yes.now)
    (run_block (world_of world) (calls_of world) arms.no.now)
