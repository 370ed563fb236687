-- What the block of a function has before it, as the meaning sees it.
use Rattle.ext_mean.specs.Views.{part}
use Rattle.ext_mean.specs.Work as work
use Rattle.ext_mean.specs.MeaningStatements.{Calls}
use Rattle.ext_mean.specs.Meaning.{call_below}
use Rattle.ext_eval.specs.declared.world.World.{World}

-- the view is the one that knows these reads, with these rights
abbrev pub world_of : World → work.World
world_of world = record {
  args = world.args.now;
  budget = world.budget;
  view = part world.reads.now world.rights.now;
}

-- the calls that may be made
abbrev pub calls_of : World → Calls
calls_of world = call_below (world_of world) world.functions.now world.below
