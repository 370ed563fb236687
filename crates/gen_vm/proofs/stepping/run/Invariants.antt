use Rattle.std.proofs.Common.{◌≤◌}
use Rattle.gen_code.specs.Machine.{Going, most_turns, steps}
use Rattle.gen_vm.specs.Going.{IsOver, Path, turns_left}
use Rattle.gen_vm.specs.Places.{here_of, world_of}
use Rattle.gen_vm.proofs.stepping.run.Given as goal

abbrev pub invariant-turns : goal.invariant-turns
invariant-turns l = record {
  path : Path l.code (world_of l.world) (here_of l.initial.here) (here_of l.here);
  over : IsOver (steps l.code (world_of l.world) (most_turns l.code l.world.limit) (Going (here_of l.here)));
  grows : l.initial.here.used ≤ l.here.used;
  within : l.initial.here.used ≤ l.world.limit → l.here.used ≤ l.world.limit;
}

abbrev pub decreases-turns : goal.decreases-turns
decreases-turns l = turns_left l.code (world_of l.world) (most_turns l.code l.world.limit) (Going (here_of l.here))
