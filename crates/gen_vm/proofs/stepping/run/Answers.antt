use Rattle.std.proofs.Common.{arith}
use Rattle.gen_code.specs.Machine.{most_turns}
use Rattle.gen_vm.specs.Going.{stays, turns}
use Rattle.gen_vm.specs.Places.{here_of, world_of}
use Rattle.gen_vm.proofs.GoingLemmas.{fewer-left, over-next}
use Rattle.gen_vm.proofs.stepping.run.Goals as goal

pub turns-init : goal.turns-init
turns-init c = record { path = stays; over = c.requires; grows = omega arith; within = λ h. h }

pub turns-smaller : goal.turns-smaller
turns-smaller c =
    fewer-left c.args.code.now (world_of c.args.world.now) (most_turns c.args.code.now c.args.world.now.limit)
    (here_of c.turns.here) (here_of c.step.new.self) c.turns.invariant.over c.in_default.ensures.turn

pub turns-preserved : goal.turns-preserved
turns-preserved c = record {
  path = turns (here_of c.turns.here) (here_of c.step.new.self) c.turns.invariant.path c.in_default.ensures.turn c.step.ensures.used.grows;
  over = over-next c.args.code.now (world_of c.args.world.now) (most_turns c.args.code.now c.args.world.now.limit)
      (here_of c.turns.here) (here_of c.step.new.self) c.turns.invariant.over c.in_default.ensures.turn;
  grows = (let more = c.step.ensures.used.grows in omega arith);
  within = λ h. c.step.ensures.used.within (c.turns.invariant.within h);
}
