-- What is left of a block, a loop or the pieces of keys means what all of it means; and each call is
-- of something less deep, or of functions before.
use Rattle.std.proofs.Common.{◌≡◌, ◌+◌, ◌-◌, ◌*◌, length, map, drop, max}
use Rattle.ext_mean.specs.declared.statement.Statement.{size-Statement}
use Rattle.ext_mean.specs.declared.statement.Block.{size-Block}
use Rattle.ext_mean.specs.MeaningValues.{pieces}
use Rattle.ext_mean.specs.MeaningExpressions.{evaluate}
use Rattle.ext_mean.specs.MeaningStatements.{execute, one_by_one, run_block, turns}
use Rattle.ext_eval.specs.Arms.{arms_of}
use Rattle.ext_eval.specs.Blocks.{gets_piece}
use Rattle.ext_eval.specs.Worlds.{calls_of, world_of}
use Rattle.ext_eval.proofs.CallLemmas.{weight}
use Rattle.ext_eval.proofs.statements.+run.Given as goal

abbrev pub invariant-run_statements-loop-statement : goal.invariant-run_statements-loop-statement
invariant-run_statements-loop-statement l =
    one_by_one (map (execute (world_of l.world) (calls_of l.world)) (drop l.statement-index l.statements)) l.state
    ≡ one_by_one (map (execute (world_of l.world) (calls_of l.world)) l.fn.statements) l.fn.state

abbrev pub invariant-repeat-loop-turn : goal.invariant-repeat-loop-turn
invariant-repeat-loop-turn l =
    let world = world_of l.world in
    let body = run_block world (calls_of l.world) l.body in
    turns world (world.budget - l._turn) (evaluate world l.test) body l.state
    ≡ turns world world.budget (evaluate world l.test) body l.fn.state

abbrev pub invariant-run_pieces-loop-piece : goal.invariant-run_pieces-loop-piece
invariant-run_pieces-loop-piece l = record {
  left : length l.rest ≡ (l._piece-end - l._piece) * l.width;
  goes : one_by_one (map (gets_piece (world_of l.world) l.table (arms_of l.world l.arms)) (pieces (l._piece-end - l._piece) l.width l.rest)) l.state
      ≡ one_by_one (map (gets_piece (world_of l.world) l.table (arms_of l.world l.arms)) (pieces l._piece-end l.width l.fn.keys)) l.fn.state;
}

abbrev pub decreases-execute : goal.decreases-execute
decreases-execute l = weight l.world.now.functions.now l.world.now.below + (8 * size-Statement l.statement.now + 3)

abbrev pub decreases-run_statements : goal.decreases-run_statements
decreases-run_statements l = weight l.world.now.functions.now l.world.now.below + (8 * goal.size-run_statements l + 4)

abbrev pub decreases-run_block : goal.decreases-run_block
decreases-run_block l = weight l.world.now.functions.now l.world.now.below + (8 * size-Block l.block.now + 4)

abbrev pub decreases-run_arm : goal.decreases-run_arm
decreases-run_arm l = weight l.world.now.functions.now l.world.now.below + (8 * max (size-Block l.arms.now.yes.now) (size-Block l.arms.now.no.now) + 5)

abbrev pub decreases-run_pieces : goal.decreases-run_pieces
decreases-run_pieces l = weight l.world.now.functions.now l.world.now.below + (8 * max (size-Block l.arms.now.yes.now) (size-Block l.arms.now.no.now) + 6)

abbrev pub decreases-run_multiget : goal.decreases-run_multiget
decreases-run_multiget l = weight l.world.now.functions.now l.world.now.below + (8 * max (size-Block l.arms.now.yes.now) (size-Block l.arms.now.no.now) + 7)

abbrev pub decreases-run_get : goal.decreases-run_get
decreases-run_get l = weight l.world.now.functions.now l.world.now.below + (8 * max (size-Block l.arms.now.yes.now) (size-Block l.arms.now.no.now) + 6)

abbrev pub decreases-run_branch : goal.decreases-run_branch
decreases-run_branch l = weight l.world.now.functions.now l.world.now.below + (8 * max (size-Block l.yes.now) (size-Block l.no.now) + 5)

abbrev pub decreases-repeat : goal.decreases-repeat
decreases-repeat l = weight l.world.now.functions.now l.world.now.below + (8 * size-Block l.body.now + 5)

abbrev pub decreases-run_call : goal.decreases-run_call
decreases-run_call l = weight l.world.now.functions.now l.world.now.below + 2

abbrev pub decreases-call_below : goal.decreases-call_below
decreases-call_below l = weight l.world.now.functions.now l.below + 1

abbrev pub decreases-called : goal.decreases-called
decreases-called l = weight l.world.now.functions.now l.world.now.below + (8 * size-Block l.function.now.body + 5)
