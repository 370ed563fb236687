-- The meaning of a block is that of its statements.
use Rattle.std.proofs.Common.{◌≡◌, map, ap}
use Rattle.ext_mean.specs.declared.state.State.{State}
use Rattle.ext_mean.specs.declared.statement.Block.{Block}
use Rattle.ext_mean.specs.declared.statement.Statement.TheFolds.{fold_out-Block}
use Rattle.ext_mean.specs.Work.{World}
use Rattle.ext_mean.specs.MeaningStatements.{Calls, Course, execute, run_block, statement_step, block_step, scoped, one_by_one}

pub run_block-of : (world : World) (calls : Calls) (block : Block) (state : State) → run_block world calls block state ≡ scoped (one_by_one (map (execute world calls) block.items)) state
unfolding execute run_block
run_block-of world calls block state = ap (λ (course : Course). course state) (fold_out-Block Course Course (statement_step world calls) block_step block)

pub ruleset blocks = (run_block-of)
