-- Loops: the bound on their turns is none.
use Rattle.std.specs.Prelude.{◌≡◌, ℕ, List, None}
use Rattle.ext_mean.specs.declared.expr.Expr.{Expr}
use Rattle.ext_mean.specs.declared.state.State.{State}
use Rattle.ext_mean.specs.declared.state.Value.{Value}
use Rattle.ext_mean.specs.declared.statement.Block.{Block}
use Rattle.ext_mean.specs.declared.tree.Function.{Function}
use Rattle.ext_mean.specs.Work.{World, Work, ◌>>=◌, give, charge}
use Rattle.ext_mean.specs.MeaningExpressions.{evaluate}
use Rattle.ext_mean.specs.MeaningStatements.{Course, behind, branch, run_block, turns}
use Rattle.ext_mean.specs.Meaning.{call_below}

-- a unit, the test, and where it is true the body and the loop again
abbrev pub turn : World → Work Value → Course → Course → Course
turn world test body loop = do
  _ ← charge world 1
  truth ← test
  branch (body >>= behind loop) (give None) truth

-- a loop is one turn with the loop behind it
abbrev pub LoopsUnroll : Type 0
LoopsUnroll =
    (world : World) (functions : List Function) (count : ℕ) (test : Expr) (block : Block) (state : State)
    → let body = run_block world (call_below world functions count) block in
    let loop = turns world world.budget (evaluate world test) body in
    loop state ≡ turn world (evaluate world test) body loop state
