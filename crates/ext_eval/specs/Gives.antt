-- What a function of the evaluator does, as a step of the meaning.
use Rattle.std.specs.Prelude.{◌≡◌, Result, Ok, Err}
use Rattle.ext_mean.specs.declared.state.State.{State}
use Rattle.ext_mean.specs.Work.{Step, Next, Ends}
use Rattle.ext_eval.specs.declared.halt.Halt.{Halt}
use Rattle.ext_eval.specs.declared.halt.Halt.TheVariants.{Memory, Ended}

-- the result and the state that was left are those of the step, unless there was no memory
abbrev pub Gives : {A : Type 0} → Result A Halt → State → Step A → Type 0
Gives (Ok value) state step = step ≡ Next value state
Gives (Err Memory) state step = Unit {0}
Gives (Err (Ended run)) state step = step ≡ Ends run
