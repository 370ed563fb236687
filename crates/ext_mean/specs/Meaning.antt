-- What an extension means: the work of its last function on its arguments, its budget and its view.
use Rattle.std.specs.Prelude.{ℕ, zero, suc, List, [], length, Option, Some, None, unwrap_or, slice_get, Bool, false, if◌then◌else◌}
use Rattle.std.specs.Str.{bytes_eq}
use Rattle.ext_mean.specs.declared.tree.Program.{Program}
use Rattle.ext_mean.specs.declared.tree.Function.{Function}
use Rattle.ext_mean.specs.declared.run.Run.{Run}
use Rattle.ext_mean.specs.declared.run.Run.TheVariants.{Done}
use Rattle.ext_mean.specs.declared.state.State.{State}
use Rattle.ext_mean.specs.declared.state.Value.{Value}
use Rattle.ext_mean.specs.Views.{View}
use Rattle.ext_mean.specs.Work.{World, Step, Next, Ends, Work, ◌>>=◌, give, look, become}
use Rattle.ext_mean.specs.MeaningValues.{nothing, number_of, bound}
use Rattle.ext_mean.specs.MeaningStatements.{Calls, run_block}

-- a called function's block runs with its parameters as the only variables, and then the caller's
-- variables are in scope again
abbrev pub called : World → Calls → Function → List Value → Work Value
called world calls function values = do
  caller ← look
  _ ← become (record caller { locals = bound function.params values })
  result ← run_block world calls function.body
  callee ← look
  _ ← become (record callee { locals = caller.locals })
  give (unwrap_or result nothing)

-- whether a function has this name
abbrev pub is_named : List ℕ → Option Function → Bool
is_named name (Some function) = bytes_eq function.name name
is_named name None = false

-- the work of the function with a number, if there is one, that may make these calls
abbrev pub run_function : World → Calls → Option Function → List Value → Work Value
run_function world calls (Some function) values = called world calls function values
run_function world calls None values = give nothing

-- The calls that only the first `count` functions answer: the last of them that has the name, which
-- itself may call those before it. A name that none of them has means nothing.
abbrev pub call_below : World → List Function → ℕ → Calls
call_below world functions zero name values = give nothing
call_below world functions (suc count) name values =
    if is_named name (slice_get functions count)
    then run_function world (call_below world functions count) (slice_get functions count) values
    else call_below world functions count name values

-- the last of `count` functions, which is `main`
abbrev pub main_of : World → List Function → ℕ → Work Value
main_of world functions zero = give nothing
main_of world functions (suc count) =
    run_function world (call_below world functions count) (slice_get functions count) []

-- a run begins with nothing used, an empty reply, no changes and no variables
abbrev pub start : State
start = record { used = 0; reply = []; writes = []; locals = [] }

-- the value of `main` is the reply's code
abbrev pub ended : Step Value → Run
ended (Next result state) =
    Done (record { code = number_of result; bytes = state.reply }) state.writes state.used
ended (Ends run) = run

-- the meaning of a program with these arguments and this budget, on a view
unfoldable pub mean : Program → List ℕ → ℕ → View → Run
mean program args budget view =
    let world : World = record { args = args; budget = budget; view = view } in
    ended (main_of world program.functions (length program.functions) start)
