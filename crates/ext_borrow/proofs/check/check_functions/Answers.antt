use Rattle.std.proofs.Common.{◌≡◌, ◌+◌, drop, sym, ◌∙◌}
use Rattle.ext_mean.specs.Ownership.{owned_function, owned_functions}
use Rattle.ext_mean.specs.Progress.{after}
use Rattle.ext_mean.proofs.ProgressLemmas.{after-append}
use Rattle.ext_borrow.proofs.PassLemmas.{drop-item}
use Rattle.ext_borrow.proofs.check.check_functions.Goals as goal

pub loop-function-preserved : goal.loop-function-preserved
loop-function-preserved c =
    let functions = c.args.functions.now in
    let at = c.loop-function.function-index in
    let function = c.function-item.result in
    let d = drop-item functions at function c.loop-function-test.true c.function-item.is in
    let step : after c.in_ok-progress.progress (owned_functions (drop (at + 1) functions)) ≡ after c.loop-function.progress (owned_functions (drop at functions)) =
    rw (d, c.in_ok-progress.ensures) (sym (after-append c.loop-function.progress (owned_function function) (owned_functions (drop (at + 1) functions)))) in
    step ∙ c.loop-function.invariant
