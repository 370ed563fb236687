use Rattle.std.proofs.Common.{◌≡◌, ◌+◌, ◌==◌, ◌∷◌, length, take, drop, sym, ◌∙◌}
use Rattle.ext_mean.specs.Typing.{block_codes, function_codes, head_code, setting_of}
use Rattle.ext_mean.specs.Progress.{after}
use Rattle.ext_mean.proofs.ProgressLemmas.{after-append}
use Rattle.ext_types.proofs.WalkLemmas.{drop-item}
use Rattle.ext_types.proofs.check.check_functions.Goals as goal

pub loop-at-preserved : goal.loop-at-preserved
loop-at-preserved c =
    let functions = c.args.functions.now in
    let at = c.loop-at.at in
    let function = c.index-functions-at.result in
    let d = drop-item functions at function c.loop-at-test.true c.index-functions-at.is in
    let own = head_code (take at functions) (at + 1 == length functions) function ∷ block_codes (setting_of functions at function) function.body function.params in
    let step : after c.check_function.new.progress (function_codes functions (at + 1) (drop (at + 1) functions)) ≡ after c.loop-at.progress (function_codes functions at (drop at functions)) =
    rw (d, c.in_ok-check_function.ensures) (sym (after-append c.loop-at.progress own (function_codes functions (at + 1) (drop (at + 1) functions)))) in
    step ∙ c.loop-at.invariant
