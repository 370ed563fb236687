use Rattle.std.proofs.Common.{◌≡◌, ◌+◌, ◌-◌, List, [], length, Some, refl, ap, sym, ◌∙◌, arith}
use Rattle.std.specs.Prelude.{slice_get}
use Rattle.ext_mean.specs.declared.state.Value.{Value}
use Rattle.ext_eval.specs.Worlds.{world_of}
use Rattle.ext_eval.proofs.CallLemmas.{callee, main_of-last}
use Rattle.ext_eval.proofs.StepLemmas.{gives-along}
use Rattle.ext_eval.proofs.evaluating.run_main.Goals as goal

pub returns-in-Some : goal.returns-in-Some
returns-in-Some c =
    let world = world_of c.args.world.now in
    let functions = c.args.world.now.functions.now in
    let last = length functions - 1 in
    let function = c.in-Some.main.now in
    let found : slice_get functions last ≡ Some function = sym c.at-main.ensures ∙ rw c.in-Some.is refl in
    let count : length functions ≡ last + 1 = omega arith in
    let none : List Value = [] in
    gives-along c.called.result c.called.new.state _ _ c.called.ensures
    (main_of-last world functions (length functions) last c.args.state.now count
    ∙ callee world (world_of c.of_callee-callee.result) functions c.of_callee-callee.result.functions.now last c.of_callee-callee.result.below function _ none c.args.state.now
    c.of_callee-callee.ensures.world (ap (λ z. z.now) c.of_callee-callee.ensures.functions) c.of_callee-callee.ensures.below found)
