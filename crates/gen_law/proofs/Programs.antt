-- The machine follows the whole program, from its beginning to its end.
use Rattle.std.proofs.Common.{◌≡◌, ℕ, zero, suc, ◌+◌, ◌-◌, ◌≤◌, Bool, true, false, List, [], ◌∷◌, ◌++◌, length, take, Some, None, refl, sym, ap, ◌∙◌, subst, arith, if◌then◌else◌, slice_get, unwrap_or, mul-add, mul-one, mul-le-mul_left}
use Rattle.std.specs.Str.{bytes_eq}
use Rattle.std.proofs.lemmas.Slice.Eq.{bytes_eq-Decides}
use Rattle.ext_mean.specs.declared.run.Run.{Run}
use Rattle.ext_mean.specs.declared.state.Value.{Value}
use Rattle.ext_mean.specs.declared.tree.Function.{Function}
use Rattle.ext_mean.specs.Meaning as meaning
use Rattle.ext_mean.specs.Meaning.{mean, main_of, call_below, is_named, run_function, ended}
use Rattle.ext_mean.specs.TypesOfItems.{function_named}
use Rattle.ext_mean.specs.Typing as typing
use Rattle.ext_mean.specs.Typing.{IsTyped, type_codes}
use Rattle.ext_mean.specs.declared.tree.Program.{Program}
use Rattle.ext_mean.specs.Views.{View}
use Rattle.ext_mean.specs.Work.{World, Step, Next, Ends, Work}
use Rattle.gen_code.specs.declared.code.CodeFn.{CodeFn}
use Rattle.gen_code.specs.Codes as codes
use Rattle.gen_code.specs.Codes.{code_of, number_below, function_code}
use Rattle.gen_code.specs.Machine.{Progress, Going, Over, begin, most_turns, nowhere, function_at, size_of, steps}
use Rattle.gen_law.specs.Law.{CodeMeansTheSame}
use Rattle.gen_law.proofs.Following.{Machine, Follow, steps-add, steps-over}
use Rattle.gen_law.proofs.Calls.{IsCalled, Kept, backed, entering}
use Rattle.gen_law.proofs.Functions as functions_follow
use Rattle.gen_law.proofs.Functions.{HasFunction}
use Rattle.gen_law.proofs.Named.{some-at, take-next, named-behind, named-before, IsClean, clean-at, IsCoded, coded-at, codes-length, new-name, main-plain}
use Rattle.gen_law.proofs.Trees as trees
use Rattle.gen_law.proofs.TypedCalls.{NoFault, typed-faultless}

-- the machine with the code of some functions
abbrev machine_of : List Function → World → Machine
machine_of functions world =
    let all : List CodeFn = codes.function_codes functions 0 functions in
    record { code = record { functions = all }; world = world; cost = size_of all + 3; some = omega arith }

module _ (functions : List Function) (world : World) (clean : NoFault (typing.function_codes functions 0 functions)) where
  abbrev m : Machine
  m = machine_of functions world

  clean-function : (number : ℕ) (function : Function) → slice_get functions number ≡ Some function → IsClean functions number function
  clean-function number function is = subst (λ n. IsClean functions n function) (omega arith) (clean-at functions 0 functions clean number function is)

  has-function : (number : ℕ) (function : Function) → slice_get functions number ≡ Some function → HasFunction m functions number function
  has-function number function is =
      let coded : IsCoded functions (codes.function_codes functions 0 functions) number number function =
      subst (λ n. IsCoded functions (codes.function_codes functions 0 functions) number n function) (omega arith) (coded-at functions 0 functions number function is) in
      let same : function_at m.code number ≡ function_code functions number function = ap (λ o. unwrap_or o nowhere) coded.there in
      let small = coded.small in
      record { params = ap (λ (f : CodeFn). f.params) same; ops = ap (λ (f : CodeFn). f.ops) same; cost = omega (arith, small) }

  -- the last function of a name, and those before it
  called-cases : (test : Bool) (number other count : ℕ) (call call' : List Value → Work Value)
      → (test ≡ true → IsCalled m number call count) → (test ≡ false → IsCalled m other call' count)
      → IsCalled m (if test then number else other) (λ own. if test then call own else call' own) count
  called-cases true number other count call call' first second = first refl
  called-cases false number other count call call' first second = second refl

  calls-step : (number : ℕ) (function : Function) → slice_get functions number ≡ Some function
      → trees.CallsFollow m functions number (take number functions) (call_below world functions number)
      → trees.CallsFollow m functions (suc number) (take (suc number) functions) (call_below world functions (suc number))
  calls-step number function is follow name target named =
      let calls = call_below world functions number in
      let clean-own = clean-function number function is in
      let own-code = has-function number function is in
      let before = take number functions in
      let named' : function_named name (before ++ function ∷ []) ≡ Some target = ap (function_named name) (sym (take-next functions number function is)) ∙ named in
      subst (λ found. IsCalled m (if is_named name found then number else number_below functions number name) (λ own. if is_named name found then run_function world calls found own else calls name own) (length target.params)) (sym is)
      (called-cases (bytes_eq function.name name) number (number_below functions number name) (length target.params) (meaning.called world calls function) (calls name)
      (λ test.
      let same-name : function.name ≡ name = (bytes_eq-Decides function.name name).0 test in
      let none : function_named name before ≡ None = subst (λ n. function_named n before ≡ None) same-name (new-name functions number function clean-own) in
      let found : function_named name (before ++ function ∷ []) ≡ Some function = named-behind name before function none test in
      let same : function ≡ target = same-some (sym found ∙ named') in
      subst (λ t. IsCalled m number (meaning.called world calls function) (length t.params)) same
      (record { params = own-code.params; comes = functions_follow.function-comes m functions number function calls own-code follow clean-own.block }))
      (λ test. follow name target (sym (named-before name before function test) ∙ named')))
    where
      same-some : {one other : Function} → Some one ≡ Some other → one ≡ other
      same-some same = cc

  calls-follow : (count : ℕ) → count ≤ length functions → trees.CallsFollow m functions count (take count functions) (call_below world functions count)
  calls-follow zero fits name target named = absurd (let other : None ≡ Some target = named in cc)
  calls-follow (suc count) fits name target named =
      let own = some-at functions count (omega (arith, fits)) in
      calls-step count own.0 own.1 (calls-follow count (omega (arith, fits))) name target named

  -- the machine comes to the end of `main`
  main-comes : (count : ℕ) → count + 1 ≡ length functions → Follow m 0 3 (entering count [] [] meaning.start) (Kept meaning.start) (backed []) (main_of world functions (suc count) meaning.start)
  main-comes count last =
      let own = some-at functions count (omega (arith, last)) in
      let function = own.0 in
      let clean-own = clean-function count function own.1 in
      let calls = call_below world functions count in
      subst (λ found. Follow m 0 3 (entering count [] [] meaning.start) (Kept meaning.start) (backed []) (run_function world calls found [] meaning.start)) (sym own.1)
      (functions_follow.function-comes m functions count function calls (has-function count function own.1) (calls-follow count (omega (arith, last))) clean-own.block
      [] (sym (main-plain functions count function last clean-own)) [] meaning.start (omega arith))

  -- at the end, within the bound on its turns
  bounded : (count : ℕ) (run : Run) (from : Progress) → steps m.code world count from ≡ Over run → count ≤ most_turns m.code world.budget → steps m.code world (most_turns m.code world.budget) from ≡ Over run
  bounded count run from arrives low =
      let rest = most_turns m.code world.budget - count in
      let same : most_turns m.code world.budget ≡ count + rest = omega (arith, low) in
      ap (λ n. steps m.code world n from) same ∙ steps-add m.code world count rest from ∙ ap (steps m.code world rest) arrives ∙ steps-over m.code world rest run

  end-cases : (from : Progress) (step : Step Value) → Follow m 0 3 from (Kept meaning.start) (backed []) step → steps m.code world (most_turns m.code world.budget) from ≡ Over (ended step)
  end-cases from (Next own state) follow =
      let fact = follow.fact.0 in
      let cheap = fact.cheap in
      let within = mul-le-mul_left m.cost fact.within in
      let one = mul-add m.cost world.budget 1 in
      let single = mul-one m.cost in
      bounded fact.count (ended (Next own state)) from fact.arrives (omega arith)
  end-cases from (Ends run) follow =
      let fact = follow.fact in
      let cheap = fact.cheap in
      let one = mul-add m.cost world.budget 1 in
      let single = mul-one m.cost in
      bounded fact.count run from fact.arrives (omega arith)

main-cases : (functions : List Function) (world : World) (count : ℕ) → count ≡ length functions → NoFault (typing.function_codes functions 0 functions)
    → steps (record { functions = codes.function_codes functions 0 functions }) world (most_turns (record { functions = codes.function_codes functions 0 functions }) world.budget) (entering (count - 1) [] [] meaning.start)
    ≡ Over (ended (main_of world functions count meaning.start))
main-cases [] world zero last clean = bounded [] world clean 1 _ (entering (0 - 1) [] [] meaning.start) refl (omega arith)
main-cases (function ∷ functions) world zero last clean = absurd (omega (arith, last))
main-cases functions world (suc count) last clean =
    let all : List CodeFn = codes.function_codes functions 0 functions in
    subst (λ n. steps (record { functions = all }) world (most_turns (record { functions = all }) world.budget) (entering n [] [] meaning.start) ≡ Over (ended (main_of world functions (suc count) meaning.start))) (omega arith)
    (end-cases functions world clean (entering count [] [] meaning.start) (main_of world functions (suc count) meaning.start) (main-comes functions world clean count (omega (arith, last))))

code-ends : (program : Program) (args : List ℕ) (budget : ℕ) (view : View) → IsTyped program
    → steps (code_of program) (record { args = args; budget = budget; view = view }) (most_turns (code_of program) budget) (Going (begin (code_of program))) ≡ Over (mean program args budget view)
unfolding mean code_of
code-ends program args budget view typed =
    let functions = program.functions in
    let world : World = record { args = args; budget = budget; view = view } in
    let all : List CodeFn = codes.function_codes functions 0 functions in
    subst (λ n. steps (record { functions = all }) world (most_turns (record { functions = all }) budget) (entering (n - 1) [] [] meaning.start) ≡ Over (mean program args budget view)) (sym (codes-length functions 0 functions))
    (main-cases functions world (length functions) refl (typed-faultless program typed))

pub code-means-the-same : CodeMeansTheSame
code-means-the-same program typed = record { means = λ args budget view. code-ends program args budget view typed }
