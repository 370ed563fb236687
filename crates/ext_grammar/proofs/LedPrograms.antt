-- The tokens of a derivation lead from the beginning to the end of its program.
use Rattle.std.proofs.Common.{ℕ, List, [], ◌∷◌, ◌++◌, refl, append_assoc, append-nil}
use Rattle.ext_mean.specs.declared.statement.Kind.{Kind}
use Rattle.ext_mean.specs.declared.token.Mark.TheVariants as mark
use Rattle.ext_mean.specs.declared.token.Token.TheVariants as token
use Rattle.ext_mean.specs.declared.tree.Function.{Function}
use Rattle.ext_mean.specs.declared.tree.Param.{Param}
use Rattle.ext_mean.specs.declared.tree.Program.{Program}
use Rattle.ext_mean.specs.Derived.{braces_tree, more_parameters_tree, parameters_tree, definition_tree, more_functions_tree, program_tree}
use Rattle.ext_mean.specs.Grammar.{MoreParameters, end_parameters, parameter, Parameters, no_parameters, parameters, Definition, function, MoreFunctions, end_functions, define, Whole, program}
use Rattle.ext_mean.specs.Wording.{inside, Slot, slot, close, kind_token, braces_slots, more_parameters_slots, parameters_slots, definition_slots, more_functions_slots, program_slots}
use Rattle.ext_grammar.specs.Coming.{Coming, fixed, functions, first_parameter, behind_parameter, result_kind, function_body, AroundBlock, closed}
use Rattle.ext_grammar.proofs.Walks.{took, Walk}
use Rattle.ext_grammar.proofs.Passing.{Passes}
use Rattle.ext_grammar.proofs.LedItems.{kind-step}
use Rattle.ext_grammar.proofs.LedStatements.{braces-pass}

module _ (all : Program) where
  abbrev param : List ℕ → Kind → Param
  param name of = record { name = name; kind = of }

  -- the parameters with their `)`, and what stands behind them
  more-parameters-pass : (more : MoreParameters) (known : List Function) (name : List ℕ)
      (params : List Param) (tail : List Slot) (to : Coming) →
      Passes all tail (fixed mark.Arrow
      (result_kind known name (params ++ more_parameters_tree more)))
      0 to 0 →
      Passes all (more_parameters_slots more ++ slot close (inside 0) ∷ tail)
      (behind_parameter known name params) 0 to 0
  more-parameters-pass end_parameters known name params tail to passes = λ rest walk.
      took (rw (append-nil params) at (passes rest walk))
  more-parameters-pass (parameter next of more) known name params tail to passes = λ rest walk.
      let then : List Param = params ++ param next of ∷ [] in
      took (took (took (kind-step of _ _ _ (took (more-parameters-pass more known name then tail to
      (λ rest walk. rw (append_assoc params (param next of ∷ []) (more_parameters_tree more))
      (passes rest walk)) rest walk)))))

  parameters-pass : (params : Parameters) (known : List Function) (name : List ℕ)
      (tail : List Slot) (to : Coming) →
      Passes all tail (fixed mark.Arrow (result_kind known name (parameters_tree params))) 0 to 0 →
      Passes all (parameters_slots params ++ slot close (inside 0) ∷ tail)
      (first_parameter known name)
      0 to 0
  parameters-pass no_parameters known name tail to passes = λ rest walk. took (passes rest walk)
  parameters-pass (parameters next of more) known name tail to passes = λ rest walk.
      took (took (kind-step of _ _ _ (took
      (more-parameters-pass more known name (param next of ∷ []) tail to passes rest walk))))

  definition-passes : (first : Definition) (known : List Function) →
      Passes all (definition_slots first) (functions known) 0
      (functions (known ++ definition_tree first ∷ [])) 0
  definition-passes (function name params result body) known rest walk =
      let around : AroundBlock = function_body known name (parameters_tree params) result in
      took (took (took (parameters-pass params known name
      (slot (token.Mark mark.Arrow) (inside 0) ∷ slot (kind_token result) (inside 0)
      ∷ braces_slots body 0) (closed (braces_tree body) around)
      (λ rest walk. took (kind-step result _ _ _ (took (braces-pass all body around 0 rest walk))))
      rest walk)))

  functions-lead : (more : MoreFunctions) (known : List Function) →
      Walk [] (functions (known ++ more_functions_tree more)) 0 all →
      Walk (more_functions_slots more) (functions known) 0 all
  functions-lead end_functions known walk = rw (append-nil known) at walk
  functions-lead (define next more) known walk =
      definition-passes next known (more_functions_slots more)
      (functions-lead more (known ++ definition_tree next ∷ [])
      (rw (append_assoc known (definition_tree next ∷ []) (more_functions_tree more)) walk))

pub program-leads : (whole : Whole) → Walk (program_slots whole)
    (functions []) 0 (program_tree whole)
program-leads (program first more) =
    definition-passes (program_tree (program first more)) first [] (more_functions_slots more)
    (functions-lead (program_tree (program first more)) more (definition_tree first ∷ []) refl)
