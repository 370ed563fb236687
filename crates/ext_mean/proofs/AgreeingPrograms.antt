-- Programs agree in a world and in one that grew from it.
use Rattle.std.proofs.Common.{ℕ, zero, suc, Bool, true, false, List, [], Option, Some, None, if◌then◌else◌}
use Rattle.std.specs.Prelude.{slice_get, unwrap_or}
use Rattle.sp_base.specs.Places.{Place}
use Rattle.ext_mean.specs.declared.run.Run.{Run}
use Rattle.ext_mean.specs.declared.state.State.{State}
use Rattle.ext_mean.specs.declared.state.Value.{Value}
use Rattle.ext_mean.specs.declared.tree.Function.{Function}
use Rattle.ext_mean.specs.MeaningValues.{nothing, bound}
use Rattle.ext_mean.specs.MeaningStatements.{Calls, run_block}
use Rattle.ext_mean.specs.Meaning as meaning
use Rattle.ext_mean.specs.Meaning.{call_below, main_of, is_named, run_function}
use Rattle.ext_mean.specs.Work.{World, Next, Work, give}
use Rattle.ext_mean.proofs.Agreement.{Mark, uses-none, grown, Grows, behind-step}
use Rattle.ext_mean.proofs.AgreeingWork as works
use Rattle.ext_mean.proofs.AgreeingStatements as statements

module _ (free : Run → Mark → Type 0) (small : World) (budget : ℕ) (known : Place → Option (Option (List ℕ))) (grows : Grows free small budget known) where
  abbrev large : World
  large = grown small budget known

  abbrev R : {A : Type 0} → Work A → Work A → Type 0
  R first second = works.R free small budget known grows first second

  given : {A : Type 0} (value : A) → R (give value) (give value)
  given value = works.given free small budget known grows value

  abbrev CallsAgree : Calls → Calls → Type 0
  CallsAgree calls calls' = (name : List ℕ) (values : List Value) → R (calls name values) (calls' name values)

  called-agrees : (calls calls' : Calls) → CallsAgree calls calls' → (function : Function) (values : List Value) → R (meaning.called small calls function values) (meaning.called large calls' function values)
  called-agrees calls calls' agree function values state =
      let inside : State = record state { locals = bound function.params values } in
      behind-step free small budget known grows state.used (run_block small calls function.body inside) (run_block large calls' function.body inside) _ _
      (statements.run_block-agrees free small budget known grows calls calls' agree function.body inside)
      (λ result later. works.same-step free small budget known grows later.used (Next (unwrap_or result nothing) (record later { locals = state.locals })) (uses-none large later.used))

  run-agrees : (calls calls' : Calls) → CallsAgree calls calls' → (function : Option Function) (values : List Value) → R (run_function small calls function values) (run_function large calls' function values)
  run-agrees calls calls' agree (Some function) values = called-agrees calls calls' agree function values
  run-agrees calls calls' agree None values = given nothing

  either : (test : Bool) (m m' n n' : Work Value) → R m m' → R n n' → R (if test then m else n) (if test then m' else n')
  either true m m' n n' first second = first
  either false m m' n n' first second = second

  pub calls-agree : (functions : List Function) (count : ℕ) → CallsAgree (call_below small functions count) (call_below large functions count)
  calls-agree functions zero name values = given nothing
  calls-agree functions (suc count) name values =
      either (is_named name (slice_get functions count)) _ _ _ _
      (run-agrees (call_below small functions count) (call_below large functions count) (calls-agree functions count) (slice_get functions count) values)
      (calls-agree functions count name values)

  pub main-agrees : (functions : List Function) (count : ℕ) → R (main_of small functions count) (main_of large functions count)
  main-agrees functions zero = given nothing
  main-agrees functions (suc count) =
      run-agrees (call_below small functions count) (call_below large functions count) (calls-agree functions count) (slice_get functions count) []
