-- The machine follows the functions of a typed program, those before each first.
use Rattle.std.proofs.Common.{◌≡◌, ℕ, ◌+◌, ◌≤◌, List, [], ◌∷◌, ◌++◌, length, take, Option, Some, None, refl, sym, ap, ◌∙◌, subst, arith, slice_get, unwrap_or, length-append, append_assoc}
use Rattle.ext_mean.specs.declared.state.State.{State}
use Rattle.ext_mean.specs.declared.state.Value.{Value}
use Rattle.ext_mean.specs.declared.tree.Function.{Function}
use Rattle.ext_mean.specs.declared.tree.Param.{Param}
use Rattle.ext_mean.specs.Typing.{block_codes, setting_of}
use Rattle.ext_mean.specs.MeaningValues.{nothing, bound}
use Rattle.ext_mean.specs.MeaningStatements.{Calls, run_block}
use Rattle.ext_mean.specs.Meaning as meaning
use Rattle.ext_mean.specs.Meaning.{call_below, is_named, run_function}
use Rattle.ext_mean.specs.Work.{Next, ◌>>=◌, give}
use Rattle.gen_code.specs.declared.op.Op.{Op}
use Rattle.gen_code.specs.declared.op.Op.TheVariants as op
use Rattle.gen_code.specs.Codes as codes
use Rattle.gen_code.specs.Codes.{number_below, function_code}
use Rattle.gen_code.specs.Machine.{function_at}
use Rattle.gen_law.proofs.Following.{Machine, Follow, arrived, bind}
use Rattle.gen_law.proofs.Standing as standing
use Rattle.gen_law.proofs.Standing.{Here, InScope, at, values, HasAt}
use Rattle.gen_law.proofs.Courses.{onto, Leaves}
use Rattle.gen_law.proofs.Calls.{Comes, Kept, backed, entering}
use Rattle.gen_law.proofs.Trees as trees
use Rattle.gen_law.proofs.TypedCalls.{NoFault}

-- arguments become the parameters
pub bound-values : (params : List Param) (own : List Value) → length own ≡ length params → values (bound params own) ≡ own
bound-values [] [] same = refl
bound-values [] (first ∷ rest) same = absurd (omega (arith, same))
bound-values (param ∷ params) [] same = absurd (omega (arith, same))
bound-values (param ∷ params) (first ∷ rest) same = ap (λ l. first ∷ l) (bound-values params rest (omega (arith, same)))

pub bound-in-scope : (params : List Param) (own : List Value) → length own ≡ length params → InScope params (bound params own)
bound-in-scope [] [] same = tt
bound-in-scope [] (first ∷ rest) same = absurd (omega (arith, same))
bound-in-scope (param ∷ params) [] same = absurd (omega (arith, same))
bound-in-scope (param ∷ params) (first ∷ rest) same = (refl, bound-in-scope params rest (omega (arith, same)))

-- the instructions of a function stand in it from 0 on
pub has-all : (m : Machine) (number : ℕ) (before ops : List Op) → (function_at m.code number).ops ≡ before ++ ops → HasAt m.code number (length before) ops
has-all m number before [] same = tt
has-all m number before (first ∷ ops) same = (
  ap (λ all. unwrap_or (slice_get all (length before)) op.Return) same ∙ ap (λ o. unwrap_or o op.Return) (seam before (first ∷ ops)),
  subst (λ n. HasAt m.code number n ops) (length-append before (first ∷ []))
      (has-all m number (before ++ first ∷ []) ops (same ∙ sym (append_assoc before (first ∷ []) ops))),
)
  where
    seam : (before rest : List Op) → slice_get (before ++ rest) (length before) ≡ slice_get rest 0
    seam [] rest = refl
    seam (one ∷ before) rest = seam before rest

module _ (m : Machine) (functions : List Function) where
  -- the code has the function with a number, and units pay for its instructions
  pub record HasFunction (number : ℕ) (function : Function) : Type 0 where
    pub params : (function_at m.code number).params ≡ length function.params
    pub ops : (function_at m.code number).ops ≡ (function_code functions number function).ops
    pub cost : length (function_code functions number function).ops + 3 ≤ m.cost

  -- behind a function's block: it returned, or it returns 0
  ended-follows : (here : Here) (result : Option Value) (next : ℕ) (caller later : State) → later.used ≤ m.world.budget
      → standing.Has m here next (op.Num 0 ∷ op.Return ∷ [])
      → Follow m later.used 2 (onto here next [] result later) (Kept caller) (backed here.frames) (Next (unwrap_or result nothing) (record later { locals = caller.locals }))
  ended-follows here (Some own) next caller later within has =
      arrived m {P = Kept caller} {K = backed here.frames} own (record later { locals = caller.locals }) 2 within refl
  ended-follows here None next caller later within has =
      let last : State = record later { locals = caller.locals } in
      standing.instructed m here later.used 1 2 next [] later (op.Num 0) (Next nothing last) has.0 (omega arith)
      (standing.instructed m here later.used 0 1 (next + 1) (nothing ∷ []) later op.Return (Next nothing last) has.1.0 (omega arith)
      (arrived m {P = Kept caller} {K = backed here.frames} nothing last 0 within refl))

  -- the machine follows a function whose calls it follows
  pub function-comes : (number : ℕ) (function : Function) (calls : Calls) → HasFunction number function
      → trees.CallsFollow m functions number (take number functions) calls
      → NoFault (block_codes (setting_of functions number function) function.body function.params)
      → Comes m number (meaning.called m.world calls function) (length function.params)
  function-comes number function calls own-code follow clean own counted frames state fits =
      let here : Here = record { function = number; frames = frames } in
      let block = (codes.block_code functions number function.body).ops function.params 0 in
      let last : List Op = op.Num 0 ∷ op.Return ∷ [] in
      let inside : State = record state { locals = bound function.params own } in
      let has = has-all m number [] (block ++ last) own-code.ops in
      let parts = standing.split m here 0 block last has in
      let many = length-append block last in
      let cost = own-code.cost in
      let scope = function.params in
      subst (λ slots. Follow m state.used 3 (entering number slots frames state) (Kept state) (backed frames) (meaning.called m.world calls function own state)) (bound-values scope own counted)
      (bind m (Leaves (scope ++ [])) (onto here (0 + length block) []) state.used 1 2 3 (at here 0 [] inside) (run_block m.world calls function.body inside)
      (λ result. give result >>= (λ returned later. Next (unwrap_or returned nothing) (record later { locals = state.locals }))) (omega arith)
      (trees.block-followed m here functions number (setting_of functions number function) calls follow function.body scope clean
      scope 0 (0 + length block) [] inside parts.0 refl (omega (arith, many, cost)) (bound-in-scope scope own counted) fits)
      (λ result later grows within leaves. ended-follows here result (0 + length block) state later within parts.1))
