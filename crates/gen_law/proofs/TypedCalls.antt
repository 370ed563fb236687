-- What typing says of a program: no item has a fault, and a call has as many arguments as the called
-- function has parameters.
use Rattle.std.proofs.Common.{◌≡◌, ℕ, suc, ◌+◌, Bool, true, false, List, [], ◌∷◌, ◌++◌, length, Option, Some, None, refl, ap, if◌then◌else◌, nat_le}
use Rattle.ext_mean.specs.declared.check_codes.TypeCode.{TypeCode}
use Rattle.ext_mean.specs.declared.check_codes.TypeCode.TheVariants as code
use Rattle.ext_mean.specs.declared.expr.Expr.{Expr}
use Rattle.ext_mean.specs.declared.statement.Kind.{Kind}
use Rattle.ext_mean.specs.declared.tree.Function.{Function}
use Rattle.ext_mean.specs.declared.tree.Param.{Param}
use Rattle.ext_mean.specs.declared.tree.Program.{Program}
use Rattle.ext_mean.specs.Items.{first_fault, noted}
use Rattle.ext_mean.specs.Types.{earlier, rank, asks, untyped, unless, same_kind, type_of}
use Rattle.ext_mean.specs.TypesOfItems.{Setting, arguments_code, call_code, function_named, new_name, uncalled}
use Rattle.ext_mean.specs.Typing.{IsTyped, type_fault, type_codes}

-- no item has a fault
abbrev pub NoFault : List (Option TypeCode) → Type 0
NoFault [] = Unit {0}
NoFault (first ∷ rest) = (first ≡ None) × NoFault rest

pub no-fault-split : (first rest : List (Option TypeCode)) → NoFault (first ++ rest) → NoFault first × NoFault rest
no-fault-split [] rest fault = (tt, fault)
no-fault-split (one ∷ first) rest fault =
    let later = no-fault-split first rest fault.1 in
    ((fault.0, later.0), later.1)

noted-none : (found : Option (ℕ × TypeCode)) (item : ℕ) (first : Option TypeCode) → noted found item first ≡ None → (found ≡ None) × (first ≡ None)
noted-none None item None same = (refl, refl)
noted-none None item (Some fault) same = absurd (let other : Some (item, fault) ≡ None = same in cc)
noted-none (Some found) item first same = absurd (let other : Some found ≡ None = same in cc)

found-none : (found : Option (ℕ × TypeCode)) (item : ℕ) (faults : List (Option TypeCode)) → first_fault found item faults ≡ None → (found ≡ None) × NoFault faults
found-none found item [] same = (same, tt)
found-none found item (first ∷ rest) same =
    let later = found-none (noted found item first) (item + 1) rest same in
    let own = noted-none found item first later.0 in
    (own.0, (own.1, later.1))

pub typed-faultless : (program : Program) → IsTyped program → NoFault (type_codes program)
unfolding type_fault
typed-faultless program typed = (found-none None 0 (type_codes program) typed).1

earlier-cases : (test : Bool) (one other : TypeCode) → (if test then Some one else Some other) ≡ None → ⊥
earlier-cases true one other same = cc
earlier-cases false one other same = cc

pub earlier-none : (first second : Option TypeCode) → earlier first second ≡ None → (first ≡ None) × (second ≡ None)
earlier-none None second same = (refl, same)
earlier-none (Some one) None same = absurd (let other : Some one ≡ None = same in cc)
earlier-none (Some one) (Some other) same = absurd (earlier-cases (nat_le (rank one) (rank other)) one other same)

arguments-counted : (scope params : List Param) (args : List Expr) → arguments_code scope params args ≡ None → length args ≡ length params
arguments-counted scope [] [] same = refl
arguments-counted scope (param ∷ params) [] same = absurd (let other : Some code.Count ≡ None = same in cc)
arguments-counted scope [] (arg ∷ args) same =
    let outer = earlier-none (earlier (untyped (type_of scope arg)) (Some code.Count)) (arguments_code scope [] args) same in
    let inner = earlier-none (untyped (type_of scope arg)) (Some code.Count) outer.0 in
    absurd (let other : Some code.Count ≡ None = inner.1 in cc)
arguments-counted scope (param ∷ params) (arg ∷ args) same =
    let outer = earlier-none (asks param.kind (type_of scope arg)) (arguments_code scope params args) same in
    ap suc (arguments-counted scope params args outer.1)

-- a call whose function is declared before, with as many arguments as it has parameters
pub record Fits (setting : Setting) (function : List ℕ) (args : List Expr) : Type 0 where
  pub target : Function
  pub named : function_named function setting.before ≡ Some target
  pub counted : length args ≡ length target.params

call-cases : (found : Option Function) (setting : Setting) (scope : List Param) (wanted : Kind) (function : List ℕ) (args : List Expr)
    → function_named function setting.before ≡ found → call_code setting scope function wanted found args ≡ None → Fits setting function args
call-cases (Some target) setting scope wanted function args named same =
    let parts = earlier-none (arguments_code scope target.params args) (unless (same_kind wanted target.result) code.Kind) same in
    record { target = target; named = named; counted = arguments-counted scope target.params args parts.0 }
call-cases None setting scope wanted function args named same =
    let parts = earlier-none (arguments_code scope [] args) (Some (uncalled (function_named function setting.functions))) same in
    absurd (let other : Some (uncalled (function_named function setting.functions)) ≡ None = parts.1 in cc)

pub call-fits : (setting : Setting) (scope : List Param) (name : List ℕ) (kind : Kind) (function : List ℕ) (args : List Expr)
    → earlier (new_name scope name) (call_code setting scope function kind (function_named function setting.before) args) ≡ None → Fits setting function args
call-fits setting scope name kind function args same =
    let parts = earlier-none (new_name scope name) (call_code setting scope function kind (function_named function setting.before) args) same in
    call-cases (function_named function setting.before) setting scope kind function args refl parts.1
