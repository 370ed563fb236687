-- Calls of the functions that stand before one.
use Rattle.std.proofs.Common.{◌≡◌, ℕ, zero, suc, ◌+◌, ◌*◌, Bool, true, List, [], Option, Some, None, ap, arith, refl, sym, ◌∙◌}
use Rattle.std.specs.Prelude.{slice_get, if◌then◌else◌}
use Rattle.ext_mean.specs.declared.state.State.{State}
use Rattle.ext_mean.specs.declared.state.Value.{Value}
use Rattle.ext_mean.specs.declared.statement.Block.{size-Block}
use Rattle.ext_mean.specs.declared.tree.Function.{Function}
use Rattle.ext_mean.specs.Work as work
use Rattle.ext_mean.specs.Work.{World, Next}
use Rattle.std.specs.Str.{bytes_eq}
use Rattle.ext_mean.specs.MeaningValues.{nothing}
use Rattle.ext_mean.specs.Meaning.{call_below, called, is_named, main_of, run_function}

-- one function more may be called
pub call_below-more : (world : World) (functions : List Function) (below last : ℕ) (name : List ℕ) (values : List Value) (state : State) → below ≡ last + 1
    → call_below world functions below name values state
    ≡ (if is_named name (slice_get functions last) then run_function world (call_below world functions last) (slice_get functions last) values else call_below world functions last name values) state
call_below-more world functions below last name values state e =
    let f : below ≡ suc last = omega arith in ap (λ (n : ℕ). call_below world functions n name values state) f

-- the last of the functions is `main`
pub main_of-last : (world : World) (functions : List Function) (count last : ℕ) (state : State) → count ≡ last + 1
    → main_of world functions count state ≡ run_function world (call_below world functions last) (slice_get functions last) [] state
main_of-last world functions count last state e =
    let f : count ≡ suc last = omega arith in ap (λ (n : ℕ). main_of world functions n state) f

pub main_of-none : (world : World) (functions : List Function) (count : ℕ) (state : State) → count ≡ 0
    → main_of world functions count state ≡ Next nothing state
main_of-none world functions count state e = ap (λ (n : ℕ). main_of world functions n state) e

-- the called function, which may call those before it
pub callee : (world called_world : work.World) (functions its_functions : List Function) (last below : ℕ) (function : Function) (found : Option Function) (values : List Value) (state : State)
    → called_world ≡ world → its_functions ≡ functions → below ≡ last → found ≡ Some function
    → run_function world (call_below world functions last) found values state ≡ called called_world (call_below called_world its_functions below) function values state
callee world called_world functions its_functions last below function found values state same-world same-functions same-place is =
    ap (λ (z : Option Function). run_function world (call_below world functions last) z values state) is
    ∙ sym (ap (λ (z : work.World). called z (call_below z its_functions below) function values state) same-world
    ∙ ap (λ (z : List Function). called world (call_below world z below) function values state) same-functions
    ∙ ap (λ (z : ℕ). called world (call_below world functions z) function values state) same-place)

-- the last function has the name
pub named-last : (world : work.World) (functions : List Function) (last : ℕ) (name : List ℕ) (values : List Value) (state : State) (function : Function)
    → slice_get functions last ≡ Some function → bytes_eq function.name name ≡ true
    → call_below world functions (last + 1) name values state ≡ run_function world (call_below world functions last) (slice_get functions last) values state
named-last world functions last name values state function found same =
    let e : is_named name (slice_get functions last) ≡ true = ap (is_named name) found ∙ same in
    call_below-more world functions (last + 1) last name values state refl
    ∙ ap (λ (b : Bool). (if b then run_function world (call_below world functions last) (slice_get functions last) values else call_below world functions last name values) state) e

pub ruleset mains = (main_of-last, main_of-none)

pub ruleset calls = (call_below-more)

-- how deep the block of a function is
abbrev pub depth_of : Option Function → ℕ
depth_of (Some function) = size-Block function.body
depth_of None = 0

-- a bound on the depth of what the first functions may still run
abbrev pub weight : List Function → ℕ → ℕ
weight functions zero = 0
weight functions (suc count) = weight functions count + (8 * depth_of (slice_get functions count) + 16)
