-- Slots and the variables in them.
use Rattle.std.proofs.Common.{◌≡◌, ℕ, zero, suc, ◌+◌, Bool, true, false, List, [], ◌∷◌, ◌++◌, length, take, refl, sym, ap, ◌∙◌, arith, if◌then◌else◌, slice_set, ◌==◌, add-one}
use Rattle.std.proofs.Math.Seq.{take-append_seam}
use Rattle.std.specs.Str.{bytes_eq}
use Rattle.ext_mean.specs.declared.state.Local.{Local}
use Rattle.ext_mean.specs.declared.state.Value.{Value}
use Rattle.ext_mean.specs.declared.tree.Param.{Param}
use Rattle.ext_mean.specs.MeaningValues.{value_of, assigned, declared}
use Rattle.gen_code.specs.Codes.{slot_of}
use Rattle.gen_code.specs.Machine.{slot, stored}
use Rattle.gen_law.proofs.Standing.{values, InScope}

-- as many variables as names
pub in-scope-length : (scope : List Param) (locals : List Local) → InScope scope locals → length (values locals) ≡ length scope
in-scope-length [] [] scoped = refl
in-scope-length [] (local ∷ locals) scoped = absurd scoped
in-scope-length (param ∷ scope) [] scoped = absurd scoped
in-scope-length (param ∷ scope) (local ∷ locals) scoped = ap suc (in-scope-length scope locals scoped.1)

pub locals-length : (scope : List Param) (locals : List Local) → InScope scope locals → length locals ≡ length scope
locals-length [] [] scoped = refl
locals-length [] (local ∷ locals) scoped = absurd scoped
locals-length (param ∷ scope) [] scoped = absurd scoped
locals-length (param ∷ scope) (local ∷ locals) scoped = ap suc (locals-length scope locals scoped.1)

-- the value of a variable is in its slot
slot-cases : (test : Bool) (first : Value) (rest : List Value) (number : ℕ) (other : Value) → slot rest number ≡ other
    → slot (first ∷ rest) (if test then 0 else (number + 1)) ≡ (if test then first else other)
slot-cases true first rest number other same = refl
slot-cases false first rest number other same = ap (λ n. slot (first ∷ rest) n) (add-one number) ∙ same

pub slot-value : (scope : List Param) (locals : List Local) (name : List ℕ) → InScope scope locals → slot (values locals) (slot_of scope name) ≡ value_of name locals
slot-value [] [] name scoped = refl
slot-value [] (local ∷ locals) name scoped = absurd scoped
slot-value (param ∷ scope) [] name scoped = absurd scoped
slot-value (param ∷ scope) (local ∷ locals) name scoped =
    slot-cases (bytes_eq param.name name) local.value (values locals) (slot_of scope name) (value_of name locals) (slot-value scope locals name scoped.1)
    ∙ ap (λ own. if bytes_eq own name then local.value else value_of name locals) scoped.0

-- an assigned variable has its value in its slot
set-cases : (test : Bool) (new : Value) (name : List ℕ) (local : Local) (locals later : List Local) (number : ℕ) → slice_set (values locals) number new ≡ values later
    → slice_set (local.value ∷ values locals) (if test then 0 else (number + 1)) new ≡ values (if test then (record local { value = new } ∷ locals) else (local ∷ later))
set-cases true new name local locals later number same = refl
set-cases false new name local locals later number same = ap (λ n. slice_set (local.value ∷ values locals) n new) (add-one number) ∙ ap (λ rest. local.value ∷ rest) same

pub slot-assigned : (scope : List Param) (locals : List Local) (name : List ℕ) (new : Value) → InScope scope locals → slice_set (values locals) (slot_of scope name) new ≡ values (assigned name new locals)
slot-assigned [] [] name new scoped = refl
slot-assigned [] (local ∷ locals) name new scoped = absurd scoped
slot-assigned (param ∷ scope) [] name new scoped = absurd scoped
slot-assigned (param ∷ scope) (local ∷ locals) name new scoped =
    set-cases (bytes_eq param.name name) new name local locals (assigned name new locals) (slot_of scope name) (slot-assigned scope locals name new scoped.1)
    ∙ ap (λ own. values (if bytes_eq own name then (record local { value = new } ∷ locals) else (local ∷ assigned name new locals))) scoped.0

-- no name has the slot behind those in scope
not-cases : (test : Bool) (number count : ℕ) → (number ≡ count → ⊥) → (if test then 0 else (number + 1)) ≡ suc count → ⊥
not-cases true number count other same = omega (arith, same)
not-cases false number count other same = other (omega (arith, same))

pub slot-not-next : (scope : List Param) (name : List ℕ) → slot_of scope name ≡ length scope → ⊥
slot-not-next [] name same = omega (arith, same)
slot-not-next (param ∷ scope) name same = not-cases (bytes_eq param.name name) (slot_of scope name) (length scope) (slot-not-next scope name) same

other-place : (test : Bool) (slots : List Value) (number : ℕ) (new : Value) → (number == length slots) ≡ test → (number ≡ length slots → ⊥)
    → (if test then (slots ++ new ∷ []) else slice_set slots number new) ≡ slice_set slots number new
other-place true slots number new is other = absurd (other (grind (arith, is)))
other-place false slots number new is other = refl

pub stored-assigned : (scope : List Param) (locals : List Local) (name : List ℕ) (new : Value) → InScope scope locals → stored (slot_of scope name) new (values locals) ≡ values (assigned name new locals)
stored-assigned scope locals name new scoped =
    let many = in-scope-length scope locals scoped in
    other-place (slot_of scope name == length (values locals)) (values locals) (slot_of scope name) new refl
    (λ same. slot-not-next scope name (same ∙ many))
    ∙ slot-assigned scope locals name new scoped

kept-cases : (test : Bool) (new : Value) (param : Param) (scope : List Param) (local : Local) (locals later : List Local) → param.name ≡ local.name → InScope scope locals → InScope scope later
    → InScope (param ∷ scope) (if test then (record local { value = new } ∷ locals) else (local ∷ later))
kept-cases true new param scope local locals later same one other = (same, one)
kept-cases false new param scope local locals later same one other = (same, other)

pub assigned-in-scope : (scope : List Param) (locals : List Local) (name : List ℕ) (new : Value) → InScope scope locals → InScope scope (assigned name new locals)
assigned-in-scope [] [] name new scoped = tt
assigned-in-scope [] (local ∷ locals) name new scoped = absurd scoped
assigned-in-scope (param ∷ scope) [] name new scoped = absurd scoped
assigned-in-scope (param ∷ scope) (local ∷ locals) name new scoped =
    kept-cases (bytes_eq local.name name) new param scope local locals (assigned name new locals) scoped.0 scoped.1 (assigned-in-scope scope locals name new scoped.1)

-- a declared variable has the slot behind the others
next-place : (test : Bool) (slots : List Value) (number : ℕ) (new : Value) → (number == length slots) ≡ test → number ≡ length slots
    → (if test then (slots ++ new ∷ []) else slice_set slots number new) ≡ slots ++ new ∷ []
next-place true slots number new is same = refl
next-place false slots number new is same = absurd (grind (arith, is, same))

pub values-append : (locals more : List Local) → values (locals ++ more) ≡ values locals ++ values more
values-append [] more = refl
values-append (local ∷ locals) more = ap (λ rest. local.value ∷ rest) (values-append locals more)

pub stored-next : (slots : List Value) (number : ℕ) (new : Value) → number ≡ length slots → stored number new slots ≡ slots ++ new ∷ []
stored-next slots number new same = next-place (number == length slots) slots number new refl same

pub stored-declared : (scope : List Param) (locals : List Local) (name : List ℕ) (new : Value) → InScope scope locals → stored (length scope) new (values locals) ≡ values (declared name new locals)
stored-declared scope locals name new scoped =
    stored-next (values locals) (length scope) new (sym (in-scope-length scope locals scoped))
    ∙ sym (values-append locals (record { name = name; value = new } ∷ []))

pub declared-in-scope : (scope : List Param) (locals : List Local) (param : Param) (new : Value) → InScope scope locals → InScope (scope ++ param ∷ []) (declared param.name new locals)
declared-in-scope [] [] param new scoped = (refl, tt)
declared-in-scope [] (local ∷ locals) param new scoped = absurd scoped
declared-in-scope (first ∷ scope) [] param new scoped = absurd scoped
declared-in-scope (first ∷ scope) (local ∷ locals) param new scoped = (scoped.0, declared-in-scope scope locals param new scoped.1)

-- the variables of a block are dropped
pub take-in-scope : (scope more : List Param) (locals : List Local) → InScope (scope ++ more) locals → InScope scope (take (length scope) locals)
take-in-scope [] more locals scoped = tt
take-in-scope (param ∷ scope) more [] scoped = absurd scoped
take-in-scope (param ∷ scope) more (local ∷ locals) scoped = (scoped.0, take-in-scope scope more locals scoped.1)

pub values-take : (count : ℕ) (locals : List Local) → values (take count locals) ≡ take count (values locals)
values-take zero locals = refl
values-take (suc count) [] = refl
values-take (suc count) (local ∷ locals) = ap (λ rest. local.value ∷ rest) (values-take count locals)

pub take-all-in-scope : (scope : List Param) (locals : List Local) → InScope scope locals → take (length scope) locals ≡ locals
take-all-in-scope [] [] scoped = refl
take-all-in-scope [] (local ∷ locals) scoped = absurd scoped
take-all-in-scope (param ∷ scope) [] scoped = absurd scoped
take-all-in-scope (param ∷ scope) (local ∷ locals) scoped = ap (λ rest. local ∷ rest) (take-all-in-scope scope locals scoped.1)

-- a value that is stored behind the others and dropped again leaves them as they were
pub stored-dropped : (scope : List Param) (locals : List Local) (new : Value) → InScope scope locals → take (length scope) (stored (length scope) new (values locals)) ≡ values locals
stored-dropped scope locals new scoped =
    let many = in-scope-length scope locals scoped in
    ap (take (length scope)) (stored-next (values locals) (length scope) new (sym many))
    ∙ ap (λ n. take n (values locals ++ new ∷ [])) (sym many)
    ∙ take-append_seam (values locals) (new ∷ [])
