-- The bounds on the tokens of a text: long names and numbers, open brackets, functions, locals of a
-- function and operators of an item.
use Rattle.std.specs.Prelude.{◌≡◌, ◌<◌, ◌≤◌, ◌^◌, ℕ, ◌+◌, ◌-◌, ◌⊎◌, Bool, true, false, IsTrue, List, [], ◌∷◌, ◌++◌, length}
use Rattle.ext_mean.specs.declared.token.Word.TheVariants as word
use Rattle.ext_mean.specs.declared.token.Mark.TheVariants as mark
use Rattle.ext_mean.specs.declared.token.Token.{Token}
use Rattle.ext_mean.specs.declared.token.Token.TheVariants as token
use Rattle.ext_mean.specs.Wording.{Slot, Standing, outside, begins, inside, naming, fn_token, is_operator, slot_tokens}

-- a name of more than 32 bytes, or a number of 2^64 or more
abbrev pub IsTooLong : Token → Type 0
IsTooLong (token.Name name) = 32 < length name
IsTooLong (token.Number number) = 2 ^ 64 ≤ number
IsTooLong other = ⊥

-- brackets of both kinds are counted together, and closed ones are taken off
abbrev pub is_opening : Token → Bool
is_opening (token.Mark mark.Open) = true
is_opening (token.Mark mark.OpenBlock) = true
is_opening other = false

abbrev pub open_with : ℕ → Token → ℕ
open_with before (token.Mark mark.Open) = before + 1
open_with before (token.Mark mark.OpenBlock) = before + 1
open_with before (token.Mark mark.Close) = before - 1
open_with before (token.Mark mark.CloseBlock) = before - 1
open_with before other = before

-- the brackets that are open behind these tokens, where so many were open before them
abbrev pub open_behind : ℕ → List Token → ℕ
open_behind before [] = before
open_behind before (first ∷ rest) = open_behind (open_with before first) rest

-- the 33rd open bracket
abbrev pub IsTooDeep : List Token → Token → Type 0
IsTooDeep before next = IsTrue (is_opening next) × (32 ≤ open_behind 0 before)

-- the functions that begin among these tokens
abbrev pub functions_with : ℕ → Token → ℕ
functions_with before (token.Word word.Fn) = before + 1
functions_with before other = before

abbrev pub functions_behind : ℕ → List Slot → ℕ
functions_behind before [] = before
functions_behind before (first ∷ rest) =
    functions_behind (functions_with before first.token) rest

-- the locals so far of the function that is the last to begin among these tokens
abbrev pub locals_with : ℕ → Token → Standing → ℕ
locals_with before (token.Word word.Fn) standing = 0
locals_with before other (naming operators) = before + 1
locals_with before other standing = before

abbrev pub locals_behind : ℕ → List Slot → ℕ
locals_behind before [] = before
locals_behind before (first ∷ rest) =
    locals_behind (locals_with before first.token first.standing) rest

-- the operators so far of the item that is open at a place
abbrev pub operators_at : Standing → ℕ
operators_at outside = 0
operators_at begins = 0
operators_at (inside operators) = operators
operators_at (naming operators) = operators

abbrev pub IsNaming : Standing → Type 0
IsNaming (naming operators) = Unit {0}
IsNaming other = ⊥

abbrev pub IsAnyName : Token → Type 0
IsAnyName (token.Name name) = Unit {0}
IsAnyName other = ⊥

-- A token that comes where the grammar may have this slot behind those: it begins the 33rd function,
-- is the name of the 257th local of a function, or is the 65th operator of an item.
abbrev pub IsTooMany : List Slot → Slot → Token → Type 0
IsTooMany before there next =
    ((next ≡ fn_token) × (there.token ≡ fn_token) × (32 ≤ functions_behind 0 before))
    ⊎ (IsAnyName next × IsNaming there.standing × (256 ≤ locals_behind 0 before))
    ⊎ (IsTrue (is_operator next) × (64 ≤ operators_at there.standing))

-- a slot that is within the bounds behind those
pub record IsBounded (before : List Slot) (there : Slot) : Type 0 where
  pub short : IsTooLong there.token → ⊥
  pub shallow : IsTooDeep (slot_tokens before) there.token → ⊥
  pub few : IsTooMany before there there.token → ⊥

-- each slot is within the bounds behind those before it
abbrev pub AreBounded : List Slot → Type 0
AreBounded slots =
    (before : List Slot) (there : Slot) (rest : List Slot) →
    slots ≡ before ++ there ∷ rest → IsBounded before there
