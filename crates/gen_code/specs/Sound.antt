-- Sound code: jumps stay inside their function, and a loop cannot go on without a charge.
use Rattle.std.specs.Prelude.{◌≡◌, ◌<◌, ◌≤◌, ℕ, Bool, true, false, List, IsTrue, length, slice_get, Option, Some, None}
use Rattle.gen_code.specs.declared.code.Code.{Code}
use Rattle.gen_code.specs.declared.code.CodeFn.{CodeFn}
use Rattle.gen_code.specs.declared.op.Op.{Op}
use Rattle.gen_code.specs.declared.op.Op.TheVariants as op

-- where an instruction may jump to
abbrev pub jump_of : Op → Option ℕ
jump_of (op.Jump target) = Some target
jump_of (op.JumpFalse target) = Some target
jump_of (op.Get target) = Some target
jump_of (op.Multi target) = Some target
jump_of _ = None

-- whether an instruction charges units each time: the next read of a `multiget` does, where it does not
-- leave its loop
abbrev pub is_charge : Option Op → Bool
is_charge (Some (op.Charge units)) = true
is_charge (Some (op.Multi target)) = true
is_charge _ = false

-- a jump stays inside its function, and where it does not go forward it lands on a charge
pub record Lands (ops : List Op) (pc target : ℕ) : Type 0 where
  pub inside : target < length ops
  pub charged : target ≤ pc → IsTrue (is_charge (slice_get ops target))

abbrev pub IsSoundFn : List Op → Type 0
IsSoundFn ops =
    (pc target : ℕ) (instruction : Op)
    → slice_get ops pc ≡ Some instruction → jump_of instruction ≡ Some target
    → Lands ops pc target

-- every jump of every function does
abbrev pub IsSound : Code → Type 0
IsSound code =
    (number : ℕ) (function : CodeFn)
    → slice_get code.functions number ≡ Some function → IsSoundFn function.ops
