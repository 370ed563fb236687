-- What a refusal says.
use Rattle.std.specs.Prelude.{◌≡◌, ℕ, Option, Some}
use Rattle.ext_mean.specs.declared.check_codes.BorrowCode.{BorrowCode}
use Rattle.ext_borrow.specs.declared.refusal.BorrowRefusal.{BorrowRefusal}
use Rattle.ext_borrow.specs.declared.refusal.BorrowRefusal.TheVariants.{Fault, Memory}

-- a refusal tells the first faulty item with its first code, or that there was no memory
abbrev pub Explains : BorrowRefusal → Option (ℕ × BorrowCode) → Type 0
Explains (Fault item code) fault = fault ≡ Some (item, code)
Explains Memory fault = Unit {0}
