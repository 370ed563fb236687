-- A faulty item has its line.
use Rattle.std.proofs.Common.{◌≡◌, ◌<◌, ℕ, ◌+◌, List, [], ◌∷◌, length, Option, Some, None, refl, ap, sym, ◌∙◌, arith}
use Rattle.ext_mean.specs.declared.check_codes.BorrowCode.{BorrowCode}
use Rattle.ext_mean.specs.declared.check_codes.TypeCode.{TypeCode}
use Rattle.ext_mean.specs.declared.tree.Program.{Program}
use Rattle.ext_mean.specs.Items.{first_fault}
use Rattle.ext_mean.specs.Ownership.{borrow_fault, owned_functions}
use Rattle.ext_mean.specs.Typing.{type_codes, type_fault}
use Rattle.ext_check.proofs.BorrowCounts.{borrow-codes-count}
use Rattle.ext_check.specs.Checking.{HaveLines}
use Rattle.ext_check.proofs.TypeCounts.{type-codes-count}

found-stays : {C : Type 0} (fault : ℕ × C) (item : ℕ) (codes : List (Option C)) → first_fault (Some fault) item codes ≡ Some fault
found-stays fault item [] = refl
found-stays fault item (code ∷ codes) = found-stays fault (item + 1) codes

abbrev number_or : {C : Type 0} → ℕ → Option (ℕ × C) → ℕ
number_or other (Some fault) = fault.0
number_or other None = other

-- the first faulty item is one of those that were gone through
first-within : {C : Type 0} (item found : ℕ) (code : C) (codes : List (Option C)) → first_fault None item codes ≡ Some (found, code) → found < item + length codes
first-within item found code [] e = absurd (let f : None ≡ Some (found, code) = e in cc)
first-within {C} item found code (Some other ∷ codes) e =
    let f : Some (item, other) ≡ Some (found, code) = sym (found-stays (item, other) (item + 1) codes) ∙ e in
    let n : item ≡ found = ap (number_or 0) f in
    omega (arith, n)
first-within item found code (None ∷ codes) e = omega (arith, first-within (item + 1) found code codes e)

pub type-fault-line : (program : Program) (lines : List ℕ) (item : ℕ) (code : TypeCode) → HaveLines program lines → type_fault program ≡ Some (item, code) → item < length lines
unfolding type_fault
type-fault-line program lines item code lined e =
    omega (arith, first-within 0 item code (type_codes program) e, type-codes-count program, lined)

pub borrow-fault-line : (program : Program) (lines : List ℕ) (item : ℕ) (code : BorrowCode) → HaveLines program lines → borrow_fault program ≡ Some (item, code) → item < length lines
unfolding borrow_fault
borrow-fault-line program lines item code lined e =
    omega (arith, first-within 0 item code (owned_functions program.functions) e, borrow-codes-count program, lined)
