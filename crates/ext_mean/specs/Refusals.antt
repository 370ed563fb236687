-- The names and the numbers of the codes by which extensions are refused.
use Rattle.std.specs.Prelude.{ℕ, List, codes}
use Rattle.ext_mean.specs.declared.check_codes.BorrowCode.{BorrowCode}
use Rattle.ext_mean.specs.declared.check_codes.BorrowCode.TheVariants as borrows
use Rattle.ext_mean.specs.declared.check_codes.TypeCode.{TypeCode}
use Rattle.ext_mean.specs.declared.check_codes.TypeCode.TheVariants as types
use Rattle.ext_mean.specs.declared.codes.SyntaxCode.{SyntaxCode}
use Rattle.ext_mean.specs.declared.codes.SyntaxCode.TheVariants as syntax
use Rattle.ext_mean.specs.declared.refusal.Refusal.{Refusal}
use Rattle.ext_mean.specs.declared.refusal.Refusal.TheVariants as refusal

abbrev pub syntax_word : SyntaxCode → List ℕ
syntax_word syntax.Token = codes "Token"
syntax_word syntax.Long = codes "Long"
syntax_word syntax.Deep = codes "Deep"
syntax_word syntax.Many = codes "Many"
syntax_word syntax.Expected = codes "Expected"

abbrev pub type_word : TypeCode → List ℕ
type_word types.NoName = codes "NoName"
type_word types.Order = codes "Order"
type_word types.Twice = codes "Twice"
type_word types.Count = codes "Count"
type_word types.Kind = codes "Kind"
type_word types.NoReturn = codes "NoReturn"
type_word types.Main = codes "Main"

abbrev pub borrow_word : BorrowCode → List ℕ
borrow_word borrows.Moved = codes "Moved"
borrow_word borrows.Frozen = codes "Frozen"
borrow_word borrows.Outlived = codes "Outlived"
borrow_word borrows.MoveAndBorrow = codes "MoveAndBorrow"

abbrev pub refusal_word : Refusal → List ℕ
refusal_word (refusal.Syntax code) = syntax_word code
refusal_word (refusal.Types code) = type_word code
refusal_word (refusal.Borrows code) = borrow_word code

-- the number of a code, as messages tell it: all codes are numbered from 1, in this order
abbrev pub syntax_number : SyntaxCode → ℕ
syntax_number syntax.Token = 1
syntax_number syntax.Long = 2
syntax_number syntax.Deep = 3
syntax_number syntax.Many = 4
syntax_number syntax.Expected = 5

abbrev pub type_number : TypeCode → ℕ
type_number types.NoName = 6
type_number types.Order = 7
type_number types.Twice = 8
type_number types.Count = 9
type_number types.Kind = 10
type_number types.NoReturn = 11
type_number types.Main = 12

abbrev pub borrow_number : BorrowCode → ℕ
borrow_number borrows.Moved = 13
borrow_number borrows.Frozen = 14
borrow_number borrows.Outlived = 15
borrow_number borrows.MoveAndBorrow = 16

abbrev pub refusal_number : Refusal → ℕ
refusal_number (refusal.Syntax code) = syntax_number code
refusal_number (refusal.Types code) = type_number code
refusal_number (refusal.Borrows code) = borrow_number code
