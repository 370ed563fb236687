-- Which texts are extensions that may run, and why others are refused.
use Rattle.std.specs.Prelude.{◌≡◌, ℕ, List, Some, Result, Ok, Err, length, slice_get}
use Rattle.ext_mean.specs.declared.check_codes.BorrowCode.{BorrowCode}
use Rattle.ext_mean.specs.declared.check_codes.TypeCode.{TypeCode}
use Rattle.ext_mean.specs.declared.codes.SyntaxCode.{SyntaxCode}
use Rattle.ext_mean.specs.declared.refusal.Refusal.{Refusal}
use Rattle.ext_mean.specs.declared.refusal.Refusal.TheVariants as refusal
use Rattle.ext_mean.specs.declared.tree.Program.{Program}
use Rattle.ext_mean.specs.Ownership.{IsOwned, borrow_fault}
use Rattle.ext_mean.specs.ProgramItems.{program_items}
use Rattle.ext_mean.specs.SyntaxFaults.{SyntaxFault}
use Rattle.ext_mean.specs.Text.{Spells, SpellsAt}
use Rattle.ext_mean.specs.Typing.{IsTyped, type_fault}
use Rattle.ext_parse.specs.declared.fault.ParseFault.{ParseFault}
use Rattle.ext_parse.specs.declared.fault.ParseFault.TheVariants as parse
use Rattle.ext_check.specs.declared.fault.CheckFault.{CheckFault}
use Rattle.ext_check.specs.declared.fault.CheckFault.TheVariants as fault

-- the text spells the program, which is typed and owned
pub record IsAccepted (text : List ℕ) (program : Program) : Type 0 where
  pub spelled : Spells text program
  pub typed : IsTyped program
  pub owned : IsOwned program

-- each item of the program has its line
abbrev pub HaveLines : Program → List ℕ → Type 0
HaveLines program lines = length lines ≡ length (program_items program)

-- The first item of a program that a check refuses: the line of the item, and its first code. The
-- types come first.
pub data IsFaulty (program : Program) (lines : List ℕ) : ℕ → Refusal → Type 0 where
  by_types : (item : ℕ) {line : ℕ} {which : TypeCode} → type_fault program ≡ Some (item, which) →
      slice_get lines item ≡ Some line → IsFaulty program lines line (refusal.Types which)
  by_borrows : (item : ℕ) {line : ℕ} {which : BorrowCode} → IsTyped program →
      borrow_fault program ≡ Some (item, which) → slice_get lines item ≡ Some line →
      IsFaulty program lines line (refusal.Borrows which)

-- The first refusal of a text: it spells no program, or a check refuses the program that it spells.
pub data IsRefused (text : List ℕ) : ℕ → Refusal → Type 0 where
  by_syntax : {line : ℕ} {which : SyntaxCode} → SyntaxFault text line which →
      IsRefused text line (refusal.Syntax which)
  by_checks : (program : Program) (lines : List ℕ) {line : ℕ} {which : Refusal} →
      SpellsAt text program lines → IsFaulty program lines line which → IsRefused text line which

-- what a fault says; want of memory says nothing
abbrev pub Explains : List ℕ → CheckFault → Type 0
Explains text (fault.Refused line which) = IsRefused text line which
Explains text fault.Memory = Unit {0}

-- this line and this code are told, unless memory ran out
abbrev pub Tells : Result Program CheckFault → ℕ → Refusal → Type 0
Tells (Ok program) line which = ⊥
Tells (Err (fault.Refused other another)) line which = (other ≡ line) × (another ≡ which)
Tells (Err fault.Memory) line which = Unit {0}

abbrev pub Judges : Program → List ℕ → CheckFault → Type 0
Judges program lines (fault.Refused line which) = IsFaulty program lines line which
Judges program lines fault.Memory = Unit {0}

-- what the parser's fault is here
abbrev pub unparsed : ParseFault → CheckFault
unparsed (parse.Syntax line which) = fault.Refused line (refusal.Syntax which)
unparsed parse.Memory = fault.Memory
