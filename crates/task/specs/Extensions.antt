-- Extensions: a text with the program that it is accepted as.
use Rattle.std.specs.Prelude.{◌≡◌, ℕ, List, Result, Ok, Err}
use Rattle.ext_mean.specs.declared.refusal.Refusal.{Refusal}
use Rattle.ext_mean.specs.declared.tree.Program.{Program}
use Rattle.ext_check.specs.declared.fault.CheckFault.{CheckFault}
use Rattle.ext_check.specs.declared.fault.CheckFault.TheVariants as check
use Rattle.ext_check.specs.Checking.{IsAccepted, IsRefused}
use Rattle.task.specs.declared.ext_fault.ExtFault.{ExtFault}
use Rattle.task.specs.declared.ext_fault.ExtFault.TheVariants as fault

-- an extension's text, and its program
pub record ExtValue : Type 0 where
  pub text : List ℕ
  pub program : Program

-- the fault of a text that the checks refuse
abbrev pub fault_of : CheckFault → ExtFault
fault_of (check.Refused line which) = fault.Rejected line which
fault_of check.Memory = fault.Memory

-- the extension is this text, and a program as which the text is accepted
pub record IsExtension (text : List ℕ) (ext : ExtValue) : Type 0 where
  pub text_is : ext.text ≡ text
  pub accepted : IsAccepted text ext.program

-- what a fault says of a text; want of memory says nothing
abbrev pub Explains : List ℕ → ExtFault → Type 0
Explains text (fault.Rejected line which) = IsRefused text line which
Explains text fault.Memory = Unit {0}

-- a text that is accepted as a program is made an extension of it, unless memory runs out
abbrev pub Makes : List ℕ → Program → Result ExtValue ExtFault → Type 0
Makes text program (Ok ext) = ext ≡ record { text = text; program = program }
Makes text program (Err why) = why ≡ fault.Memory

-- a text that is refused is told so, with this line and this code, unless memory runs out
abbrev pub Tells : ℕ → Refusal → Result ExtValue ExtFault → Type 0
Tells line which (Ok ext) = ⊥
Tells line which (Err (fault.Rejected other another)) = (other ≡ line) × (another ≡ which)
Tells line which (Err fault.Memory) = Unit {0}
