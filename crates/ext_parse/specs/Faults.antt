-- Why a text gives no program.
use Rattle.std.specs.Prelude.{◌≡◌, ℕ, List, Result, Ok, Err}
use Rattle.ext_mean.specs.declared.codes.SyntaxCode.{SyntaxCode}
use Rattle.ext_mean.specs.SyntaxFaults.{SyntaxFault}
use Rattle.ext_parse.specs.declared.fault.ParseFault.{ParseFault}
use Rattle.ext_parse.specs.declared.fault.ParseFault.TheVariants as fault
use Rattle.ext_parse.specs.declared.parsed.Parsed.{Parsed}

-- the fault is the text's first one; want of memory says nothing
abbrev pub Explains : List ℕ → ParseFault → Type 0
Explains text (fault.Syntax line code) = SyntaxFault text line code
Explains text fault.Memory = Unit {0}

-- this line and this code are told, unless memory ran out
abbrev pub Tells : Result Parsed ParseFault → ℕ → SyntaxCode → Type 0
Tells (Ok parsed) line code = ⊥
Tells (Err (fault.Syntax other another)) line code = (other ≡ line) × (another ≡ code)
Tells (Err fault.Memory) line code = Unit {0}
