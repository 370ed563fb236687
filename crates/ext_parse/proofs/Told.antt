-- What is told of a text that has a fault.
use Rattle.std.proofs.Common.{ℕ, List}
use Rattle.std.specs.Prelude.{IfOk, IfErr, Result, Ok, Err}
use Rattle.ext_mean.specs.declared.codes.SyntaxCode.{SyntaxCode}
use Rattle.ext_mean.specs.SyntaxFaults.{SyntaxFault}
use Rattle.ext_mean.specs.Text.{SpellsAt}
use Rattle.ext_parse.specs.declared.fault.ParseFault.{ParseFault}
use Rattle.ext_parse.specs.declared.fault.ParseFault.TheVariants as fault
use Rattle.ext_parse.specs.declared.parsed.Parsed.{Parsed}
use Rattle.ext_parse.specs.Faults.{Explains, Tells}
use Rattle.ext_parse.proofs.OneFault.{one-fault, faulty-spells-none}

pub told : (text : List ℕ) (result : Result Parsed ParseFault) (line : ℕ) (which : SyntaxCode)
    → IfOk result (λ parsed. SpellsAt text parsed.program parsed.lines.items) → IfErr result (λ e. Explains text e)
    → SyntaxFault text line which → Tells result line which
told text (Ok parsed) line which found explained fault = faulty-spells-none text line which parsed.program parsed.lines.items fault found
told text (Err (fault.Syntax other another)) line which found explained fault = one-fault text other line another which explained fault
told text (Err fault.Memory) line which found explained fault = tt
