-- What a result says of a text whose tokens were scanned.
use Rattle.std.proofs.Common.{◌≡◌, ◌≤◌, sym, ap, ◌∙◌, List, [], ℕ, length, refl}
use Rattle.std.specs.Prelude.{IfOk, IfErr, MatchResult, Result, Ok, Err}
use Rattle.ext_mean.specs.declared.tree.Program.{Program}
use Rattle.ext_mean.specs.Text.{EndsLine, SpellsAt}
use Rattle.sp_base.specs.declared.limits.TheConstants.{MOST_TEXT}
use Rattle.ext_tokens.specs.declared.scan.Scanned.{Scanned}
use Rattle.ext_tokens.specs.Scanning.{IsScanned}
use Rattle.ext_grammar.specs.Reading.{Answer, accepted, faulty, whole_answer}
use Rattle.ext_parse.specs.declared.fault.ParseFault.{ParseFault}
use Rattle.ext_parse.specs.declared.fault.ParseFault.TheVariants as fault
use Rattle.ext_parse.specs.declared.parsed.Parsed.{Parsed}
use Rattle.ext_parse.specs.Readers.{ending_of}
use Rattle.ext_parse.specs.Ends.{IsAnswered}
use Rattle.ext_parse.specs.Faults.{Explains}
use Rattle.ext_parse.proofs.OnlyProved.{only}
use Rattle.ext_parse.proofs.ParseProved as parse

-- the program and the lines of an answer
abbrev program_or : Answer → Program
program_or (accepted program lines) = program
program_or (faulty line which) = record { functions = [] }

abbrev lines_or : Answer → List ℕ
lines_or (accepted program lines) = lines
lines_or (faulty line which) = []

-- the answer to the tokens of a text
abbrev pub answer_to : Scanned → Answer
answer_to scanned = whole_answer (ending_of scanned.end) scanned.tokens.items

pub if-found : (text : List ℕ) (scanned : Scanned) (answer : Answer) (result : Result Parsed ParseFault) → answer ≡ answer_to scanned → length text ≤ MOST_TEXT → EndsLine text → IsScanned text scanned
    → IsAnswered result answer → IfOk result (λ parsed. SpellsAt text parsed.program parsed.lines.items)
if-found text scanned answer (Ok parsed) this size ends is same = parse.found text scanned.tokens.items scanned.end parsed.program parsed.lines.items size ends is (sym this ∙ same)
if-found text scanned answer (Err e) this size ends is same = tt

pub if-fault : (text : List ℕ) (scanned : Scanned) (answer : Answer) (result : Result Parsed ParseFault) → answer ≡ answer_to scanned → length text ≤ MOST_TEXT → EndsLine text → IsScanned text scanned
    → IsAnswered result answer → IfErr result (λ e. Explains text e)
if-fault text scanned answer (Ok parsed) this size ends is same = tt
if-fault text scanned answer (Err (fault.Syntax line which)) this size ends is same = parse.fault text scanned.tokens.items scanned.end line which size ends is (sym this ∙ same)
if-fault text scanned answer (Err fault.Memory) this size ends is same = tt

pub if-only : (text : List ℕ) (scanned : Scanned) (answer : Answer) (result : Result Parsed ParseFault) → answer ≡ answer_to scanned → IsScanned text scanned
    → IsAnswered result answer → (program : Program) (lines : List ℕ) → SpellsAt text program lines
    → MatchResult result (λ parsed. (parsed.program ≡ program) × (parsed.lines.items ≡ lines)) (λ e. e ≡ fault.Memory)
if-only text scanned answer (Ok parsed) this is same program lines spelled =
    let e : accepted parsed.program parsed.lines.items ≡ accepted program lines = sym same ∙ this ∙ only text scanned program lines is spelled in
    (ap program_or e, ap lines_or e)
if-only text scanned answer (Err (fault.Syntax line which)) this is same program lines spelled =
    absurd (let f : faulty line which ≡ accepted program lines = sym same ∙ this ∙ only text scanned program lines is spelled in cc)
if-only text scanned answer (Err fault.Memory) this is same program lines spelled = refl
