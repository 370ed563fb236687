-- The script that a text spells, or its first bad line with the first code that applies.
use Rattle.std.specs.Prelude.{◌≡◌, ℕ, zero, suc, ◌+◌, nat_lt, List, [], ◌∷◌, length, Option, Some, None, Result, Ok, Err, if◌then◌else◌}
use Rattle.sched_text.specs.declared.code.LineCode.{LineCode}
use Rattle.sched_text.specs.declared.code.LineCode.TheVariants.{Long, Many}
use Rattle.sched_text.specs.declared.draft.Draft.{Draft}
use Rattle.sched_text.specs.declared.fault.ScriptFault.{ScriptFault}
use Rattle.sched_text.specs.declared.fault.ScriptFault.TheVariants as faults
use Rattle.sched_text.specs.declared.line.Kind.{Kind}
use Rattle.sched_text.specs.declared.line.ScriptLine.{ScriptLine}
use Rattle.sched_text.specs.declared.script.Script.{Script}
use Rattle.sched_text.specs.Results.{◌>>=◌}
use Rattle.sched_text.specs.Texts.{lines_of, bare, is_skipped}
use Rattle.sched_text.specs.Lines.{line_of}
use Rattle.sched_text.specs.Drafts.{code_of, with_line, lines_taken, no_lines, script_of}

-- a line's number and what is wrong with it
abbrev pub BadLine : Type 0
BadLine = ℕ × LineCode

-- the value, if there is no code
abbrev pub unless : {A : Type 0} → Option LineCode → A → Result A LineCode
unless None x = Ok x
unless (Some code) x = Err code

-- what is behind a line: the draft with what it says, and how many lines belong to its text
unfoldable pub after_saying : ℕ → List (List ℕ) → Draft → ScriptLine → Result (Draft × ℕ) LineCode
after_saying number behind draft says =
    unless (code_of draft behind says) (with_line number behind says draft, lines_taken says)

unfoldable pub after_line : Kind → ℕ → List ℕ → List (List ℕ) → Draft → Result (Draft × ℕ) LineCode
after_line kind number line behind draft =
    if is_skipped line then Ok (draft, 0)
    else line_of kind line >>= after_saying number behind draft

-- a code with the number of its line
abbrev pub told : {A B : Type 0} → ℕ → Result A LineCode → (A → Result B BadLine) → Result B BadLine
told number (Ok x) next = next x
told number (Err code) next = Err (number, code)

-- line 65,537 is Many, whatever it is
abbrev pub unless_many : {B : Type 0} → ℕ → Result B BadLine → Result B BadLine
unless_many number others = if nat_lt 65536 number then Err (number, Many) else others

-- how a line is judged: by its number, the line, the lines behind it and the draft before it
abbrev pub LineJudge : Type 0 → Type 0
LineJudge D = ℕ → List ℕ → List (List ℕ) → D → Result (D × ℕ) LineCode

-- the draft behind the lines from this number on, of which the first ones belong to a text
abbrev pub judged_from : {D : Type 0} → LineJudge D → ℕ → ℕ → D → List (List ℕ) → Result D BadLine
judged_from judge number texts draft [] = Ok draft
judged_from judge number (suc texts) draft (line ∷ behind) =
    unless_many number (judged_from judge (number + 1) texts draft behind)
judged_from judge number zero draft (line ∷ behind) =
    unless_many number (told number (judge number (bare line) behind draft)
    (λ after. judged_from judge (number + 1) after.1 after.0 behind))

-- the script of the draft, if there is one
abbrev pub made : {D S : Type 0} → (D → S) → Result D BadLine → Result S BadLine
made whole (Ok draft) = Ok (whole draft)
made whole (Err bad) = Err bad

-- what a whole text comes to; one of more than 4,194,304 bytes is Long at line 0
abbrev pub judged_whole : {D S : Type 0} → LineJudge D → D → (D → S) → List ℕ → Result S BadLine
judged_whole judge draft whole text =
    if nat_lt 4194304 (length text) then Err (0, Long)
    else made whole (judged_from judge 1 0 draft (lines_of text))

-- the script that a text spells, or its first bad line
unfoldable pub judged : Kind → List ℕ → Result Script BadLine
judged kind text = judged_whole (after_line kind) no_lines script_of text

-- the answer is the script that the text spells, or its first bad line; memory is free
abbrev pub Answers : {A : Type 0} → Result A ScriptFault → Result A BadLine → Type 0
Answers (Ok x) judged = judged ≡ Ok x
Answers (Err (faults.BadLine line code)) judged = judged ≡ Err (line, code)
Answers (Err faults.Memory) judged = Unit {0}
