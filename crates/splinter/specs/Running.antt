-- What the command `run` writes.
use Rattle.std.specs.Prelude.{◌≡◌, ◌⊎◌, ℕ, List, [], ◌∷◌, ◌++◌, codes, take, Option, Some, Ok, Err}
use Rattle.std.specs.Fmt.{decimal}
use Rattle.std.specs.List.{flat_map}
use Rattle.sp_outside.specs.Writing.{HoldsPrefix}
use Rattle.journal.specs.declared.entry.Entry.{Entry}
use Rattle.book.specs.Laws.{KilledAreSpent}
use Rattle.journal.specs.Legal.{Legal, InOrder, Within}
use Rattle.sched_text.specs.declared.code.LineCode.{LineCode}
use Rattle.sched_text.specs.declared.line.Kind.TheVariants as kind
use Rattle.sched_text.specs.declared.script.Script.{Script}
use Rattle.sched_text.specs.Judged.{judged}
use Rattle.sched_text.specs.Words.{code_word}
use Rattle.report.specs.Lines.{answer_text, line_of}
use Rattle.report.specs.Entries.{journal_text}
use Rattle.sim.specs.Play.{Answer, Plays}
use Rattle.splinter.specs.declared.status.Status.{Status}
use Rattle.splinter.specs.declared.status.Status.TheVariants as status
use Rattle.sim.specs.Laws.{ConflictsHaveMoved}

-- ---- the text of an input

-- the input spells the script
abbrev pub IsScriptOf : List ℕ → Script → Type 0
IsScriptOf input script = judged kind.Play input ≡ Ok script

-- the input's first bad line, with the first of its codes
abbrev pub IsBadLineOf : List ℕ → ℕ → LineCode → Type 0
IsBadLineOf input line code = judged kind.Play input ≡ Err (line, code)

-- the lines of answers
abbrev pub answers_text : List Answer → List ℕ
answers_text answers = flat_map (λ answer. answer_text answer.0 answer.1) answers

-- the answers, and then the journal
abbrev pub play_text : List Answer → List Entry → List ℕ
play_text answers journal = answers_text answers ++ journal_text journal

-- `script N CODE`
abbrev pub bad_line : ℕ → LineCode → List ℕ
bad_line line code = line_of (codes "script") (decimal line ∷ code_word code ∷ [])

-- the script has no other play
abbrev pub PlaysOnly : Script → List Answer → List Entry → Type 0
PlaysOnly script answers journal =
    (others : List Answer) (another : List Entry) → Plays script others another →
    (others ≡ answers) × (another ≡ journal)

-- The answers and the journal are those of the script's one play, and the journal is one legal history:
-- each committed call is what its source means alone on the tables then standing, each caller's calls
-- stand once and in order, no ungranted table is read or written, every Conflict names a read whose
-- version had moved, and every Killed is a spent budget.
pub record IsOnePlay (script : Script) (answers : List Answer) (journal : List Entry) : Type 0 where
  pub plays : Plays script answers journal
  pub alone : PlaysOnly script answers journal
  pub legal : Legal script.head.rights journal
  pub in_order : InOrder journal
  pub within : Within script.head.rights journal
  pub conflicts : ConflictsHaveMoved answers
  pub killed : KilledAreSpent script.head.rights journal

-- the text is the answers and the journal of the script's one play
pub record IsPlayOf (script : Script) (text : List ℕ) : Type 0 where
  pub answers : List Answer
  pub journal : List Entry
  pub play : IsOnePlay script answers journal
  pub text_is : text ≡ play_text answers journal

-- the input spells a script, and the text is that of its play
pub record IsPlayed (input text : List ℕ) : Type 0 where
  pub script : Script
  pub spelled : IsScriptOf input script
  pub played : IsPlayOf script text

-- the input spells no script, and the text tells its first bad line
pub record IsRefused (input text : List ℕ) : Type 0 where
  pub line : ℕ
  pub code : LineCode
  pub bad : IsBadLineOf input line code
  pub text_is : text ≡ bad_line line code

-- the text of an input
abbrev pub IsTextOf : List ℕ → List ℕ → Type 0
IsTextOf input text = IsPlayed input text ⊎ IsRefused input text

-- ---- what stands after a run

-- the input's end was reached, and the whole text of its play stands behind what was held
pub record WritesPlay (input held : List ℕ) (left after : Option (List ℕ)) : Type 0 where
  pub text : List ℕ
  pub played : IsPlayed input text
  pub ended : left ≡ Some []
  pub written : after ≡ Some (held ++ text)

-- the line of the first bad line stands behind what was held
pub record WritesRefusal (input held : List ℕ) (after : Option (List ℕ)) : Type 0 where
  pub text : List ℕ
  pub refused : IsRefused input text
  pub written : after ≡ Some (held ++ text)

-- a prefix of the input's text, and not all of it, stands behind what was held
pub record WritesPrefix (input held : List ℕ) (after : Option (List ℕ)) : Type 0 where
  pub text : List ℕ
  pub text_is : IsTextOf input text
  pub prefix : HoldsPrefix held text after

-- some of the text, or none or all of it, stands behind what was held
pub record HoldsSome (held text : List ℕ) (after : Option (List ℕ)) : Type 0 where
  pub taken : ℕ
  pub some : after ≡ Some (held ++ take taken text)

-- What a run leaves, by its status: of a source that had this input left and a sink that held these
-- bytes, what is left and what is held after it.
abbrev pub Runs : Status → List ℕ → List ℕ → Option (List ℕ) → Option (List ℕ) → Type 0
Runs status.Ok input held left after = WritesPlay input held left after
Runs status.Script input held left after = WritesRefusal input held after
Runs status.WriteFault input held left after = WritesPrefix input held after
Runs status.ReadFault input held left after = after ≡ Some held
Runs status.Memory input held left after = (text : List ℕ) → IsTextOf input text → HoldsSome held text after
Runs status.Usage input held left after = ⊥
Runs status.Refused input held left after = ⊥

-- What a run tells of the input alone, whatever the sink shows of itself: with Ok it is a script, with
-- Script it is none.
abbrev pub JudgesScript : Status → List ℕ → Type 0
JudgesScript status.Ok input = (text : List ℕ) × IsPlayed input text
JudgesScript status.Script input = (text : List ℕ) × IsRefused input text
JudgesScript status.WriteFault input = Unit {0}
JudgesScript status.ReadFault input = Unit {0}
JudgesScript status.Memory input = Unit {0}
JudgesScript status.Usage input = ⊥
JudgesScript status.Refused input = ⊥

-- what is to be written under a status
abbrev pub IsRunVerdict : List ℕ → Status → List ℕ → Type 0
IsRunVerdict input status.Ok text = IsPlayed input text
IsRunVerdict input status.Script text = IsRefused input text
IsRunVerdict input other text = ⊥
