-- What the command `check` writes.
use Rattle.std.specs.Prelude.{◌≡◌, ◌⊎◌, ℕ, List, [], ◌∷◌, ◌++◌, length, codes, Option, Some}
use Rattle.std.specs.Fmt.{decimal}
use Rattle.sp_outside.specs.Writing.{HoldsPrefix}
use Rattle.ext_mean.specs.declared.refusal.Refusal.{Refusal}
use Rattle.ext_mean.specs.declared.tree.Program.{Program}
use Rattle.ext_mean.specs.Refusals.{refusal_word}
use Rattle.ext_check.specs.Checking.{IsAccepted, IsRefused}
use Rattle.splinter.specs.declared.status.Status.{Status}
use Rattle.splinter.specs.declared.status.Status.TheVariants as status

-- `ok F`, with the number of functions
abbrev pub accepted_line : ℕ → List ℕ
accepted_line functions = codes "ok " ++ (decimal functions ++ 10 ∷ [])

-- `line N CODE`
abbrev pub refused_line : ℕ → Refusal → List ℕ
refused_line line which = codes "line " ++ (decimal line ++ 32 ∷ (refusal_word which ++ 10 ∷ []))

-- the input is an extension that may run, and this is its one program
pub record IsAcceptance (input text : List ℕ) : Type 0 where
  pub program : Program
  pub accepted : IsAccepted input program
  pub one : (other : Program) → IsAccepted input other → other ≡ program
  pub text_is : text ≡ accepted_line (length program.functions)

-- the input is no such extension, and this is its first refusal
pub record IsRefusal (input text : List ℕ) : Type 0 where
  pub line : ℕ
  pub which : Refusal
  pub refused : IsRefused input line which
  pub one : (other : ℕ) (another : Refusal) → IsRefused input other another → (other ≡ line) × (another ≡ which)
  pub none : (program : Program) → IsAccepted input program → ⊥
  pub text_is : text ≡ refused_line line which

-- the input was read to its end, and the text of its acceptance stands behind what was held
pub record WritesAcceptance (input held : List ℕ) (left after : Option (List ℕ)) : Type 0 where
  pub text : List ℕ
  pub accepts : IsAcceptance input text
  pub ended : left ≡ Some []
  pub written : after ≡ Some (held ++ text)

-- the text of the input's refusal stands behind what was held
pub record WritesRefusal (input held : List ℕ) (after : Option (List ℕ)) : Type 0 where
  pub text : List ℕ
  pub refuses : IsRefusal input text
  pub written : after ≡ Some (held ++ text)

-- a prefix of the input's text stands behind what was held
pub record WritesPrefix (input held : List ℕ) (after : Option (List ℕ)) : Type 0 where
  pub text : List ℕ
  pub text_is : IsAcceptance input text ⊎ IsRefusal input text
  pub prefix : HoldsPrefix held text after

-- What a check leaves, by its status: of a source that had this input left and a sink that held these
-- bytes, what is left and what is held after it.
abbrev pub Checks : Status → List ℕ → List ℕ → Option (List ℕ) → Option (List ℕ) → Type 0
Checks status.Ok input held left after = WritesAcceptance input held left after
Checks status.Refused input held left after = WritesRefusal input held after
Checks status.WriteFault input held left after = WritesPrefix input held after
Checks status.ReadFault input held left after = after ≡ Some held
Checks status.Memory input held left after = after ≡ Some held
Checks status.Script input held left after = ⊥
Checks status.Usage input held left after = ⊥

-- What a check tells of the input alone, whatever the sink shows of itself: with Ok it is an extension
-- that may run, with Refused it is none.
abbrev pub JudgesText : Status → List ℕ → Type 0
JudgesText status.Ok input = (text : List ℕ) × IsAcceptance input text
JudgesText status.Refused input = (text : List ℕ) × IsRefusal input text
JudgesText status.WriteFault input = Unit {0}
JudgesText status.ReadFault input = Unit {0}
JudgesText status.Memory input = Unit {0}
JudgesText status.Script input = ⊥
JudgesText status.Usage input = ⊥

-- what is to be written under a status
abbrev pub IsVerdict : List ℕ → Status → List ℕ → Type 0
IsVerdict input status.Ok text = IsAcceptance input text
IsVerdict input status.Refused text = IsRefusal input text
IsVerdict input other text = ⊥
