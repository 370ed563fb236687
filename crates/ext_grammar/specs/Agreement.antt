-- The reader of tokens and the grammar agree: which tokens are those of a program, and which fault
-- others have first.
use Rattle.std.specs.Prelude.{◌≡◌, ℕ, true, List, ◌∷◌, ◌++◌}
use Rattle.ext_mean.specs.declared.codes.SyntaxCode.{SyntaxCode}
use Rattle.ext_mean.specs.declared.token.Placed.{Placed}
use Rattle.ext_mean.specs.declared.tree.Program.{Program}
use Rattle.ext_mean.specs.Bounds.{IsTooLong, IsTooDeep, AreBounded}
use Rattle.ext_mean.specs.Derived.{program_tree}
use Rattle.ext_mean.specs.Grammar.{Whole}
use Rattle.ext_mean.specs.SyntaxFaults.{HasCode}
use Rattle.ext_mean.specs.Text.{item_lines}
use Rattle.ext_mean.specs.Tokens.{tokens_of}
use Rattle.ext_mean.specs.Wording.{Slot, slot_tokens, program_slots, program_tokens}
use Rattle.ext_grammar.specs.Reading.{Ending, accepted, faulty, whole_answer}

-- no token among these is too long, or a bracket too deep
abbrev pub AreSoundAlone : List Placed → Type 0
AreSoundAlone placed =
    (before : List Placed) (there : Placed) (rest : List Placed) → placed ≡ before ++ there ∷ rest →
    (IsTooLong there.token → ⊥) × (IsTooDeep (tokens_of before) there.token → ⊥)

-- a program of the grammar begins with these tokens, and is within the bounds up to there
pub record Begin (placed : List Placed) : Type 0 where
  pub whole : Whole
  pub front : List Slot
  pub more : List Slot
  pub slots : program_slots whole ≡ front ++ more
  pub same : slot_tokens front ≡ tokens_of placed
  pub bounds : AreBounded front

-- these tokens are those of a program, with its tree and the lines of its items
pub record Make (placed : List Placed) (program : Program) (lines : List ℕ) : Type 0 where
  pub whole : Whole
  pub sentence : program_tokens whole ≡ tokens_of placed
  pub bounds : AreBounded (program_slots whole)
  pub tree : program ≡ program_tree whole
  pub places : lines ≡ item_lines (program_slots whole) placed

-- The first fault of these tokens with what stands behind them: one of them has a code behind those
-- before it, or a token is to come behind all of them.
pub data First (placed : List Placed) (ending : Ending) : ℕ → SyntaxCode → Type 0 where
  at_token : {which : SyntaxCode} (before : List Placed) (next : Placed) (rest : List Placed) →
      placed ≡ before ++ next ∷ rest → Begin before → HasCode (tokens_of before) next.token which →
      First placed ending next.line which
  at_end : Begin placed →
      (ending.complete ≡ true → (whole : Whole) → program_tokens whole ≡ tokens_of placed → ⊥) →
      First placed ending ending.line ending.code

-- the tokens of a program within the bounds are accepted, with its tree and its lines
abbrev pub ProgramsAreAccepted : Type 0
ProgramsAreAccepted =
    (placed : List Placed) (ending : Ending) (program : Program) (lines : List ℕ) →
    ending.complete ≡ true → Make placed program lines →
    whole_answer ending placed ≡ accepted program lines

-- only the tokens of a program are accepted
abbrev pub AcceptedArePrograms : Type 0
AcceptedArePrograms =
    (placed : List Placed) (ending : Ending) (program : Program) (lines : List ℕ) →
    AreSoundAlone placed → whole_answer ending placed ≡ accepted program lines →
    (ending.complete ≡ true) × Make placed program lines

-- what is answered of others is their first fault
abbrev pub FaultsAreFirst : Type 0
FaultsAreFirst =
    (placed : List Placed) (ending : Ending) (line : ℕ) (which : SyntaxCode) →
    AreSoundAlone placed → whole_answer ending placed ≡ faulty line which →
    First placed ending line which

-- a token behind which a program within the bounds goes on has no code
abbrev pub PassedHaveNoCode : Type 0
PassedHaveNoCode =
    (before : List Placed) (next : Placed) (rest : List Placed) (which : SyntaxCode) →
    Begin (before ++ next ∷ rest) → HasCode (tokens_of before) next.token which → ⊥
