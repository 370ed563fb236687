-- What a text spells is determined by the text.
use Rattle.std.specs.Prelude.{◌≡◌, ℕ, ◌⊎◌, List}
use Rattle.ext_mean.specs.declared.tree.Program.{Program}
use Rattle.ext_mean.specs.declared.codes.SyntaxCode.{SyntaxCode}
use Rattle.ext_mean.specs.SyntaxFaults.{SyntaxFault}
use Rattle.ext_mean.specs.Text.{SpellsAt}

-- a text spells at most one program, with its items on these lines
abbrev pub TextsSpellOneProgram : Type 0
TextsSpellOneProgram =
    (text : List ℕ) (one other : Program) (lines others : List ℕ) →
    SpellsAt text one lines → SpellsAt text other others → (one ≡ other) × (lines ≡ others)

-- a text has at most one fault, on one line and with one code
abbrev pub TextsHaveOneFault : Type 0
TextsHaveOneFault =
    (text : List ℕ) (line other : ℕ) (which another : SyntaxCode) →
    SyntaxFault text line which → SyntaxFault text other another → (line ≡ other) × (which ≡ another)

-- a text that has a fault spells no program
abbrev pub FaultyTextsSpellNone : Type 0
FaultyTextsSpellNone =
    (text : List ℕ) (line : ℕ) (which : SyntaxCode) (program : Program) (lines : List ℕ) →
    SyntaxFault text line which → SpellsAt text program lines → ⊥

-- the text spells a program
pub record SpellsSome (text : List ℕ) : Type 0 where
  pub program : Program
  pub lines : List ℕ
  pub spelled : SpellsAt text program lines

-- the text has a fault
pub record HasFault (text : List ℕ) : Type 0 where
  pub line : ℕ
  pub which : SyntaxCode
  pub fault : SyntaxFault text line which

-- every text spells a program or has a fault
abbrev pub EveryTextIsJudged : Type 0
EveryTextIsJudged = (text : List ℕ) → SpellsSome text ⊎ HasFault text
