-- What a check tells of a text is determined by the text.
use Rattle.std.specs.Prelude.{◌≡◌, ℕ, ◌⊎◌, List}
use Rattle.ext_mean.specs.declared.refusal.Refusal.{Refusal}
use Rattle.ext_mean.specs.declared.tree.Program.{Program}
use Rattle.ext_check.specs.Checking.{IsAccepted, IsRefused}

-- a text has at most one first refusal: one line and one code
abbrev pub TextsHaveOneRefusal : Type 0
TextsHaveOneRefusal =
    (text : List ℕ) (line other : ℕ) (which another : Refusal) →
    IsRefused text line which → IsRefused text other another → (line ≡ other) × (which ≡ another)

-- a text that is refused is accepted as no program
abbrev pub RefusedAreNotAccepted : Type 0
RefusedAreNotAccepted =
    (text : List ℕ) (line : ℕ) (which : Refusal) (program : Program) →
    IsRefused text line which → IsAccepted text program → ⊥

-- the text is accepted as a program
pub record IsAcceptedAsSome (text : List ℕ) : Type 0 where
  pub program : Program
  pub accepted : IsAccepted text program

-- the text is refused
pub record HasRefusal (text : List ℕ) : Type 0 where
  pub line : ℕ
  pub which : Refusal
  pub refused : IsRefused text line which

-- every text is accepted or refused
abbrev pub EveryTextIsJudged : Type 0
EveryTextIsJudged = (text : List ℕ) → IsAcceptedAsSome text ⊎ HasRefusal text
