-- What comes next in a text: a token, or the end.
use Rattle.std.specs.Prelude.{◌≡◌, ◌≤◌, ◌<◌, ℕ, ◌+◌, ◌⊎◌, List, [], ◌∷◌, ◌++◌, length, drop}
use Rattle.ext_mean.specs.declared.codes.SyntaxCode.{SyntaxCode}
use Rattle.ext_mean.specs.declared.codes.SyntaxCode.TheVariants as code
use Rattle.ext_mean.specs.declared.token.Placed.{Placed}
use Rattle.ext_mean.specs.Tokens.{Tokens, IsGap, newlines}
use Rattle.ext_mean.specs.Bounds.{IsTooLong}
use Rattle.ext_mean.specs.SyntaxFaults.{HasNoToken, BreaksComment}
use Rattle.ext_mean.specs.Text.{EndsLine}
use Rattle.ext_tokens.specs.declared.scan.End.{End}
use Rattle.ext_tokens.specs.declared.scan.End.TheVariants as end
use Rattle.ext_tokens.specs.declared.next.Next.{Next}
use Rattle.ext_tokens.specs.declared.next.Next.TheVariants as next

-- A text, whose first byte is on this line, has a fault at its next place.
pub data NextIsFaulty (text : List ℕ) (line : ℕ) : ℕ → SyntaxCode → Type 0 where
  no_token : {at : ℕ} (byte : ℕ) (more gap : List ℕ) →
      text ≡ gap ++ byte ∷ more → IsGap gap → HasNoToken byte more →
      at ≡ line + newlines gap → NextIsFaulty text line at code.Token
  bad_comment : {at : ℕ} (byte : ℕ) (more words gap : List ℕ) →
      text ≡ gap ++ 0x23 ∷ (words ++ byte ∷ more) → BreaksComment gap words byte →
      at ≡ line + newlines gap → NextIsFaulty text line at code.Token
  long : {at : ℕ} (placed : Placed) (behind : List ℕ) →
      Tokens text line (placed ∷ []) behind → IsTooLong placed.token →
      at ≡ placed.line → NextIsFaulty text line at code.Long

-- a text of whole lines, or of none
abbrev pub IsLined : List ℕ → Type 0
IsLined text = (text ≡ []) ⊎ EndsLine text

-- Only a gap is left, of which the last line is this one, or there is a fault.
abbrev pub EndsNext : List ℕ → ℕ → End → Type 0
EndsNext text line (end.Text last) =
    (IsLined text → IsGap text) × (last + 1 ≡ line + newlines text)
EndsNext text line (end.Fault at which) = NextIsFaulty text line at which

-- what comes next in a text whose first byte is on this line
abbrev pub IsNext : List ℕ → ℕ → Next → Type 0
IsNext text line (next.Token placed size) =
    Tokens text line (placed ∷ []) (drop size text)
    × (IsTooLong placed.token → ⊥) × (0 < size) × (size ≤ length text)
IsNext text line (next.End end) = EndsNext text line end
