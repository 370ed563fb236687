-- The tokens of a text up to its end, or to the first place that is faulty whatever the grammar says.
use Rattle.std.specs.Prelude.{◌≡◌, ℕ, ◌+◌, List, [], ◌∷◌, ◌++◌}
use Rattle.ext_mean.specs.declared.codes.SyntaxCode.{SyntaxCode}
use Rattle.ext_mean.specs.declared.codes.SyntaxCode.TheVariants as code
use Rattle.ext_mean.specs.declared.token.Placed.{Placed}
use Rattle.ext_mean.specs.Tokens.{Tokens, IsGap, newlines, tokens_of}
use Rattle.ext_mean.specs.Bounds.{IsTooLong, IsTooDeep}
use Rattle.ext_mean.specs.SyntaxFaults.{HasNoToken, BreaksComment, line_behind}
use Rattle.ext_tokens.specs.declared.scan.Scanned.{Scanned}
use Rattle.ext_tokens.specs.declared.scan.End.{End}
use Rattle.ext_tokens.specs.declared.scan.End.TheVariants as end

-- no token among these is too long, nor a bracket too deep
abbrev pub AreShortAndShallow : List Placed → Type 0
AreShortAndShallow placed =
    (before : List Placed) (there : Placed) (rest : List Placed) →
    placed ≡ before ++ there ∷ rest →
    (IsTooLong there.token → ⊥) × (IsTooDeep (tokens_of before) there.token → ⊥)

-- The text begins with these tokens, and then the rest comes. The place behind them is faulty
-- whatever the grammar says: its line and its code.
pub data IsFaulty (text : List ℕ) (placed : List Placed) (rest : List ℕ) :
    ℕ → SyntaxCode → Type 0 where
  no_token : {line : ℕ} (byte : ℕ) (more gap : List ℕ) →
      rest ≡ gap ++ byte ∷ more → IsGap gap → HasNoToken byte more →
      line ≡ line_behind 1 placed + newlines gap → IsFaulty text placed rest line code.Token
  bad_comment : {line : ℕ} (byte : ℕ) (more words gap : List ℕ) →
      rest ≡ gap ++ 0x23 ∷ (words ++ byte ∷ more) → BreaksComment gap words byte →
      line ≡ line_behind 1 placed + newlines gap → IsFaulty text placed rest line code.Token
  long : {line : ℕ} (next : Placed) (behind : List ℕ) →
      Tokens text 1 (placed ++ next ∷ []) behind → IsTooLong next.token →
      line ≡ next.line → IsFaulty text placed rest line code.Long
  deep : {line : ℕ} (next : Placed) (behind : List ℕ) →
      Tokens text 1 (placed ++ next ∷ []) behind → (IsTooLong next.token → ⊥) →
      IsTooDeep (tokens_of placed) next.token →
      line ≡ next.line → IsFaulty text placed rest line code.Deep

-- what stands behind the last token: nothing but a gap, or a fault
abbrev pub IsEnd : List ℕ → List Placed → List ℕ → End → Type 0
IsEnd text placed rest (end.Text line) = IsGap rest × (line ≡ newlines text)
IsEnd text placed rest (end.Fault line which) = IsFaulty text placed rest line which

-- The text begins with the tokens, all sound by themselves, and the end says what stands behind the
-- last one.
pub record HasTokens (text : List ℕ) (placed : List Placed) (last : End) : Type 0 where
  pub rest : List ℕ
  pub tokens : Tokens text 1 placed rest
  pub sound : AreShortAndShallow placed
  pub end : IsEnd text placed rest last

abbrev pub IsScanned : List ℕ → Scanned → Type 0
IsScanned text scanned = HasTokens text scanned.tokens.items scanned.end
