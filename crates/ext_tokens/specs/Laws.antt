-- The tokens of a text, and what stands behind the last one, are determined by the text.
use Rattle.std.specs.Prelude.{◌≡◌, ◌≤◌, ℕ, ◌⊎◌, List, [], ◌∷◌, ◌++◌, length}
use Rattle.ext_mean.specs.declared.token.Placed.{Placed}
use Rattle.ext_mean.specs.Tokens.{Tokens, IsGap, tokens_of}
use Rattle.ext_mean.specs.Bounds.{IsTooLong, IsTooDeep}
use Rattle.ext_mean.specs.SyntaxFaults.{HasNoToken, BreaksComment, line_behind}
use Rattle.ext_mean.specs.Text.{EndsLine}
use Rattle.ext_tokens.specs.declared.scan.End.{End}
use Rattle.ext_tokens.specs.declared.scan.Scanned.{Scanned}
use Rattle.ext_tokens.specs.Scanning.{HasTokens, IsScanned}

-- the longer list goes on where the shorter one ends
abbrev pub IsFront : List Placed → List Placed → Type 0
IsFront some others = (more : List Placed) × (others ≡ some ++ more)

-- of two readings of one text the longer goes on where the shorter ends
abbrev pub TokensAreOne : Type 0
TokensAreOne =
    (text rest behind : List ℕ) (line : ℕ) (some others : List Placed) →
    Tokens text line some rest → Tokens text line others behind → length some ≤ length others →
    (more : List Placed) × (others ≡ some ++ more) × Tokens rest (line_behind line some) more behind

-- a text may be read in parts
abbrev pub TokensJoin : Type 0
TokensJoin =
    (text mid rest : List ℕ) (line : ℕ) (first second : List Placed) →
    Tokens text line first mid → Tokens mid (line_behind line first) second rest →
    Tokens text line (first ++ second) rest

-- what is read may be parted anywhere
abbrev pub TokensPart : Type 0
TokensPart =
    (text rest : List ℕ) (line : ℕ) (first second : List Placed) →
    Tokens text line (first ++ second) rest →
    (mid : List ℕ) × Tokens text line first mid × Tokens mid (line_behind line first) second rest

-- no token begins this text: it is only a gap, or a fault stands behind the gap at its front
pub data HasNoFirst (text : List ℕ) : Type 0 where
  only_gap : IsGap text → HasNoFirst text
  no_token : (byte : ℕ) (more gap : List ℕ) →
      text ≡ gap ++ byte ∷ more → IsGap gap → HasNoToken byte more → HasNoFirst text
  bad_comment : (byte : ℕ) (more words gap : List ℕ) →
      text ≡ gap ++ 0x23 ∷ (words ++ byte ∷ more) → BreaksComment gap words byte → HasNoFirst text

-- where no token begins what is left, the tokens are all that the text has
abbrev pub NoTokenFollows : Type 0
NoTokenFollows =
    (text rest behind : List ℕ) (line : ℕ) (placed others : List Placed) →
    Tokens text line placed rest → HasNoFirst rest → Tokens text line others behind →
    IsFront others placed

-- A reading that has more tokens than were scanned begins with those and with the next one, which is
-- too long or too deep.
abbrev pub PassesFault : List ℕ → List Placed → List Placed → Type 0
PassesFault text scanned placed =
    (next : Placed) × (behind : List ℕ)
    × Tokens text 1 (scanned ++ next ∷ []) behind
    × (IsTooLong next.token ⊎ IsTooDeep (tokens_of scanned) next.token)
    × IsFront (scanned ++ next ∷ []) placed

-- Every reading of a text that was scanned is a front of the tokens, or goes past a token that is too
-- long or too deep.
abbrev pub EndsAreOne : Type 0
EndsAreOne =
    (text rest : List ℕ) (scanned : Scanned) (placed : List Placed) →
    IsScanned text scanned → Tokens text 1 placed rest →
    IsFront placed scanned.tokens.items ⊎ PassesFault text scanned.tokens.items placed

-- every text of whole lines has its tokens, up to its end or to a fault
abbrev pub EveryTextHasTokens : Type 0
EveryTextHasTokens =
    (text : List ℕ) → EndsLine text → (placed : List Placed) × (last : End) × HasTokens text placed last
