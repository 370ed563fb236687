-- The syntax fault of a text that spells no program: the first place to which a code applies.
use Rattle.std.specs.Prelude.{◌≡◌, ◌<◌, ◌≤◌, ℕ, ◌+◌, false, IsTrue, List, [], ◌∷◌, ◌++◌, length}
use Rattle.ext_mean.specs.declared.codes.SyntaxCode.{SyntaxCode}
use Rattle.ext_mean.specs.declared.codes.SyntaxCode.TheVariants as code
use Rattle.ext_mean.specs.declared.token.Token.{Token}
use Rattle.ext_mean.specs.declared.token.Placed.{Placed}
use Rattle.ext_mean.specs.Tokens.{Tokens, tokens_of, IsGap, BeginsWith, is_blank, is_text_byte, is_comment_byte, all_pass, newlines}
use Rattle.ext_mean.specs.Grammar.{Whole}
use Rattle.ext_mean.specs.Wording.{Slot, slot_tokens, program_slots, program_tokens}
use Rattle.ext_mean.specs.Bounds.{IsTooLong, IsTooDeep, IsTooMany, AreBounded}
use Rattle.ext_mean.specs.Text.{EndsLine}
use Rattle.sp_base.specs.declared.limits.TheConstants.{MOST_TEXT}

-- some program of the grammar, without bounds, begins with these tokens
abbrev pub IsBeginning : List Token → Type 0
IsBeginning tokens =
    (whole : Whole) × (rest : List Token) × (program_tokens whole ≡ tokens ++ rest)

-- some program of the grammar goes on behind these tokens where this one is too many
pub record GoesOnTooMany (before : List Token) (next : Token) : Type 0 where
  pub whole : Whole
  pub front : List Slot
  pub there : Slot
  pub rest : List Slot
  pub slots : program_slots whole ≡ front ++ there ∷ rest
  pub behind : slot_tokens front ≡ before
  pub many : IsTooMany front there next

-- the code of a token behind those of a beginning: the first that applies
pub data HasCode (before : List Token) (next : Token) : SyntaxCode → Type 0 where
  long : IsTooLong next → HasCode before next code.Long
  deep : (IsTooLong next → ⊥) → IsTooDeep before next → HasCode before next code.Deep
  many : (IsTooLong next → ⊥) → (IsTooDeep before next → ⊥) → GoesOnTooMany before next →
      HasCode before next code.Many
  expected : (IsTooLong next → ⊥) → (IsTooDeep before next → ⊥) → (GoesOnTooMany before next → ⊥) →
      (IsBeginning (before ++ next ∷ []) → ⊥) → HasCode before next code.Expected

-- The text begins with these tokens, and so does a program of the grammar, which is within the
-- bounds up to there: no code applies to any of them.
pub record IsSoundUpTo (text : List ℕ) (placed : List Placed) (rest : List ℕ) : Type 0 where
  pub tokens : Tokens text 1 placed rest
  pub whole : Whole
  pub front : List Slot
  pub more : List Slot
  pub slots : program_slots whole ≡ front ++ more
  pub same : slot_tokens front ≡ tokens_of placed
  pub bounds : AreBounded front

-- the line of the place behind these tokens, on which none of them ends
abbrev pub line_behind : ℕ → List Placed → ℕ
line_behind line [] = line
line_behind line (placed ∷ more) = line_behind placed.line more

-- no token begins where neither a blank nor a comment does
pub record HasNoToken (byte : ℕ) (rest : List ℕ) : Type 0 where
  pub shown : is_blank byte ≡ false
  pub comment : byte ≡ 0x23 → ⊥
  pub none : (bytes behind : List ℕ) (first : Token) →
      BeginsWith (byte ∷ rest) bytes first behind → ⊥

-- a byte that is none of the language, inside a comment
pub record BreaksComment (gap words : List ℕ) (byte : ℕ) : Type 0 where
  pub before : IsGap gap
  pub good : IsTrue (all_pass is_comment_byte words)
  pub bad : is_text_byte byte ≡ false

-- The syntax fault of a text: its line and its code.
pub data SyntaxFault (text : List ℕ) : ℕ → SyntaxCode → Type 0 where
  -- the text has more than 16,384 bytes
  large : MOST_TEXT < length text → SyntaxFault text 1 code.Long
  -- the text is empty
  empty : text ≡ [] → SyntaxFault text 1 code.Expected
  -- the last byte is no newline
  unended : length text ≤ MOST_TEXT → 0 < length text → (EndsLine text → ⊥) →
      SyntaxFault text (newlines text + 1) code.Expected
  -- no token begins behind those before it
  no_token : (byte : ℕ) (rest : List ℕ) (placed : List Placed) (gap : List ℕ) →
      length text ≤ MOST_TEXT → EndsLine text →
      IsSoundUpTo text placed (gap ++ byte ∷ rest) → IsGap gap → HasNoToken byte rest →
      SyntaxFault text (line_behind 1 placed + newlines gap) code.Token
  -- a byte of a comment is none of the language
  bad_comment : (byte : ℕ) (rest words : List ℕ) (placed : List Placed) (gap : List ℕ) →
      length text ≤ MOST_TEXT → EndsLine text →
      IsSoundUpTo text placed (gap ++ 0x23 ∷ (words ++ byte ∷ rest)) → BreaksComment gap words byte →
      SyntaxFault text (line_behind 1 placed + newlines gap) code.Token
  -- a token has a code behind those before it
  bad_token : {which : SyntaxCode} (placed : List Placed) (next : Placed) (rest behind : List ℕ) →
      length text ≤ MOST_TEXT → EndsLine text →
      IsSoundUpTo text placed rest → Tokens text 1 (placed ++ next ∷ []) behind →
      HasCode (tokens_of placed) next.token which → SyntaxFault text next.line which
  -- the text ends before the program does
  early : (placed : List Placed) (rest : List ℕ) →
      length text ≤ MOST_TEXT → EndsLine text →
      IsSoundUpTo text placed rest → IsGap rest →
      ((whole : Whole) → program_tokens whole ≡ tokens_of placed → ⊥) →
      SyntaxFault text (newlines text) code.Expected
