-- What a text spells, and its first fault, by the tokens that were scanned and the answer to them.
use Rattle.std.proofs.Common.{◌≡◌, ◌≤◌, ℕ, true, List, [], ◌∷◌, ◌++◌, length, refl, sym, subst, ap}
use Rattle.ext_mean.specs.declared.codes.SyntaxCode.{SyntaxCode}
use Rattle.ext_mean.specs.declared.codes.SyntaxCode.TheVariants as code
use Rattle.ext_mean.specs.declared.token.Placed.{Placed}
use Rattle.ext_mean.specs.declared.tree.Program.{Program}
use Rattle.ext_mean.specs.Grammar.{Whole}
use Rattle.ext_mean.specs.SyntaxFaults.{SyntaxFault, no_token, bad_comment, bad_token, early, HasCode, IsSoundUpTo, BreaksComment}
use Rattle.ext_mean.specs.SyntaxFaults as has
use Rattle.ext_mean.specs.Text.{EndsLine, SpellsAt}
use Rattle.sp_base.specs.declared.limits.TheConstants.{MOST_TEXT}
use Rattle.ext_mean.specs.Tokens.{IsGap, Tokens, tokens_of}
use Rattle.ext_mean.specs.Wording.{program_tokens}
use Rattle.ext_tokens.specs.declared.scan.End.{End}
use Rattle.ext_tokens.specs.declared.scan.End.TheVariants as end
use Rattle.ext_tokens.specs.Scanning as scanning
use Rattle.ext_tokens.specs.Scanning.{HasTokens, IsEnd, IsFaulty}
use Rattle.ext_tokens.proofs.Readings.{tokens-part}
use Rattle.ext_grammar.specs.Agreement.{Begin, First, at_token, at_end}
use Rattle.ext_grammar.specs.Reading.{accepted, faulty, whole_answer}
use Rattle.ext_grammar.proofs.AgreementProved.{accepted-are-programs, faults-are-first}
use Rattle.ext_parse.specs.Readers.{ending_of}

-- where the text ends behind the tokens, only a gap is left
complete-gap : (text rest : List ℕ) (placed : List Placed) (last : End) → (ending_of last).complete ≡ true → IsEnd text placed rest last → IsGap rest
complete-gap text rest placed (end.Text line) complete is = is.0
complete-gap text rest placed (end.Fault line which) complete is = absurd cc

pub found : (text : List ℕ) (placed : List Placed) (last : End) (program : Program) (lines : List ℕ) → length text ≤ MOST_TEXT → EndsLine text → HasTokens text placed last → whole_answer (ending_of last) placed ≡ accepted program lines → SpellsAt text program lines
found text placed last program lines size ends is same =
    let made = accepted-are-programs placed (ending_of last) program lines is.sound same in
    record {
      reading = record {
        placed = placed;
        last = is.rest;
        whole = made.1.whole;
        size = size;
        ends = ends;
        tokens = is.tokens;
        gap = complete-gap text is.rest placed last made.0 is.end;
        sentence = made.1.sentence;
        bounds = made.1.bounds;
      };
      tree = made.1.tree;
      places = made.1.places;
    }

-- a program's tokens up to a place are sound
sound-begin : (text : List ℕ) (placed : List Placed) (rest : List ℕ) → Tokens text 1 placed rest → Begin placed → IsSoundUpTo text placed rest
sound-begin text placed rest tokens begun = record {
  tokens = tokens;
  whole = begun.whole;
  front = begun.front;
  more = begun.more;
  slots = begun.slots;
  same = begun.same;
  bounds = begun.bounds;
}

-- the first fault is behind all tokens
fault-behind : (text rest : List ℕ) (placed : List Placed) (last : End) → length text ≤ MOST_TEXT → EndsLine text → Tokens text 1 placed rest → IsEnd text placed rest last → Begin placed
    → ((ending_of last).complete ≡ true → (whole : Whole) → program_tokens whole ≡ tokens_of placed → ⊥) → SyntaxFault text (ending_of last).line (ending_of last).code
fault-behind text rest placed (end.Text line) size ends tokens is begun none =
    subst (λ z. SyntaxFault text z code.Expected) (sym is.1)
    (early placed rest size ends (sound-begin text placed rest tokens begun) is.0 (none refl))
fault-behind text rest placed (end.Fault line which) size ends tokens (scanning.no_token byte more gap same before shown line-is) begun none =
    subst (λ z. SyntaxFault text z code.Token) (sym line-is)
    (no_token byte more placed gap size ends (sound-begin text placed (gap ++ byte ∷ more) (subst (Tokens text 1 placed) same tokens) begun) before shown)
fault-behind text rest placed (end.Fault line which) size ends tokens (scanning.bad_comment byte more words gap same broken line-is) begun none =
    subst (λ z. SyntaxFault text z code.Token) (sym line-is)
    (bad_comment byte more words placed gap size ends (sound-begin text placed (gap ++ 0x23 ∷ (words ++ byte ∷ more)) (subst (Tokens text 1 placed) same tokens) begun) broken)
fault-behind text rest placed (end.Fault line which) size ends tokens (scanning.long next behind longer long line-is) begun none =
    subst (λ z. SyntaxFault text z code.Long) (sym line-is)
    (bad_token placed next rest behind size ends (sound-begin text placed rest tokens begun) longer (has.long long))
fault-behind text rest placed (end.Fault line which) size ends tokens (scanning.deep next behind longer short deep line-is) begun none =
    subst (λ z. SyntaxFault text z code.Deep) (sym line-is)
    (bad_token placed next rest behind size ends (sound-begin text placed rest tokens begun) longer (has.deep short deep))

append-one : (before : List Placed) (next : Placed) (after : List Placed) → (before ++ next ∷ []) ++ after ≡ before ++ next ∷ after
append-one [] next after = refl
append-one (first ∷ before) next after = ap (λ z. first ∷ z) (append-one before next after)

-- the first fault is one of the tokens
fault-among : (text rest : List ℕ) (placed before after : List Placed) (next : Placed) (which : SyntaxCode) → length text ≤ MOST_TEXT → EndsLine text → Tokens text 1 placed rest
    → placed ≡ before ++ next ∷ after → Begin before → HasCode (tokens_of before) next.token which → SyntaxFault text next.line which
fault-among text rest placed before after next which size ends tokens same begun has_code =
    let all : Tokens text 1 (before ++ next ∷ after) rest = subst (λ z. Tokens text 1 z rest) same tokens in
    let apart = tokens-part text rest 1 before (next ∷ after) all in
    let joined : before ++ next ∷ after ≡ (before ++ next ∷ []) ++ after = sym (append-one before next after) in
    let upto = tokens-part text rest 1 (before ++ next ∷ []) after (subst (λ z. Tokens text 1 z rest) joined all) in
    bad_token before next apart.0 upto.0 size ends (sound-begin text before apart.0 apart.1 begun) upto.1 has_code

first-fault : (text : List ℕ) (placed : List Placed) (last : End) (line : ℕ) (which : SyntaxCode) → length text ≤ MOST_TEXT → EndsLine text → HasTokens text placed last
    → First placed (ending_of last) line which → SyntaxFault text line which
first-fault text placed last line which size ends is (at_token before next rest same begun has_code) =
    fault-among text is.rest placed before rest next _ size ends is.tokens same begun has_code
first-fault text placed last line which size ends is (at_end begun none) =
    fault-behind text is.rest placed last size ends is.tokens is.end begun none

pub fault : (text : List ℕ) (placed : List Placed) (last : End) (line : ℕ) (which : SyntaxCode) → length text ≤ MOST_TEXT → EndsLine text → HasTokens text placed last
    → whole_answer (ending_of last) placed ≡ faulty line which → SyntaxFault text line which
fault text placed last line which size ends is same =
    first-fault text placed last line which size ends is (faults-are-first placed (ending_of last) line which is.sound same)
