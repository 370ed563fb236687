-- The tokens that were read so far, and what stands behind the last one.
use Rattle.std.proofs.Common.{◌≡◌, ℕ, ◌+◌, ◌≤◌, List, [], ◌∷◌, ◌++◌, ◌⊎◌, length, drop, refl, sym, ap, ◌∙◌, subst, inl, inr, arith, length-append, suc}
use Rattle.std.specs.Prelude.{◌==◌, IsTrue, if◌then◌else◌}
use Rattle.std.proofs.lemmas.Bool.{cases_Bool}
use Rattle.ext_mean.specs.declared.codes.SyntaxCode.{SyntaxCode}
use Rattle.ext_mean.specs.declared.codes.SyntaxCode.TheVariants as code
use Rattle.ext_mean.specs.declared.token.Token.{Token}
use Rattle.ext_mean.specs.declared.token.Token.TheVariants as token
use Rattle.ext_mean.specs.declared.token.Mark.{Mark}
use Rattle.ext_mean.specs.declared.token.Mark.TheVariants as mark
use Rattle.ext_mean.specs.declared.token.Placed.{Placed}
use Rattle.ext_mean.specs.Tokens.{Tokens, tokens_of, newlines, newline}
use Rattle.ext_mean.specs.Bounds.{IsTooLong, IsTooDeep, is_opening, open_with, open_behind}
use Rattle.ext_mean.specs.SyntaxFaults.{line_behind}
use Rattle.ext_mean.specs.Text.{EndsLine}
use Rattle.ext_tokens.specs.declared.scan.End.{End}
use Rattle.ext_tokens.specs.declared.scan.End.TheVariants as end
use Rattle.ext_tokens.specs.declared.next.Next.TheVariants as next
use Rattle.ext_tokens.specs.Next.{NextIsFaulty, no_token, bad_comment, long, IsLined, EndsNext, IsNext}
use Rattle.ext_tokens.specs.Scanning.{AreShortAndShallow, IsFaulty, IsEnd}
use Rattle.ext_tokens.specs.Scanning as scanning
use Rattle.ext_tokens.proofs.Readings.{tokens-join, tokens-lines, tokens-up, tokens-front}

-- a text, its tokens so far, what is left, the line of its first byte, and the open brackets
pub record IsSoFar (text : List ℕ) (placed : List Placed) (rest : List ℕ) (line brackets : ℕ) : Type 0 where
  pub tokens : Tokens text 1 placed rest
  pub sound : AreShortAndShallow placed
  pub lines : line ≡ line_behind 1 placed
  pub opened : brackets ≡ open_behind 0 (tokens_of placed)
  pub few : brackets ≤ 32

-- Each token so far is sound by itself.

pub none-there : (before rest : List Placed) (there : Placed) → [] ≡ before ++ there ∷ rest → ⊥
none-there [] rest there same = cc
none-there (first ∷ before) rest there same = cc

split-last : (placed before rest : List Placed) (last there : Placed) → placed ++ last ∷ [] ≡ before ++ there ∷ rest
    → ((before ≡ placed) × (there ≡ last)) ⊎ ((less : List Placed) × (placed ≡ before ++ there ∷ less))
split-last [] [] rest last there same = inl (refl, cc)
split-last [] (first ∷ before) rest last there same = absurd (none-there before rest there cc)
split-last (own ∷ placed) [] rest last there same = inr (placed, cc)
split-last (own ∷ placed) (first ∷ before) rest last there same =
    let heads : own ≡ first = cc in
    elim (split-last placed before rest last there cc) [
      | inl end ↦ inl (ap (λ x. x ∷ before) (sym heads) ∙ ap (λ x. own ∷ x) end.0, end.1)
      | inr more ↦ inr (more.0, ap (λ x. own ∷ x) more.1 ∙ ap (λ x. x ∷ (before ++ there ∷ more.0)) heads)
    ]

sound-more : (placed : List Placed) (last : Placed) → AreShortAndShallow placed → (IsTooLong last.token → ⊥)
    → (IsTooDeep (tokens_of placed) last.token → ⊥) → AreShortAndShallow (placed ++ last ∷ [])
sound-more placed last sound short shallow before there rest same =
    let P : Placed → Type 0 = λ item. (IsTooLong item.token → ⊥) × (IsTooDeep (tokens_of before) item.token → ⊥) in
    let Q : List Placed → Type 0 = λ items. (IsTooLong last.token → ⊥) × (IsTooDeep (tokens_of items) last.token → ⊥) in
    elim (split-last placed before rest last there same) [
      | inl end ↦ subst P (sym end.1) (subst Q (sym end.0) (short, shallow))
      | inr more ↦ sound before there more.0 more.1
    ]

-- The open brackets.

opened-more : (placed : List Placed) (last : Placed) (before : ℕ)
    → open_behind before (tokens_of (placed ++ last ∷ [])) ≡ open_with (open_behind before (tokens_of placed)) last.token
opened-more [] last before = refl
opened-more (first ∷ placed) last before = opened-more placed last (open_with before first.token)

below-bound : (brackets : ℕ) → brackets ≤ 32 → (32 ≤ brackets → ⊥) → brackets + 1 ≤ 32
below-bound brackets few more = grind arith

mark-few : (which : Mark) (brackets : ℕ) → brackets ≤ 32 → (IsTrue (is_opening (token.Mark which)) × (32 ≤ brackets) → ⊥)
    → open_with brackets (token.Mark which) ≤ 32
mark-few mark.Open brackets few shallow = below-bound brackets few (λ more. shallow (refl, more))
mark-few mark.Close brackets few shallow = omega arith
mark-few mark.OpenBlock brackets few shallow = below-bound brackets few (λ more. shallow (refl, more))
mark-few mark.CloseBlock brackets few shallow = omega arith
mark-few mark.Comma brackets few shallow = few
mark-few mark.Semicolon brackets few shallow = few
mark-few mark.Colon brackets few shallow = few
mark-few mark.Assign brackets few shallow = few
mark-few mark.Arrow brackets few shallow = few
mark-few mark.Arm brackets few shallow = few

open-few : (which : Token) (brackets : ℕ) → brackets ≤ 32 → (IsTrue (is_opening which) × (32 ≤ brackets) → ⊥)
    → open_with brackets which ≤ 32
open-few (token.Word word) brackets few shallow = few
open-few (token.Name name) brackets few shallow = few
open-few (token.Number number) brackets few shallow = few
open-few (token.Str items) brackets few shallow = few
open-few (token.Mark which) brackets few shallow = mark-few which brackets few shallow
open-few token.Not brackets few shallow = few
open-few (token.Binary operator) brackets few shallow = few

-- One token more, or the end.

line-more : (placed : List Placed) (last : Placed) (line : ℕ) → line_behind line (placed ++ last ∷ []) ≡ last.line
line-more [] last line = refl
line-more (first ∷ placed) last line = line-more placed last first.line

next-tokens : (text rest behind : List ℕ) (placed : List Placed) (line brackets : ℕ) (there : Placed) → IsSoFar text placed rest line brackets
    → Tokens rest line (there ∷ []) behind → Tokens text 1 (placed ++ there ∷ []) behind
next-tokens text rest behind placed line brackets there so_far is =
    let P : ℕ → Type 0 = λ n. Tokens rest n (there ∷ []) behind in
    tokens-join text rest behind 1 placed (there ∷ []) so_far.tokens (subst P so_far.lines is)

too-deep : (text rest : List ℕ) (placed : List Placed) (line brackets : ℕ) (which : Token) → IsSoFar text placed rest line brackets
    → IsTrue (is_opening which) × (32 ≤ brackets) → IsTooDeep (tokens_of placed) which
too-deep text rest placed line brackets which so_far (opening, many) = (opening, omega (arith, so_far.opened))

shallow : (text rest : List ℕ) (placed : List Placed) (line brackets : ℕ) (which : Token) → IsSoFar text placed rest line brackets
    → (IsTrue (is_opening which) × (32 ≤ brackets) → ⊥) → IsTooDeep (tokens_of placed) which → ⊥
shallow text rest placed line brackets which so_far not_deep (opening, many) = not_deep (opening, omega (arith, so_far.opened))

pub so-far-more : (text rest : List ℕ) (placed : List Placed) (line brackets size : ℕ) (there : Placed) → IsSoFar text placed rest line brackets
    → IsNext rest line (next.Token there size) → (IsTrue (is_opening there.token) × (32 ≤ brackets) → ⊥)
    → IsSoFar text (placed ++ there ∷ []) (drop size rest) there.line (open_with brackets there.token)
so-far-more text rest placed line brackets size there so_far is not_deep = record {
  tokens = next-tokens text rest (drop size rest) placed line brackets there so_far is.0;
  sound = sound-more placed there so_far.sound is.1 (shallow text rest placed line brackets there.token so_far not_deep);
  lines = sym (line-more placed there 1);
  opened = ap (λ n. open_with n there.token) so_far.opened ∙ sym (opened-more placed there 0);
  few = open-few there.token brackets so_far.few not_deep;
}

pub so-far-deep : (text rest : List ℕ) (placed : List Placed) (line brackets size : ℕ) (there : Placed) → IsSoFar text placed rest line brackets
    → IsNext rest line (next.Token there size) → IsTrue (is_opening there.token) × (32 ≤ brackets) → IsFaulty text placed rest there.line code.Deep
so-far-deep text rest placed line brackets size there so_far is deep =
    scanning.deep there (drop size rest) (next-tokens text rest (drop size rest) placed line brackets there so_far is.0) is.1
    (too-deep text rest placed line brackets there.token so_far deep) refl

none-right : (front rest : List ℕ) → front ++ rest ≡ [] → rest ≡ []
none-right [] rest same = same
none-right (byte ∷ front) rest same = absurd cc

-- what is left of whole lines is whole lines
lined-rest : (front rest start : List ℕ) → front ++ rest ≡ start ++ newline ∷ [] → IsLined rest
lined-rest [] rest start same = inr (start, same)
lined-rest (byte ∷ front) rest [] same = inl (none-right front rest cc)
lined-rest (byte ∷ front) rest (other ∷ start) same = lined-rest front rest start cc

pub rest-lined : (text rest : List ℕ) (line : ℕ) (placed : List Placed) → Tokens text line placed rest → EndsLine text → IsLined rest
rest-lined text rest line placed is (start, ends) =
    let front = tokens-front text rest line placed is in
    lined-rest front.0 rest start (sym front.1 ∙ ends)

faulty : (text rest : List ℕ) (placed : List Placed) (line brackets at : ℕ) (which : SyntaxCode) → IsSoFar text placed rest line brackets
    → NextIsFaulty rest line at which → IsFaulty text placed rest at which
faulty text rest placed line brackets at which so_far (no_token byte more gap whole before none at-is) =
    scanning.no_token byte more gap whole before none (at-is ∙ ap (λ n. n + newlines gap) so_far.lines)
faulty text rest placed line brackets at which so_far (bad_comment byte more words gap whole breaks at-is) =
    scanning.bad_comment byte more words gap whole breaks (at-is ∙ ap (λ n. n + newlines gap) so_far.lines)
faulty text rest placed line brackets at which so_far (long there behind is over at-is) =
    scanning.long there behind (next-tokens text rest behind placed line brackets there so_far is) over at-is

pub so-far-end : (text rest : List ℕ) (placed : List Placed) (line brackets : ℕ) (last : End) → IsSoFar text placed rest line brackets
    → EndsLine text → EndsNext rest line last → IsEnd text placed rest last
so-far-end text rest placed line brackets (end.Text at) so_far ends is = (
  is.0 (rest-lined text rest 1 placed so_far.tokens ends),
  omega (arith, is.1, so_far.lines, tokens-lines text rest 1 placed so_far.tokens),
)
so-far-end text rest placed line brackets (end.Fault at which) so_far ends is = faulty text rest placed line brackets at which so_far is

-- What the reader of the next token asks for.

line-few : (byte some all : ℕ) → some ≤ all → (if byte == newline then 1 else 0) + some ≤ suc all
line-few byte some all less =
    elim (cases_Bool (byte == newline)) [ inl ends ↦ rw ends (omega arith) | inr goes ↦ rw goes (omega arith) ]

newlines-few : (text : List ℕ) → newlines text ≤ length text
newlines-few [] = omega arith
newlines-few (byte ∷ text) =
    let rest : newlines text ≤ length text = newlines-few text in
    line-few byte (newlines text) (length text) rest

pub so-far-size : (text rest : List ℕ) (placed : List Placed) (line brackets : ℕ) → IsSoFar text placed rest line brackets → length rest ≤ length text
so-far-size text rest placed line brackets so_far =
    let front = tokens-front text rest 1 placed so_far.tokens in
    omega (arith, ap length front.1, length-append front.0 rest)

pub so-far-begun : (text rest : List ℕ) (placed : List Placed) (line brackets : ℕ) → IsSoFar text placed rest line brackets → 1 ≤ line
so-far-begun text rest placed line brackets so_far = omega (arith, so_far.lines, tokens-up text rest 1 placed so_far.tokens)

pub so-far-lines : (text rest : List ℕ) (placed : List Placed) (line brackets : ℕ) → IsSoFar text placed rest line brackets
    → line + newlines rest ≤ 1 + length text
so-far-lines text rest placed line brackets so_far =
    omega (arith, so_far.lines, tokens-lines text rest 1 placed so_far.tokens, newlines-few text)
