-- Every text spells a program or has a fault.
use Rattle.std.proofs.Common.{◌≡◌, ◌≤◌, ◌+◌, ◌⊎◌, ℕ, List, [], ◌∷◌, ◌++◌, length, refl, ap, inl, inr, arith}
use Rattle.std.specs.Prelude.{nat_le, ◌==◌}
use Rattle.std.proofs.lemmas.Bool.{cases_Bool, eqb-true}
use Rattle.std.proofs.lemmas.Bool.Decides.{nat_tests}
use Rattle.ext_mean.specs.declared.codes.SyntaxCode.TheVariants as code
use Rattle.ext_mean.specs.declared.token.Placed.{Placed}
use Rattle.ext_mean.specs.SyntaxFaults.{large, empty, unended}
use Rattle.ext_mean.specs.Text.{EndsLine}
use Rattle.sp_base.specs.declared.limits.TheConstants.{MOST_TEXT}
use Rattle.ext_mean.specs.Tokens.{newline, newlines}
use Rattle.ext_tokens.specs.declared.scan.End.{End}
use Rattle.ext_tokens.specs.Scanning.{HasTokens}
use Rattle.ext_tokens.proofs.Scans.{every-scan}
use Rattle.ext_grammar.specs.Reading.{Answer, accepted, faulty, whole_answer}
use Rattle.ext_parse.specs.Laws.{SpellsSome, HasFault, EveryTextIsJudged}
use Rattle.ext_parse.specs.Readers.{ending_of}
use Rattle.ext_parse.proofs.ParseProved as parse

by-answer : (text : List ℕ) (placed : List Placed) (last : End) (answer : Answer) → length text ≤ MOST_TEXT → EndsLine text → HasTokens text placed last
    → whole_answer (ending_of last) placed ≡ answer → SpellsSome text ⊎ HasFault text
by-answer text placed last (accepted program lines) size ends is same =
    inl (record { program = program; lines = lines; spelled = parse.found text placed last program lines size ends is same })
by-answer text placed last (faulty line which) size ends is same =
    inr (record { line = line; which = which; fault = parse.fault text placed last line which size ends is same })

lines-judged : (text : List ℕ) → length text ≤ MOST_TEXT → EndsLine text → SpellsSome text ⊎ HasFault text
lines-judged text size ends =
    let scan = every-scan text ends in
    by-answer text scan.0 scan.1 (whole_answer (ending_of scan.1) scan.0) size ends scan.2 refl

no-front : (front : List ℕ) → [] ≡ front ++ newline ∷ [] → ⊥
no-front [] same = cc
no-front (byte ∷ front) same = cc

one-last : (byte : ℕ) → (byte ≡ newline → ⊥) → EndsLine (byte ∷ []) → ⊥
one-last byte other ([], same) = other cc
one-last byte other (first ∷ front, same) =
    let behind : [] ≡ front ++ newline ∷ [] = cc in
    no-front front behind

more-last : (byte next : ℕ) (rest : List ℕ) → (EndsLine (next ∷ rest) → ⊥) → EndsLine (byte ∷ next ∷ rest) → ⊥
more-last byte next rest unended_there ([], same) = absurd (let behind : next ∷ rest ≡ [] = cc in cc)
more-last byte next rest unended_there (first ∷ front, same) = unended_there (front, cc)

-- the last byte is a newline, or it is not
ends-cases : (byte : ℕ) (rest : List ℕ) → EndsLine (byte ∷ rest) ⊎ (EndsLine (byte ∷ rest) → ⊥)
ends-cases byte [] =
    elim (cases_Bool (byte == newline)) [
      | inl ends ↦ inl ([], ap (λ x. x ∷ []) (eqb-true byte newline ends))
      | inr other ↦ inr (one-last byte (λ same. grind (arith, nat_tests)))
    ]
ends-cases byte (next ∷ rest) =
    elim (ends-cases next rest) [
      | inl ends ↦ inl (byte ∷ ends.0, ap (λ x. byte ∷ x) ends.1)
      | inr unended_there ↦ inr (more-last byte next rest unended_there)
    ]

short-judged : (text : List ℕ) → length text ≤ MOST_TEXT → SpellsSome text ⊎ HasFault text
short-judged [] size = inr (record { line = 1; which = code.Expected; fault = empty refl })
short-judged (byte ∷ rest) size =
    elim (ends-cases byte rest) [
      | inl ends ↦ lines-judged (byte ∷ rest) size ends
      | inr none ↦ inr (record { line = newlines (byte ∷ rest) + 1; which = code.Expected; fault = unended size (omega arith) none })
    ]

pub every-judged : EveryTextIsJudged
every-judged text =
    elim (cases_Bool (nat_le (length text) MOST_TEXT)) [
      | inl short ↦ short-judged text (grind (arith, nat_tests))
      | inr long ↦ inr (record { line = 1; which = code.Long; fault = large (grind (arith, nat_tests)) })
    ]
