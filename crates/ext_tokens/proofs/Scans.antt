-- Every text of whole lines has its tokens up to its end or to its first fault.
use Rattle.std.proofs.Common.{◌≡◌, ℕ, zero, suc, ◌+◌, ◌-◌, ◌≤◌, ◌<◌, ◌⊎◌, Bool, true, false, List, [], ◌∷◌, ◌++◌, length, drop, refl, sym, ◌∙◌, inl, inr, arith, append_assoc, length-drop}
use Rattle.std.specs.Prelude.{IsTrue, nat_le}
use Rattle.std.proofs.lemmas.Bool.{cases_Bool}
use Rattle.std.proofs.lemmas.Bool.Decides.{nat_tests}
use Rattle.ext_mean.specs.declared.codes.SyntaxCode.TheVariants as code
use Rattle.ext_mean.specs.declared.token.Placed.{Placed}
use Rattle.ext_mean.specs.declared.token.Token.{Token}
use Rattle.ext_mean.specs.Bounds.{is_opening, open_with}
use Rattle.ext_mean.specs.Text.{EndsLine}
use Rattle.ext_mean.specs.Tokens.{empty, newlines}
use Rattle.ext_tokens.specs.declared.lexeme.Lexeme.{Lexeme}
use Rattle.ext_tokens.specs.declared.lexeme.Lexeme.TheVariants as lexeme
use Rattle.ext_tokens.specs.declared.next.Next.{Next}
use Rattle.ext_tokens.specs.declared.next.Next.TheVariants as next
use Rattle.ext_tokens.specs.declared.scan.End.{End}
use Rattle.ext_tokens.specs.declared.scan.End.TheVariants as end
use Rattle.ext_tokens.specs.Gaps.{IsPassed, stops_at, comment_with}
use Rattle.ext_tokens.specs.Lexemes.{IsLexeme}
use Rattle.ext_tokens.specs.Next.{IsNext}
use Rattle.ext_tokens.specs.Laws.{EveryTextHasTokens}
use Rattle.ext_tokens.specs.Scanning.{HasTokens}
use Rattle.ext_tokens.proofs.Gaps.{passed-step}
use Rattle.ext_tokens.proofs.Lexed.{lexeme-there}
use Rattle.ext_tokens.proofs.Progress.{IsSoFar, so-far-more, so-far-deep, so-far-end, so-far-begun, none-there}
use Rattle.ext_tokens.proofs.Skipped.{IsSkipped, end-next, comment-next, nothing-next, long-next, token-next}

-- the gap at the front
record HasGap (text : List ℕ) : Type 0 where
  front : List ℕ
  rest : List ℕ
  in_comment : Bool
  is : IsSkipped text front rest in_comment (newlines front)

gap-from : (text front rest : List ℕ) (in_comment : Bool) → text ≡ front ++ rest → IsPassed in_comment front → HasGap text
gap-from text front [] in_comment whole passed =
    record { front = front; rest = []; in_comment = in_comment; is = record { whole = whole; passed = passed; stops = tt; counted = refl } }
gap-from text front (byte ∷ rest) in_comment whole passed =
    elim (cases_Bool (stops_at in_comment byte)) [
      | inl stops ↦ record {
        front = front;
        rest = byte ∷ rest;
        in_comment = in_comment;
        is = record { whole = whole; passed = passed; stops = stops; counted = refl };
      }
      | inr goes ↦ gap-from text (front ++ byte ∷ []) rest (comment_with in_comment byte)
          (whole ∙ sym (append_assoc front (byte ∷ []) rest)) (passed-step in_comment front byte passed goes)
    ]

-- what comes next
record HasNext (text : List ℕ) (line : ℕ) : Type 0 where
  next : Next
  is : IsNext text line next

lexeme-next : (text front rest : List ℕ) (line : ℕ) (found : Lexeme) → IsSkipped text front rest false (newlines front)
    → (length rest ≡ 0 → ⊥) → IsLexeme rest found → HasNext text line
lexeme-next text front rest line (lexeme.Token first size) skip some read = record {
  next = next.Token (record { token = first; line = line + newlines front }) (length front + size);
  is = token-next text front rest false (newlines front) line (length front) size first skip refl refl read.0 read.1;
}
lexeme-next text front rest line lexeme.TooLong skip some read = record {
  next = next.End (end.Fault (line + newlines front) code.Long);
  is = long-next text front rest false (newlines front) line read.1 read.0 skip refl read.2 read.3;
}
lexeme-next text front rest line lexeme.Nothing skip some read = record {
  next = next.End (end.Fault (line + newlines front) code.Token);
  is = nothing-next text front rest false (newlines front) line skip refl some read;
}

next-by : (text front rest : List ℕ) (in_comment : Bool) (line : ℕ) → 1 ≤ line → IsSkipped text front rest in_comment (newlines front) → HasNext text line
next-by text front [] in_comment line begun skip = record {
  next = next.End (end.Text (line + newlines front - 1));
  is = end-next text front [] in_comment (newlines front) line skip refl begun;
}
next-by text front (byte ∷ rest) true line begun skip = record {
  next = next.End (end.Fault (line + newlines front) code.Token);
  is = comment-next text front (byte ∷ rest) true (newlines front) line skip refl (λ none. omega (arith, none));
}
next-by text front (byte ∷ rest) false line begun skip =
    let found = lexeme-there byte rest in
    lexeme-next text front (byte ∷ rest) line found.lexeme skip (λ none. omega (arith, none)) found.is

next-there : (text : List ℕ) (line : ℕ) → 1 ≤ line → HasNext text line
next-there text line begun =
    let gap = gap-from text [] text false refl empty in
    next-by text gap.front gap.rest gap.in_comment line begun gap.is

-- the tokens of a text, and what stands behind the last one
record HasScan (text : List ℕ) : Type 0 where
  placed : List Placed
  last : End
  is : HasTokens text placed last

scan-ends : (text rest : List ℕ) (placed : List Placed) (line brackets : ℕ) (last : End) → EndsLine text → IsSoFar text placed rest line brackets
    → IsNext rest line (next.End last) → HasScan text
scan-ends text rest placed line brackets last ends so_far is = record {
  placed = placed;
  last = last;
  is = record {
    rest = rest;
    tokens = so_far.tokens;
    sound = so_far.sound;
    end = so-far-end text rest placed line brackets last so_far ends is;
  };
}

scan-deep : (text rest : List ℕ) (placed : List Placed) (line brackets size : ℕ) (there : Placed) → IsSoFar text placed rest line brackets
    → IsNext rest line (next.Token there size) → IsTrue (is_opening there.token) × (32 ≤ brackets) → HasScan text
scan-deep text rest placed line brackets size there so_far is deep = record {
  placed = placed;
  last = end.Fault there.line code.Deep;
  is = record {
    rest = rest;
    tokens = so_far.tokens;
    sound = so_far.sound;
    end = so-far-deep text rest placed line brackets size there so_far is deep;
  };
}

deep-cases : (which : Token) (brackets : ℕ)
    → (IsTrue (is_opening which) × (32 ≤ brackets)) ⊎ (IsTrue (is_opening which) × (32 ≤ brackets) → ⊥)
deep-cases which brackets =
    elim (cases_Bool (is_opening which)) [
      | inl opening ↦ elim (cases_Bool (nat_le 32 brackets)) [
        | inl many ↦ inl (opening, grind (arith, nat_tests))
        | inr few ↦ inr (λ deep. let more : 32 ≤ brackets = deep.1 in grind (arith, nat_tests))
      ]
      | inr other ↦ inr (λ deep. let clash : true ≡ false = sym deep.0 ∙ other in cc)
    ]

shorter : (rest : List ℕ) (size most : ℕ) → length rest ≤ suc most → 0 < size → size ≤ length rest → length (drop size rest) ≤ most
shorter rest size most few some within = omega (arith, length-drop size rest)

none-shorter : (rest : List ℕ) (size : ℕ) → length rest ≤ 0 → 0 < size → size ≤ length rest → ⊥
none-shorter rest size few some within = omega arith

-- one token more, a bracket too deep, or the end
scan-by : (text rest : List ℕ) (placed : List Placed) (line brackets : ℕ) → EndsLine text → IsSoFar text placed rest line brackets
    → (found : Next) → IsNext rest line found
    → ((there : Placed) (size : ℕ) → IsNext rest line (next.Token there size)
    → IsSoFar text (placed ++ there ∷ []) (drop size rest) there.line (open_with brackets there.token) → HasScan text)
    → HasScan text
scan-by text rest placed line brackets ends so_far (next.End last) is more = scan-ends text rest placed line brackets last ends so_far is
scan-by text rest placed line brackets ends so_far (next.Token there size) is more =
    elim (deep-cases there.token brackets) [
      | inl deep ↦ scan-deep text rest placed line brackets size there so_far is deep
      | inr shallow ↦ more there size is (so-far-more text rest placed line brackets size there so_far is shallow)
    ]

scan-from : (most : ℕ) (text rest : List ℕ) (placed : List Placed) (line brackets : ℕ) → length rest ≤ most → EndsLine text
    → IsSoFar text placed rest line brackets → HasScan text
scan-from zero text rest placed line brackets few ends so_far =
    let found = next-there rest line (so-far-begun text rest placed line brackets so_far) in
    scan-by text rest placed line brackets ends so_far found.next found.is
    (λ there size is later. absurd (none-shorter rest size few is.2 is.3))
scan-from (suc most) text rest placed line brackets few ends so_far =
    let found = next-there rest line (so-far-begun text rest placed line brackets so_far) in
    scan-by text rest placed line brackets ends so_far found.next found.is
    (λ there size is later. scan-from most text (drop size rest) (placed ++ there ∷ []) there.line (open_with brackets there.token)
    (shorter rest size most few is.2 is.3) ends later)

nothing-read : (text : List ℕ) → IsSoFar text [] text 1 0
nothing-read text = record {
  tokens = refl;
  sound = λ before there rest same. absurd (none-there before rest there same);
  lines = refl;
  opened = refl;
  few = omega arith;
}

pub every-scan : EveryTextHasTokens
every-scan text ends =
    let scan = scan-from (length text) text text [] 1 0 (omega arith) ends (nothing-read text) in
    (scan.placed, scan.last, scan.is)
