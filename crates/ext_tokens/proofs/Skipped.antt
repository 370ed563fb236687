-- What comes next behind a gap.
use Rattle.std.proofs.Common.{◌≡◌, ℕ, ◌+◌, ◌-◌, ◌≤◌, ◌<◌, Bool, true, false, not, List, [], ◌∷◌, ◌++◌, length, take, drop, Some, refl, sym, ap, ◌∙◌, subst, inl, inr, arith, append_assoc, append-nil, length-append}
use Rattle.std.proofs.lemmas.Bool.{and_parts, not-true}
use Rattle.std.proofs.lemmas.List.{take-append-drop}
use Rattle.std.proofs.Math.Seq.{drop-append_seam}
use Rattle.std.specs.Prelude.{◌==◌}
use Rattle.ext_mean.specs.declared.codes.SyntaxCode.TheVariants as code
use Rattle.ext_mean.specs.declared.token.Token.{Token}
use Rattle.ext_mean.specs.Tokens.{Tokens, IsGap, BeginsWith, newlines, newline, is_text_byte, is_comment_byte, all_pass}
use Rattle.ext_mean.specs.Bounds.{IsTooLong}
use Rattle.ext_tokens.specs.declared.scan.End.TheVariants as end
use Rattle.ext_tokens.specs.declared.next.Next.TheVariants as next
use Rattle.ext_tokens.specs.declared.lexeme.Class.{Class}
use Rattle.ext_tokens.specs.Gaps.{IsPassed, Stops}
use Rattle.ext_tokens.specs.Lexemes.{BeginsBy, BeginsByNone, front_class, class_of}
use Rattle.ext_tokens.specs.Next.{NextIsFaulty, no_token, bad_comment, long, IsLined, EndsNext, IsNext}
use Rattle.ext_tokens.proofs.Spellings.{newlines-append, no-lines, spelling-front}
use Rattle.ext_tokens.proofs.Gaps.{shown-parts}

-- the gap at the front of the text, or as much of it as is sound
pub record IsSkipped (text front rest : List ℕ) (in_comment : Bool) (lines : ℕ) : Type 0 where
  pub whole : text ≡ front ++ rest
  pub passed : IsPassed in_comment front
  pub stops : Stops in_comment rest
  pub counted : lines ≡ newlines front

pub skipped : (text rest : List ℕ) (size : ℕ) (in_comment : Bool) (lines : ℕ) → IsPassed in_comment (take size text)
    → Stops in_comment (drop size text) → lines ≡ newlines (take size text) → rest ≡ drop size text
    → IsSkipped text (take size text) rest in_comment lines
skipped text rest size in_comment lines passed stops counted rest-is =
    let P : List ℕ → Type 0 = λ behind. IsSkipped text (take size text) behind in_comment lines in
    subst P (sym rest-is) (record { whole = sym (take-append-drop size text); passed = passed; stops = stops; counted = counted })

pub newlines-split : (text : List ℕ) (size : ℕ) → newlines (take size text) ≤ newlines text
newlines-split text size =
    omega (arith, ap newlines (take-append-drop size text), newlines-append (take size text) (drop size text))

-- a comment whose bytes are sound does not end its line

comment-line : (byte : ℕ) → is_comment_byte byte ≡ true → (byte == newline) ≡ false
comment-line byte is =
    let parts = and_parts (is_text_byte byte) (not (byte == newline)) is in
    not-true (byte == newline) parts.1

sharp-newline : (a b : ℕ) → a ≡ b → a ≡ 0x23 → b ≡ newline → ⊥
sharp-newline a b same sharp ends = omega arith

nothing-left : (gap words : List ℕ) → gap ++ 0x23 ∷ words ≡ [] → ⊥
nothing-left [] words same = cc
nothing-left (byte ∷ gap) words same = cc

no-bytes : (rest : List ℕ) → length rest ≡ 0 → rest ≡ []
no-bytes [] none = refl
no-bytes (byte ∷ rest) none = absurd (omega arith)

words-unended : (words front : List ℕ) → all_pass is_comment_byte words ≡ true → words ≡ front ++ newline ∷ [] → ⊥
words-unended [] [] good same = cc
words-unended [] (byte ∷ front) good same = cc
words-unended (word ∷ words) [] good same =
    let parts = and_parts (is_comment_byte word) (all_pass is_comment_byte words) good in
    let head : word ≡ newline = cc in
    let e : is_comment_byte word ≡ is_comment_byte newline = ap is_comment_byte head in
    cc
words-unended (word ∷ words) (byte ∷ front) good same =
    let parts = and_parts (is_comment_byte word) (all_pass is_comment_byte words) good in
    words-unended words front parts.1 cc

comment-unended : (gap words front : List ℕ) → all_pass is_comment_byte words ≡ true → gap ++ 0x23 ∷ words ≡ front ++ newline ∷ [] → ⊥
comment-unended [] words [] good same = sharp-newline 0x23 newline (cc) refl refl
comment-unended [] words (byte ∷ front) good same = words-unended words front good cc
comment-unended (byte ∷ gap) words [] good same = nothing-left gap words cc
comment-unended (byte ∷ gap) words (other ∷ front) good same = comment-unended gap words front good cc

gap-lined : (in_comment : Bool) (front : List ℕ) → IsPassed in_comment front → IsLined front → IsGap front
gap-lined false front passed lined = passed
gap-lined true front (gap, words, before, good, e) (inl none) = absurd (nothing-left gap words (sym e ∙ none))
gap-lined true front (gap, words, before, good, e) (inr (start, ends)) = absurd (comment-unended gap words start good (sym e ∙ ends))

pub end-next : (text front rest : List ℕ) (in_comment : Bool) (lines line : ℕ) → IsSkipped text front rest in_comment lines → length rest ≡ 0
    → 1 ≤ line → EndsNext text line (end.Text (line + lines - 1))
end-next text front rest in_comment lines line skip none begun =
    let empty : rest ≡ [] = no-bytes rest none in
    let whole : front ≡ text = sym (skip.whole ∙ ap (λ x. front ++ x) empty ∙ append-nil front) in
    let P : List ℕ → Type 0 = λ x. IsLined x → IsGap x in
    (subst P whole (gap-lined in_comment front skip.passed), omega (arith, ap newlines whole, skip.counted))

broken-next : (text front : List ℕ) (byte : ℕ) (more : List ℕ) (lines line : ℕ) → IsPassed true front → text ≡ front ++ byte ∷ more
    → Stops true (byte ∷ more) → lines ≡ newlines front → NextIsFaulty text line (line + lines) code.Token
broken-next text front byte more lines line (gap, words, before, good, e) whole stops counted =
    let within : newlines words ≡ 0 = no-lines is_comment_byte words comment-line good in
    let line-is : line + lines ≡ line + newlines gap = omega (arith, ap newlines e, newlines-append gap (0x23 ∷ words)) in
    bad_comment byte more words gap
    (whole ∙ ap (λ x. x ++ byte ∷ more) e ∙ append_assoc gap (0x23 ∷ words) (byte ∷ more))
    (record { before = before; good = good; bad = not-true (is_text_byte byte) stops }) line-is

pub comment-next : (text front rest : List ℕ) (in_comment : Bool) (lines line : ℕ) → IsSkipped text front rest in_comment lines → in_comment ≡ true
    → (length rest ≡ 0 → ⊥) → NextIsFaulty text line (line + lines) code.Token
comment-next text front [] in_comment lines line skip is some = absurd (some refl)
comment-next text front (byte ∷ more) true lines line skip is some =
    broken-next text front byte more lines line skip.passed skip.whole skip.stops skip.counted
comment-next text front (byte ∷ more) false lines line skip is some = absurd cc

pub nothing-next : (text front rest : List ℕ) (in_comment : Bool) (lines line : ℕ) → IsSkipped text front rest in_comment lines → in_comment ≡ false
    → (length rest ≡ 0 → ⊥) → BeginsByNone rest → NextIsFaulty text line (line + lines) code.Token
nothing-next text front [] in_comment lines line skip is some none = absurd (some refl)
nothing-next text front (byte ∷ more) true lines line skip is some none = absurd cc
nothing-next text front (byte ∷ more) false lines line skip is some none =
    let parts = shown-parts byte skip.stops in
    no_token byte more front skip.whole skip.passed (record { shown = parts.0; comment = parts.1; none = none })
    (ap (λ n. line + n) skip.counted)

behind-two : (a b c : List ℕ) → drop (length a + length b) (a ++ (b ++ c)) ≡ c
behind-two a b c =
    ap (λ n. drop n (a ++ (b ++ c))) (sym (length-append a b)) ∙ ap (drop (length (a ++ b))) (sym (append_assoc a b c)) ∙ drop-append_seam (a ++ b) c

first-token : (text front rest : List ℕ) (lines line size : ℕ) (first : Token) → IsSkipped text front rest false lines → BeginsBy rest first size
    → Tokens text line (record { token = first; line = line + lines } ∷ []) (drop (length front + size) text)
first-token text front rest lines line size first skip (bytes, behind, begins, size-is) =
    let whole : text ≡ front ++ (bytes ++ behind) = skip.whole ∙ ap (λ x. front ++ x) begins.whole in
    let B : List ℕ → Type 0 = λ x. BeginsWith x bytes first behind in
    let left : behind ≡ drop (length front + size) text =
    sym (ap (λ n. drop (length front + n) text) size-is ∙ ap (drop (length front + length bytes)) whole ∙ behind-two front bytes behind) in
    (front, bytes, behind, skip.passed, whole, subst B begins.whole begins, ap (λ n. line + n) skip.counted, left)

pub long-next : (text front rest : List ℕ) (in_comment : Bool) (lines line size : ℕ) (first : Token) → IsSkipped text front rest in_comment lines
    → in_comment ≡ false → BeginsBy rest first size → IsTooLong first → NextIsFaulty text line (line + lines) code.Long
long-next text front rest true lines line size first skip is begins over = absurd cc
long-next text front rest false lines line size first skip is begins over =
    long (record { token = first; line = line + lines }) (drop (length front + size) text)
    (first-token text front rest lines line size first skip begins) over refl

spelling-some : (bytes : List ℕ) (which : Class) → front_class bytes ≡ Some which → 0 < length bytes
spelling-some [] which front = absurd cc
spelling-some (byte ∷ bytes) which front = omega arith

token-size : (text front rest : List ℕ) (lines size : ℕ) (first : Token) → IsSkipped text front rest false lines → BeginsBy rest first size
    → (0 < size) × (length front + size ≤ length text)
token-size text front rest lines size first skip (bytes, behind, begins, size-is) =
    let some : 0 < length bytes = spelling-some bytes (class_of first) (spelling-front first bytes begins.spelled) in (
      omega arith,
      omega (arith, ap length skip.whole, ap length begins.whole, length-append front rest, length-append bytes behind),
    )

pub token-next : (text front rest : List ℕ) (in_comment : Bool) (lines line passed size : ℕ) (first : Token) → IsSkipped text front rest in_comment lines
    → in_comment ≡ false → length front ≡ passed → BeginsBy rest first size → (IsTooLong first → ⊥)
    → IsNext text line (next.Token (record { token = first; line = line + lines }) (passed + size))
token-next text front rest true lines line passed size first skip is passed-is begins short = absurd cc
token-next text front rest false lines line passed size first skip is passed-is begins short =
    let P : ℕ → Type 0 = λ n. Tokens text line (record { token = first; line = line + lines } ∷ []) (drop (n + size) text) in
    let sizes = token-size text front rest lines size first skip begins in
    (subst P passed-is (first-token text front rest lines line size first skip begins), short, omega (arith, sizes.0), omega (arith, sizes.1))
