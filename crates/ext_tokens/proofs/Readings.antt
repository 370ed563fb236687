-- The tokens of a text are read in one way, and may be read in parts.
use Rattle.std.proofs.Common.{◌≡◌, ℕ, ◌+◌, ◌≤◌, true, List, [], ◌∷◌, ◌++◌, length, refl, sym, ap, ◌∙◌, subst, arith, append_assoc}
use Rattle.ext_mean.specs.declared.token.Token.{Token}
use Rattle.ext_mean.specs.declared.token.Placed.{Placed}
use Rattle.ext_mean.specs.Tokens.{Tokens, IsGap, BeginsWith, newlines}
use Rattle.ext_mean.specs.SyntaxFaults.{HasNoToken, BreaksComment, line_behind}
use Rattle.ext_tokens.proofs.Spellings.{spelling-shown, spelling-line, newlines-append, front_shown}
use Rattle.ext_tokens.proofs.Begins.{begins-one}
use Rattle.ext_tokens.proofs.Gaps.{IsShown, shown-from, gap-one, gap-whole, gap-broken}

-- what begins with a token begins with a byte that is shown
shown-longer : (front rest : List ℕ) → front_shown front ≡ true → front_shown (front ++ rest) ≡ true
shown-longer [] rest is = absurd cc
shown-longer (byte ∷ front) rest is = is

pub begins-shown : (text bytes behind : List ℕ) (first : Token) → BeginsWith text bytes first behind → IsShown text
begins-shown text bytes behind first begins =
    shown-from text (ap front_shown begins.whole ∙ shown-longer bytes behind (spelling-shown first bytes begins.spelled))

pub tokens-join : (text mid rest : List ℕ) (line : ℕ) (first second : List Placed)
    → Tokens text line first mid → Tokens mid (line_behind line first) second rest → Tokens text line (first ++ second) rest
tokens-join text mid rest line [] second is more =
    let P : List ℕ → Type 0 = λ whole. Tokens whole line second rest in
    subst P (sym is) more
tokens-join text mid rest line (placed ∷ first) second (gap, bytes, behind, before, whole, begins, line-is, is) more =
    (gap, bytes, behind, before, whole, begins, line-is, tokens-join behind mid rest placed.line first second is more)

pub tokens-part : (text rest : List ℕ) (line : ℕ) (first second : List Placed) → Tokens text line (first ++ second) rest
    → (mid : List ℕ) × Tokens text line first mid × Tokens mid (line_behind line first) second rest
tokens-part text rest line [] second is = (text, refl, is)
tokens-part text rest line (placed ∷ first) second (gap, bytes, behind, before, whole, begins, line-is, is) =
    let parts = tokens-part behind rest placed.line first second is in
    (parts.0, (gap, bytes, behind, before, whole, begins, line-is, parts.1), parts.2)

-- a token and its line are all of a place
same-place : (a b : Placed) → a.token ≡ b.token → a.line ≡ b.line → a ≡ b
same-place a b tokens lines =
    ap (λ (n : ℕ). record a { line = n }) lines ∙ ap (λ (t : Token). record b { token = t }) tokens

pub tokens-one : (text rest behind : List ℕ) (line : ℕ) (some others : List Placed) → Tokens text line some rest → Tokens text line others behind
    → length some ≤ length others
    → (more : List Placed) × (others ≡ some ++ more) × Tokens rest (line_behind line some) more behind
tokens-one text rest behind line [] others is other fewer =
    let P : List ℕ → Type 0 = λ whole. Tokens whole line others behind in
    (others, refl, subst P is other)
tokens-one text rest behind line (placed ∷ some) [] is other fewer = absurd (omega arith)
tokens-one text rest behind line (placed ∷ some) (there ∷ others)
    (gap, bytes, after, before, whole, begins, line-is, is) (gap', bytes', after', before', whole', begins', line-is', other) fewer =
    let shown = begins-shown (bytes ++ after) bytes after placed.token begins in
    let shown' = begins-shown (bytes' ++ after') bytes' after' there.token begins' in
    let gaps = gap-one gap gap' (bytes ++ after) (bytes' ++ after') before before' shown shown' (sym whole ∙ whole') in
    let B : List ℕ → Type 0 = λ front. BeginsWith front bytes' there.token after' in
    let one = begins-one (bytes ++ after) bytes bytes' after after' placed.token there.token begins (subst B (sym gaps.1) begins') in
    let place : placed ≡ there = same-place placed there one.1 (line-is ∙ ap (λ g. line + newlines g) gaps.0 ∙ sym line-is') in
    let A : List ℕ → Type 0 = λ left. Tokens left there.line others behind in
    let L : Placed → Type 0 = λ item. Tokens after item.line others behind in
    let more = tokens-one after rest behind placed.line some others is (subst L (sym place) (subst A (sym one.2) other)) (omega arith) in
    (more.0, ap (λ x. x ∷ others) (sym place) ∙ ap (λ x. placed ∷ x) more.1, more.2)

-- Where a token stands behind some gap.

pub none-behind-gap : (text behind : List ℕ) (line : ℕ) (others : List Placed) → IsGap text → Tokens text line others behind → others ≡ []
none-behind-gap text behind line [] is other = refl
none-behind-gap text behind line (there ∷ others) is (gap, bytes, after, before, whole, begins, line-is, other) =
    absurd (gap-whole text gap (bytes ++ after) is before (begins-shown (bytes ++ after) bytes after there.token begins) whole)

pub none-behind-fault : (text more gap behind : List ℕ) (byte line : ℕ) (others : List Placed) → text ≡ gap ++ byte ∷ more → IsGap gap
    → HasNoToken byte more → Tokens text line others behind → others ≡ []
none-behind-fault text more gap behind byte line [] is before none other = refl
none-behind-fault text more gap behind byte line (there ∷ others) is before none (gap', bytes, after, before', whole, begins, line-is, other) =
    let shown : IsShown (byte ∷ more) = record { byte = byte; more = more; whole = refl; no_blank = none.shown; no_comment = none.comment } in
    let shown' = begins-shown (bytes ++ after) bytes after there.token begins in
    let gaps = gap-one gap gap' (byte ∷ more) (bytes ++ after) before before' shown shown' (sym is ∙ whole) in
    let B : List ℕ → Type 0 = λ front. BeginsWith front bytes there.token after in
    absurd (none.none bytes after there.token (subst B (sym gaps.1) begins))

pub none-behind-comment : (text more words gap behind : List ℕ) (byte line : ℕ) (others : List Placed)
    → text ≡ gap ++ 0x23 ∷ (words ++ byte ∷ more) → BreaksComment gap words byte → Tokens text line others behind → others ≡ []
none-behind-comment text more words gap behind byte line [] is breaks other = refl
none-behind-comment text more words gap behind byte line (there ∷ others) is breaks (gap', bytes, after, before', whole, begins, line-is, other) =
    absurd (gap-broken gap words gap' more (bytes ++ after) byte breaks.before breaks.good breaks.bad before'
    (begins-shown (bytes ++ after) bytes after there.token begins) (sym is ∙ whole))

-- Lines and lengths.

pub tokens-lines : (text rest : List ℕ) (line : ℕ) (placed : List Placed) → Tokens text line placed rest
    → line_behind line placed + newlines rest ≡ line + newlines text
tokens-lines text rest line [] is = ap (λ x. line + newlines x) (sym is)
tokens-lines text rest line (placed ∷ more) (gap, bytes, behind, before, whole, begins, line-is, is) =
    let own : newlines bytes ≡ 0 = spelling-line placed.token bytes begins.spelled in
    let next : line_behind placed.line more + newlines rest ≡ placed.line + newlines behind = tokens-lines behind rest placed.line more is in
    omega (arith, ap newlines whole, newlines-append gap (bytes ++ behind), newlines-append bytes behind)

pub tokens-up : (text rest : List ℕ) (line : ℕ) (placed : List Placed) → Tokens text line placed rest → line ≤ line_behind line placed
tokens-up text rest line [] is = omega arith
tokens-up text rest line (placed ∷ more) (gap, bytes, behind, before, whole, begins, line-is, is) =
    let next : placed.line ≤ line_behind placed.line more = tokens-up behind rest placed.line more is in
    omega arith

pub tokens-front : (text rest : List ℕ) (line : ℕ) (placed : List Placed) → Tokens text line placed rest
    → (front : List ℕ) × (text ≡ front ++ rest)
tokens-front text rest line [] is = ([], is)
tokens-front text rest line (placed ∷ more) (gap, bytes, behind, before, whole, begins, line-is, is) =
    let next = tokens-front behind rest placed.line more is in (
      gap ++ (bytes ++ next.0),
      whole ∙ ap (λ x. gap ++ (bytes ++ x)) next.1 ∙ ap (λ x. gap ++ x) (sym (append_assoc bytes next.0 rest))
          ∙ sym (append_assoc gap (bytes ++ next.0) rest),
    )
