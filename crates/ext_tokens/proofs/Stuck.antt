-- What no gap begins: a byte that is shown, or a comment that has no end. One gap stands before it.
use Rattle.std.proofs.Common.{◌≡◌, ℕ, true, false, List, [], ◌∷◌, ◌++◌, refl, sym, ap, ◌∙◌, append_assoc}
use Rattle.ext_mean.specs.Tokens.{IsGap, empty, blank, comment, is_text_byte, is_comment_byte, all_pass, newline}
use Rattle.ext_tokens.proofs.Gaps.{IsShown, blank-comment, comment-tails, line-broken, none-left}

abbrev pub IsStuck : List ℕ → Type 0
IsStuck text = (gap rest : List ℕ) → IsGap gap → text ≡ gap ++ rest → gap ≡ []

pub empty-stuck : IsStuck []
empty-stuck [] rest is same = refl
empty-stuck (byte ∷ gap) rest is same = absurd (cc)

pub shown-stuck : (text : List ℕ) → IsShown text → IsStuck text
shown-stuck text shown gap rest is same = none-left text rest is shown same

broken-none : {gap : List ℕ} (words more rest : List ℕ) (byte : ℕ) → all_pass is_comment_byte words ≡ true → is_text_byte byte ≡ false
    → IsGap gap → 0x23 ∷ (words ++ byte ∷ more) ≡ gap ++ rest → gap ≡ []
broken-none words more rest byte good bad empty same = refl
broken-none words more rest byte good bad (blank {byte = byte'} {rest = gap} is behind) same =
    absurd (blank-comment byte' (gap ++ rest) (words ++ byte ∷ more) is (sym same))
broken-none words more rest byte good bad (comment {gap = gap} {rest = rest'} words' good' e behind) same =
    let tails : words ++ byte ∷ more ≡ gap ++ rest = cc in
    absurd (line-broken words words' more (rest' ++ rest) byte good good' bad
    (tails ∙ ap (λ z. z ++ rest) e ∙ append_assoc words' (newline ∷ rest') rest))

pub broken-stuck : (words more : List ℕ) (byte : ℕ) → all_pass is_comment_byte words ≡ true → is_text_byte byte ≡ false
    → IsStuck (0x23 ∷ (words ++ byte ∷ more))
broken-stuck words more byte good bad gap rest is same = broken-none words more rest byte good bad is same

not-empty : (byte : ℕ) (gap : List ℕ) → byte ∷ gap ≡ [] → ⊥
not-empty byte gap same = cc

pub stuck-one : {front gap : List ℕ} (x y : List ℕ) → IsGap front → IsGap gap → IsStuck x → IsStuck y → front ++ x ≡ gap ++ y → (front ≡ gap) × (x ≡ y)
stuck-one {gap = gap} x y empty other first second same =
    let none : gap ≡ [] = first gap y other same in
    (sym none, same ∙ ap (λ z. z ++ y) none)
stuck-one x y (blank {byte = byte} {rest = rest} is front) empty first second same =
    absurd (not-empty byte rest (second (byte ∷ rest) x (blank is front) (sym same)))
stuck-one x y (blank {byte = byte} {rest = rest} is front) (blank {byte = byte'} {rest = rest'} is' behind) first second same =
    let tails : rest ++ x ≡ rest' ++ y = cc in
    let more = stuck-one x y front behind first second tails in
    let fronts : byte ∷ rest ≡ byte' ∷ rest' = cc (more.0) in
    (fronts, more.1)
stuck-one x y (blank {byte = byte} {rest = rest} is front) (comment {gap = gap} words good e behind) first second same =
    absurd (blank-comment byte (rest ++ x) (gap ++ y) is same)
stuck-one x y (comment {gap = gap} words good e front) empty first second same =
    absurd (not-empty 0x23 gap (second (0x23 ∷ gap) x (comment words good e front) (sym same)))
stuck-one x y (comment {gap = gap} words good e front) (blank {byte = byte} {rest = rest} is behind) first second same =
    absurd (blank-comment byte (rest ++ y) (gap ++ x) is (sym same))
stuck-one x y (comment {gap = gap} {rest = rest} words good e front) (comment {gap = gap'} {rest = rest'} words' good' e' behind) first second same =
    let tails = comment-tails gap gap' words words' x y rest rest' good good' e e' same in
    let more = stuck-one x y front behind first second tails.1 in
    let inside : gap ≡ gap' =
    e ∙ ap (λ z. z ++ newline ∷ rest) tails.0 ∙ ap (λ z. words' ++ newline ∷ z) more.0 ∙ sym e' in
    (ap (λ z. 0x23 ∷ z) inside, more.1)
