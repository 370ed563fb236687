-- A gap is read byte by byte, and ends where a token begins.
use Rattle.std.proofs.Common.{◌≡◌, ℕ, ◌+◌, Bool, true, false, ◌&&◌, ◌||◌, not, List, [], ◌∷◌, ◌++◌, length, refl, sym, ap, ◌∙◌, subst, arith, append_assoc, append-nil, add-one, take, get_or, ◌<◌}
use Rattle.std.proofs.Math.Seq.{take-suc}
use Rattle.std.proofs.lemmas.Bool.{and_parts, and_from, not-true, eqb-true, eqb-false}
use Rattle.std.proofs.lemmas.Bool.Decides.{nat_tests}
use Rattle.std.specs.Prelude.{◌==◌}
use Rattle.ext_mean.specs.Tokens.{IsGap, empty, blank, comment, is_blank, is_text_byte, is_comment_byte, all_pass, newline, newlines}
use Rattle.ext_tokens.specs.Gaps.{stops_at, comment_with, IsPassed}
use Rattle.ext_tokens.proofs.Spellings.{front_shown, newlines-append}

pub gap-join : {a b : List ℕ} → IsGap a → IsGap b → IsGap (a ++ b)
gap-join empty behind = behind
gap-join (blank is front) behind = blank is (gap-join front behind)
gap-join {b = b} (comment {rest = rest} words good e front) behind =
    comment words good (ap (λ x. x ++ b) e ∙ append_assoc words (newline ∷ rest) b) (gap-join front behind)

all-pass-more : (test : ℕ → Bool) (bytes : List ℕ) (byte : ℕ) → all_pass test bytes ≡ true → test byte ≡ true → all_pass test (bytes ++ byte ∷ []) ≡ true
all-pass-more test [] byte pass one = and_from (test byte) true one refl
all-pass-more test (first ∷ bytes) byte pass one =
    let parts = and_parts (test first) (all_pass test bytes) pass in
    and_from (test first) (all_pass test (bytes ++ byte ∷ [])) parts.0 (all-pass-more test bytes byte parts.1 one)

pub comment-closed : (gap words : List ℕ) → IsGap gap → all_pass is_comment_byte words ≡ true → IsGap ((gap ++ 0x23 ∷ words) ++ newline ∷ [])
comment-closed gap words before good =
    let end : IsGap (0x23 ∷ (words ++ newline ∷ [])) = comment words good refl empty in
    let P : List ℕ → Type 0 = λ text. IsGap text in
    subst P (sym (append_assoc gap (0x23 ∷ words) (newline ∷ []))) (gap-join before end)

blank-of : (byte : ℕ) → (not (is_blank byte) && not (byte == 0x23)) ≡ false → (byte == 0x23) ≡ false → is_blank byte ≡ true
blank-of byte passes other = grind (arith, nat_tests)

newline-blank : (byte : ℕ) → byte ≡ newline → is_blank byte ≡ true
newline-blank byte is = rw is refl

step-comment : (front : List ℕ) (byte : ℕ) → IsPassed true front → is_text_byte byte ≡ true
    → (ends : Bool) → (byte == newline) ≡ ends → IsPassed (not ends && true) (front ++ byte ∷ [])
step-comment front byte (gap, words, before, good, e) in_text true ends-is =
    let P : List ℕ → Type 0 = λ text. IsGap text in
    let whole : (gap ++ 0x23 ∷ words) ++ newline ∷ [] ≡ front ++ byte ∷ [] =
    ap (λ x. x ++ newline ∷ []) (sym e) ∙ ap (λ x. front ++ x ∷ []) (sym (eqb-true byte newline ends-is)) in
    subst P whole (comment-closed gap words before good)
step-comment front byte (gap, words, before, good, e) in_text false ends-is =
    let inside : is_comment_byte byte ≡ true = rw (in_text, ends-is) refl in
    let whole : front ++ byte ∷ [] ≡ gap ++ 0x23 ∷ (words ++ byte ∷ []) =
    ap (λ x. x ++ byte ∷ []) e ∙ append_assoc gap (0x23 ∷ words) (byte ∷ []) in
    (gap, words ++ byte ∷ [], before, all-pass-more is_comment_byte words byte good inside, whole)

step-gap : (front : List ℕ) (byte : ℕ) → IsGap front → (not (is_blank byte) && not (byte == 0x23)) ≡ false
    → (ends sharp : Bool) → (byte == newline) ≡ ends → (byte == 0x23) ≡ sharp
    → IsPassed (not ends && (false || sharp)) (front ++ byte ∷ [])
step-gap front byte before passes true sharp ends-is sharp-is =
    gap-join before (blank (newline-blank byte (eqb-true byte newline ends-is)) empty)
step-gap front byte before passes false true ends-is sharp-is =
    (front, [], before, refl, ap (λ x. front ++ x ∷ []) (eqb-true byte 0x23 sharp-is))
step-gap front byte before passes false false ends-is sharp-is =
    gap-join before (blank (blank-of byte passes sharp-is) empty)

not-false-true : (b : Bool) → not b ≡ false → b ≡ true
not-false-true true is = refl
not-false-true false is = absurd cc

pub passed-step : (in_comment : Bool) (front : List ℕ) (byte : ℕ) → IsPassed in_comment front → stops_at in_comment byte ≡ false
    → IsPassed (comment_with in_comment byte) (front ++ byte ∷ [])
passed-step true front byte before passes = step-comment front byte before (not-false-true (is_text_byte byte) passes) (byte == newline) refl
passed-step false front byte before passes = step-gap front byte before passes (byte == newline) (byte == 0x23) refl refl

-- one byte more is passed
pub passed-next : (in_comment next answer : Bool) (bytes : List ℕ) (size : ℕ) → size < length bytes
    → IsPassed in_comment (take size bytes) → answer ≡ stops_at in_comment (get_or bytes size 0) → answer ≡ false
    → next ≡ comment_with in_comment (get_or bytes size 0) → IsPassed next (take (size + 1) bytes)
passed-next in_comment next answer bytes size below before tested passes next-is =
    let longer : take (size + 1) bytes ≡ take size bytes ++ get_or bytes size 0 ∷ [] = rw add-one (take-suc bytes size 0 below) in
    let P : List ℕ → Type 0 = λ text. IsPassed next text in
    let Q : Bool → Type 0 = λ open_there. IsPassed open_there (take size bytes ++ get_or bytes size 0 ∷ []) in
    subst P (sym longer) (subst Q (sym next-is)
    (passed-step in_comment (take size bytes) (get_or bytes size 0) before (sym tested ∙ passes)))

pub newlines-next : (lines more : ℕ) (bytes : List ℕ) (size : ℕ) → size < length bytes → lines ≡ newlines (take size bytes)
    → more ≡ newlines (get_or bytes size 0 ∷ []) → lines + more ≡ newlines (take (size + 1) bytes)
newlines-next lines more bytes size below before more-is =
    let longer : take (size + 1) bytes ≡ take size bytes ++ get_or bytes size 0 ∷ [] = rw add-one (take-suc bytes size 0 below) in
    let parts : newlines (take size bytes ++ get_or bytes size 0 ∷ []) ≡ newlines (take size bytes) + newlines (get_or bytes size 0 ∷ []) =
    newlines-append (take size bytes) (get_or bytes size 0 ∷ []) in
    omega (arith, ap newlines longer)

-- Where a token begins behind a gap.

pub shown-parts : (byte : ℕ) → (not (is_blank byte) && not (byte == 0x23)) ≡ true → (is_blank byte ≡ false) × (byte ≡ 0x23 → ⊥)
shown-parts byte is =
    let parts = and_parts (not (is_blank byte)) (not (byte == 0x23)) is in
    (not-true (is_blank byte) parts.0, eqb-false byte 0x23 (not-true (byte == 0x23) parts.1))

-- a text that begins with a byte that is shown
pub record IsShown (text : List ℕ) : Type 0 where
  pub byte : ℕ
  pub more : List ℕ
  pub whole : text ≡ byte ∷ more
  pub no_blank : is_blank byte ≡ false
  pub no_comment : byte ≡ 0x23 → ⊥

pub shown-from : (text : List ℕ) → front_shown text ≡ true → IsShown text
shown-from [] is = absurd cc
shown-from (byte ∷ text) is =
    let parts = shown-parts byte is in
    record { byte = byte; more = text; whole = refl; no_blank = parts.0; no_comment = parts.1 }

not-blank : (byte : ℕ) (rest text : List ℕ) → is_blank byte ≡ true → IsShown text → byte ∷ rest ≡ text → ⊥
not-blank byte rest text is shown same =
    let head : byte ∷ rest ≡ shown.byte ∷ shown.more = same ∙ shown.whole in
    let bytes : byte ≡ shown.byte = cc in
    let bad : is_blank byte ≡ false = ap is_blank bytes ∙ shown.no_blank in
    cc

not-comment : (rest text : List ℕ) → IsShown text → 0x23 ∷ rest ≡ text → ⊥
not-comment rest text shown same =
    let head : 0x23 ∷ rest ≡ shown.byte ∷ shown.more = same ∙ shown.whole in
    shown.no_comment cc

pub blank-comment : (byte : ℕ) (a b : List ℕ) → is_blank byte ≡ true → byte ∷ a ≡ 0x23 ∷ b → ⊥
blank-comment byte a b is same =
    let head : byte ≡ 0x23 = cc in
    let blanks : is_blank byte ≡ is_blank 0x23 = ap is_blank head in
    cc

newline-outside : (byte : ℕ) → is_comment_byte byte ≡ true → byte ≡ newline → ⊥
newline-outside byte is same = let e : is_comment_byte byte ≡ is_comment_byte newline = ap is_comment_byte same in cc

-- a comment ends before its line does
line-one : (a b x y : List ℕ) → all_pass is_comment_byte a ≡ true → all_pass is_comment_byte b ≡ true
    → a ++ newline ∷ x ≡ b ++ newline ∷ y → (a ≡ b) × (x ≡ y)
line-one [] [] x y good good' same = (refl, cc)
line-one [] (second ∷ b) x y good good' same =
    let parts = and_parts (is_comment_byte second) (all_pass is_comment_byte b) good' in
    absurd (newline-outside second parts.0 cc)
line-one (first ∷ a) [] x y good good' same =
    let parts = and_parts (is_comment_byte first) (all_pass is_comment_byte a) good in
    absurd (newline-outside first parts.0 cc)
line-one (first ∷ a) (second ∷ b) x y good good' same =
    let parts = and_parts (is_comment_byte first) (all_pass is_comment_byte a) good in
    let parts' = and_parts (is_comment_byte second) (all_pass is_comment_byte b) good' in
    let behind : a ++ newline ∷ x ≡ b ++ newline ∷ y = cc in
    let rest = line-one a b x y parts.1 parts'.1 behind in
    let heads : first ≡ second = cc in
    let fronts : first ∷ a ≡ second ∷ b = cc in
    (fronts, rest.1)

text-byte : (byte other : ℕ) → is_text_byte byte ≡ false → byte ≡ other → is_comment_byte other ≡ true → ⊥
text-byte byte other bad same good =
    let parts = and_parts (is_text_byte other) (not (other == newline)) good in
    let e : is_text_byte byte ≡ is_text_byte other = ap is_text_byte same in
    cc

text-line : (byte : ℕ) → is_text_byte byte ≡ false → byte ≡ newline → ⊥
text-line byte bad same = let e : is_text_byte byte ≡ is_text_byte newline = ap is_text_byte same in cc

-- a comment with a byte that is none of the language has no end
pub line-broken : (a b x y : List ℕ) (byte : ℕ) → all_pass is_comment_byte a ≡ true → all_pass is_comment_byte b ≡ true
    → is_text_byte byte ≡ false → a ++ byte ∷ x ≡ b ++ newline ∷ y → ⊥
line-broken [] [] x y byte good good' bad same = text-line byte bad cc
line-broken [] (second ∷ b) x y byte good good' bad same =
    let parts = and_parts (is_comment_byte second) (all_pass is_comment_byte b) good' in
    text-byte byte second bad (cc) parts.0
line-broken (first ∷ a) [] x y byte good good' bad same =
    let parts = and_parts (is_comment_byte first) (all_pass is_comment_byte a) good in
    newline-outside first parts.0 cc
line-broken (first ∷ a) (second ∷ b) x y byte good good' bad same =
    let parts = and_parts (is_comment_byte first) (all_pass is_comment_byte a) good in
    let parts' = and_parts (is_comment_byte second) (all_pass is_comment_byte b) good' in
    let behind : a ++ byte ∷ x ≡ b ++ newline ∷ y = cc in
    line-broken a b x y byte parts.1 parts'.1 bad behind

pub comment-tails : (gap gap' a b x y rest rest' : List ℕ) → all_pass is_comment_byte a ≡ true → all_pass is_comment_byte b ≡ true
    → gap ≡ a ++ newline ∷ rest → gap' ≡ b ++ newline ∷ rest' → 0x23 ∷ (gap ++ x) ≡ 0x23 ∷ (gap' ++ y)
    → (a ≡ b) × (rest ++ x ≡ rest' ++ y)
comment-tails gap gap' a b x y rest rest' good good' e e' same =
    let tails : gap ++ x ≡ gap' ++ y = cc in
    let whole : a ++ newline ∷ (rest ++ x) ≡ b ++ newline ∷ (rest' ++ y) =
    sym (append_assoc a (newline ∷ rest) x) ∙ ap (λ z. z ++ x) (sym e) ∙ tails ∙ ap (λ z. z ++ y) e' ∙ append_assoc b (newline ∷ rest') y in
    line-one a b (rest ++ x) (rest' ++ y) good good' whole

-- what is left of a longer gap of the same text
pub record Left (front x gap y : List ℕ) : Type 0 where
  pub left : List ℕ
  pub is_gap : IsGap left
  pub longer : gap ≡ front ++ left
  pub rest : x ≡ left ++ y

-- the gap before a token goes on behind each gap at the front
pub gap-left : {front gap : List ℕ} (x y : List ℕ) → IsGap front → IsGap gap → IsShown y → front ++ x ≡ gap ++ y → Left front x gap y
gap-left {gap = gap} x y empty other shown same = record { left = gap; is_gap = other; longer = refl; rest = same }
gap-left x y (blank {byte = byte} {rest = rest} is front) empty shown same = absurd (not-blank byte (rest ++ x) y is shown same)
gap-left x y (blank {byte = byte} {rest = rest} is front) (blank {byte = byte'} {rest = rest'} is' gap) shown same =
    let tails : rest ++ x ≡ rest' ++ y = cc in
    let heads : byte ≡ byte' = cc in
    let more = gap-left x y front gap shown tails in
    let longer : byte' ∷ rest' ≡ byte ∷ (rest ++ more.left) = cc (more.longer) in
    record { left = more.left; is_gap = more.is_gap; longer = longer; rest = more.rest }
gap-left x y (blank {byte = byte} {rest = rest} is front) (comment {gap = gap} {rest = rest'} words good e behind) shown same =
    absurd (blank-comment byte (rest ++ x) (gap ++ y) is same)
gap-left x y (comment {gap = gap} {rest = rest} words good e front) empty shown same = absurd (not-comment (gap ++ x) y shown same)
gap-left x y (comment {gap = gap} {rest = rest} words good e front) (blank {byte = byte} {rest = rest'} is behind) shown same =
    absurd (blank-comment byte (rest' ++ y) (gap ++ x) is (sym same))
gap-left x y (comment {gap = gap} {rest = rest} words good e front) (comment {gap = gap'} {rest = rest'} words' good' e' behind) shown same =
    let tails = comment-tails gap gap' words words' x y rest rest' good good' e e' same in
    let more = gap-left x y front behind shown tails.1 in
    let inside : gap' ≡ gap ++ more.left =
    e' ∙ ap (λ z. z ++ newline ∷ rest') (sym tails.0) ∙ ap (λ z. words ++ newline ∷ z) more.longer
    ∙ sym (append_assoc words (newline ∷ rest) more.left) ∙ ap (λ z. z ++ more.left) (sym e) in
    record { left = more.left; is_gap = more.is_gap; longer = ap (λ z. 0x23 ∷ z) inside; rest = more.rest }

-- no gap is left before a byte that is shown
pub none-left : {left : List ℕ} (x y : List ℕ) → IsGap left → IsShown x → x ≡ left ++ y → left ≡ []
none-left x y empty shown same = refl
none-left x y (blank {byte = byte} {rest = rest} is left) shown same = absurd (not-blank byte (rest ++ y) x is shown (sym same))
none-left x y (comment {gap = gap} words good e left) shown same = absurd (not-comment (gap ++ y) x shown (sym same))

-- one gap stands before a byte that is shown
pub gap-one : (front gap x y : List ℕ) → IsGap front → IsGap gap → IsShown x → IsShown y → front ++ x ≡ gap ++ y → (front ≡ gap) × (x ≡ y)
gap-one front gap x y one other shown shown' same =
    let more = gap-left x y one other shown' same in
    let none : more.left ≡ [] = none-left x y more.is_gap shown more.rest in
    (sym (more.longer ∙ ap (λ z. front ++ z) none ∙ append-nil front), more.rest ∙ ap (λ z. z ++ y) none)

empty-left : (left y : List ℕ) → IsShown y → [] ≡ left ++ y → ⊥
empty-left [] y shown same = let e : [] ≡ shown.byte ∷ shown.more = same ∙ shown.whole in cc
empty-left (byte ∷ left) y shown same = cc

-- a gap that is the whole text has no token behind it
pub gap-whole : (front gap y : List ℕ) → IsGap front → IsGap gap → IsShown y → front ≡ gap ++ y → ⊥
gap-whole front gap y one other shown same =
    let more = gap-left [] y one other shown (append-nil front ∙ same) in
    empty-left more.left y shown more.rest

broken-left : {left : List ℕ} (words more y : List ℕ) (byte : ℕ) → all_pass is_comment_byte words ≡ true → is_text_byte byte ≡ false
    → IsGap left → IsShown y → 0x23 ∷ (words ++ byte ∷ more) ≡ left ++ y → ⊥
broken-left words more y byte good bad empty shown same = not-comment (words ++ byte ∷ more) y shown same
broken-left words more y byte good bad (blank {byte = byte'} {rest = rest} is left) shown same =
    blank-comment byte' (rest ++ y) (words ++ byte ∷ more) is (sym same)
broken-left words more y byte good bad (comment {gap = gap} {rest = rest} words' good' e left) shown same =
    let tails : words ++ byte ∷ more ≡ gap ++ y = cc in
    line-broken words words' more (rest ++ y) byte good good' bad
    (tails ∙ ap (λ z. z ++ y) e ∙ append_assoc words' (newline ∷ rest) y)

-- a broken comment has no token behind it
pub gap-broken : (front words gap more y : List ℕ) (byte : ℕ) → IsGap front → all_pass is_comment_byte words ≡ true → is_text_byte byte ≡ false
    → IsGap gap → IsShown y → front ++ 0x23 ∷ (words ++ byte ∷ more) ≡ gap ++ y → ⊥
gap-broken front words gap more y byte one good bad other shown same =
    let left = gap-left (0x23 ∷ (words ++ byte ∷ more)) y one other shown same in
    broken-left words more y byte good bad left.is_gap shown left.rest
