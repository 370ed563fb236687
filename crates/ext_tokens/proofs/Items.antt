-- What stands in a byte string is read in one way.
use Rattle.std.proofs.Common.{◌≡◌, ℕ, ◌<◌, true, false, List, [], ◌∷◌, ◌++◌, refl, sym, ap, ◌∙◌, subst, inl, inr, arith, append_assoc, append-nil}
use Rattle.std.proofs.lemmas.Bool.Decides.{nat_tests}
use Rattle.ext_mean.specs.Tokens.{IsInner, is_plain, hex_digit, escaped}
use Rattle.ext_tokens.specs.Strings.{IsItem, BeginsByItem}

-- an item, and those behind it
pub item-first : (inner : List ℕ) (item : ℕ) (items : List ℕ) → IsInner inner (item ∷ items)
    → (bytes rest : List ℕ) × IsItem bytes item × (inner ≡ bytes ++ rest) × IsInner rest items
item-first inner item items (rest, inl (plain, e), more) = (item ∷ [], rest, inl (plain, refl), e, more)
item-first inner item items (rest, inr (high, low, h, l, is, e), more) = (escaped high low, rest, inr (high, low, h, l, is, refl), e, more)

pub inner-first : (bytes : List ℕ) (item : ℕ) (rest items : List ℕ) → IsItem bytes item → IsInner rest items → IsInner (bytes ++ rest) (item ∷ items)
inner-first bytes item rest items (inl (plain, e)) more = (rest, inl (plain, ap (λ x. x ++ rest) e), more)
inner-first bytes item rest items (inr (high, low, h, l, is, e)) more = (rest, inr (high, low, h, l, is, ap (λ x. x ++ rest) e), more)

-- one item more at the end
pub inner-more : (inner items bytes : List ℕ) (item : ℕ) → IsInner inner items → IsItem bytes item → IsInner (inner ++ bytes) (items ++ item ∷ [])
inner-more inner [] bytes item before one =
    let P : List ℕ → Type 0 = λ text. IsInner text (item ∷ []) in
    let e : bytes ++ [] ≡ inner ++ bytes = append-nil bytes ∙ ap (λ x. x ++ bytes) (sym before) in
    subst P e (inner-first bytes item [] [] one refl)
inner-more inner (first ∷ items) bytes item before one =
    let parts = item-first inner first items before in
    let next : IsInner (parts.1 ++ bytes) (items ++ item ∷ []) = inner-more parts.1 items bytes item parts.4 one in
    let P : List ℕ → Type 0 = λ text. IsInner text (first ∷ (items ++ item ∷ [])) in
    let e : parts.0 ++ (parts.1 ++ bytes) ≡ inner ++ bytes = sym (ap (λ x. x ++ bytes) parts.3 ∙ append_assoc parts.0 parts.1 bytes) in
    subst P e (inner-first parts.0 first (parts.1 ++ bytes) (items ++ item ∷ []) parts.2 next)

-- the digits of a number tell it
hex-one : (a b : ℕ) → a < 16 → b < 16 → hex_digit a ≡ hex_digit b → a ≡ b
hex-one a b below below' same = grind (arith, nat_tests)

not-plain : (byte other : ℕ) → is_plain byte ≡ true → byte ≡ other → is_plain other ≡ false → ⊥
not-plain byte other plain is unplain = let same : is_plain byte ≡ is_plain other = ap is_plain is in cc

quote-apart : (a b : ℕ) → a ≡ b → a ≡ 0x5c → b ≡ 0x22 → ⊥
quote-apart a b same slash quote = omega arith

-- no item begins with a quote
pub item-unquoted : (bytes : List ℕ) (item : ℕ) (rest behind : List ℕ) → IsItem bytes item → bytes ++ rest ≡ 0x22 ∷ behind → ⊥
item-unquoted bytes item rest behind (inl (plain, e)) same =
    let front : item ∷ rest ≡ 0x22 ∷ behind = ap (λ x. x ++ rest) (sym e) ∙ same in
    not-plain item 0x22 plain (cc) refl
item-unquoted bytes item rest behind (inr (high, low, h, l, is, e)) same =
    let front : escaped high low ++ rest ≡ 0x22 ∷ behind = ap (λ x. x ++ rest) (sym e) ∙ same in
    quote-apart 0x5c 0x22 (cc) refl refl

plain-unescaped : (item high low : ℕ) (x y : List ℕ) → is_plain item ≡ true → item ∷ x ≡ escaped high low ++ y → ⊥
plain-unescaped item high low x y plain same = not-plain item 0x5c plain (cc) refl

-- one item begins a text
pub item-one : (a b : List ℕ) (i j : ℕ) (x y : List ℕ) → IsItem a i → IsItem b j → a ++ x ≡ b ++ y → (a ≡ b) × (i ≡ j) × (x ≡ y)
item-one a b i j x y (inl (plain, e)) (inl (plain', e')) same =
    let front : i ∷ x ≡ j ∷ y = ap (λ z. z ++ x) (sym e) ∙ same ∙ ap (λ z. z ++ y) e' in
    let item : i ≡ j = cc in
    (cc, item, cc)
item-one a b i j x y (inl (plain, e)) (inr (high, low, h, l, is, e')) same =
    let front : i ∷ x ≡ escaped high low ++ y = ap (λ z. z ++ x) (sym e) ∙ same ∙ ap (λ z. z ++ y) e' in
    absurd (plain-unescaped i high low x y plain front)
item-one a b i j x y (inr (high, low, h, l, is, e)) (inl (plain, e')) same =
    let front : escaped high low ++ x ≡ j ∷ y = ap (λ z. z ++ x) (sym e) ∙ same ∙ ap (λ z. z ++ y) e' in
    absurd (plain-unescaped j high low y x plain (sym front))
item-one a b i j x y (inr (high, low, h, l, is, e)) (inr (high', low', h', l', is', e')) same =
    let front : escaped high low ++ x ≡ escaped high' low' ++ y = ap (λ z. z ++ x) (sym e) ∙ same ∙ ap (λ z. z ++ y) e' in
    let digit : hex_digit high ≡ hex_digit high' = cc in
    let digit' : hex_digit low ≡ hex_digit low' = cc in
    let upper : high ≡ high' = hex-one high high' h h' digit in
    let lower : low ≡ low' = hex-one low low' l l' digit' in
    (cc, cc, cc)

-- What is read so far begins every reading of the same string.
pub inner-left : (xs ys p q rest behind : List ℕ) → IsInner p xs → IsInner q ys → p ++ rest ≡ q ++ 0x22 ∷ behind
    → (zs left : List ℕ) × IsInner left zs × (rest ≡ left ++ 0x22 ∷ behind) × (ys ≡ xs ++ zs) × (q ≡ p ++ left)
inner-left [] ys p q rest behind one other same =
    let e : rest ≡ q ++ 0x22 ∷ behind = ap (λ z. z ++ rest) (sym one) ∙ same in
    (ys, q, other, e, refl, ap (λ z. z ++ q) (sym one))
inner-left (x ∷ xs) [] p q rest behind one other same =
    let parts = item-first p x xs one in
    let e : parts.0 ++ (parts.1 ++ rest) ≡ 0x22 ∷ behind =
    sym (append_assoc parts.0 parts.1 rest) ∙ ap (λ z. z ++ rest) (sym parts.3) ∙ same ∙ ap (λ z. z ++ 0x22 ∷ behind) other in
    absurd (item-unquoted parts.0 x (parts.1 ++ rest) behind parts.2 e)
inner-left (x ∷ xs) (y ∷ ys) p q rest behind one other same =
    let parts = item-first p x xs one in
    let parts' = item-first q y ys other in
    let e : parts.0 ++ (parts.1 ++ rest) ≡ parts'.0 ++ (parts'.1 ++ 0x22 ∷ behind) =
    sym (append_assoc parts.0 parts.1 rest) ∙ ap (λ z. z ++ rest) (sym parts.3) ∙ same
    ∙ ap (λ z. z ++ 0x22 ∷ behind) parts'.3 ∙ append_assoc parts'.0 parts'.1 (0x22 ∷ behind) in
    let first = item-one parts.0 parts'.0 x y (parts.1 ++ rest) (parts'.1 ++ 0x22 ∷ behind) parts.2 parts'.2 e in
    let more = inner-left xs ys parts.1 parts'.1 rest behind parts.4 parts'.4 first.2 in
    let items : y ∷ ys ≡ x ∷ (xs ++ more.0) = cc in
    let bytes : q ≡ p ++ more.1 =
    parts'.3 ∙ ap (λ z. z ++ parts'.1) (sym first.0) ∙ ap (λ z. parts.0 ++ z) more.5
    ∙ sym (append_assoc parts.0 parts.1 more.1) ∙ ap (λ z. z ++ more.1) (sym parts.3) in
    (more.0, more.1, more.2, more.3, items, bytes)

-- no items are left where the quote stands
none-left : (zs left rest behind : List ℕ) → IsInner left zs → 0x22 ∷ rest ≡ left ++ 0x22 ∷ behind → (zs ≡ []) × (left ≡ [])
none-left [] left rest behind inner same = (refl, inner)
none-left (z ∷ zs) left rest behind inner same =
    let parts = item-first left z zs inner in
    let e : parts.0 ++ (parts.1 ++ 0x22 ∷ behind) ≡ 0x22 ∷ rest =
    sym (append_assoc parts.0 parts.1 (0x22 ∷ behind)) ∙ ap (λ x. x ++ 0x22 ∷ behind) (sym parts.3) ∙ sym same in
    absurd (item-unquoted parts.0 z (parts.1 ++ 0x22 ∷ behind) rest parts.2 e)

-- a byte string is closed by the first quote that is no part of an item
pub inner-one : (p q xs ys rest behind : List ℕ) → IsInner p xs → IsInner q ys → p ++ 0x22 ∷ rest ≡ q ++ 0x22 ∷ behind
    → (p ≡ q) × (xs ≡ ys)
inner-one p q xs ys rest behind one other same =
    let more = inner-left xs ys p q (0x22 ∷ rest) behind one other same in
    let none = none-left more.0 more.1 rest behind more.2 more.3 in
    (sym (more.5 ∙ ap (λ z. p ++ z) none.1 ∙ append-nil p), sym (more.4 ∙ ap (λ z. xs ++ z) none.0 ∙ append-nil xs))

unclosed-left : (zs left rest behind : List ℕ) → IsInner left zs → rest ≡ left ++ 0x22 ∷ behind
    → ((item : ℕ) (more : List ℕ) → BeginsByItem rest item more → ⊥) → ((more : List ℕ) → rest ≡ 0x22 ∷ more → ⊥) → ⊥
unclosed-left [] left rest behind inner same unread unclosed = unclosed behind (same ∙ ap (λ z. z ++ 0x22 ∷ behind) inner)
unclosed-left (z ∷ zs) left rest behind inner same unread unclosed =
    let parts = item-first left z zs inner in
    let e : rest ≡ parts.0 ++ (parts.1 ++ 0x22 ∷ behind) =
    same ∙ ap (λ x. x ++ 0x22 ∷ behind) parts.3 ∙ append_assoc parts.0 parts.1 (0x22 ∷ behind) in
    unread z (parts.1 ++ 0x22 ∷ behind) (parts.0, parts.2, e)

-- where neither an item nor the quote stands, the string is not closed
pub inner-unclosed : (p q xs ys rest behind : List ℕ) → IsInner p xs → IsInner q ys → p ++ rest ≡ q ++ 0x22 ∷ behind
    → ((item : ℕ) (more : List ℕ) → BeginsByItem rest item more → ⊥) → ((more : List ℕ) → rest ≡ 0x22 ∷ more → ⊥) → ⊥
inner-unclosed p q xs ys rest behind one other same unread unclosed =
    let more = inner-left xs ys p q rest behind one other same in
    unclosed-left more.0 more.1 rest behind more.2 more.3 unread unclosed
