-- Two fronts of one text, and the longest front that passes a test.
use Rattle.std.proofs.Common.{◌≡◌, ℕ, ◌+◌, ◌≤◌, Bool, true, List, [], ◌∷◌, ◌++◌, length, suc, take, refl, inl, inr, arith}
use Rattle.std.proofs.lemmas.Bool.{and_parts, cases_Bool}
use Rattle.std.specs.List.{prefix_len}
use Rattle.ext_mean.specs.Tokens.{all_pass}

pub fronts-one : (a b x y : List ℕ) → length a ≡ length b → a ++ x ≡ b ++ y → (a ≡ b) × (x ≡ y)
fronts-one [] [] x y size same = (refl, same)
fronts-one [] (second ∷ b) x y size same = absurd (omega arith)
fronts-one (first ∷ a) [] x y size same = absurd (omega arith)
fronts-one (first ∷ a) (second ∷ b) x y size same =
    let behind : a ++ x ≡ b ++ y = cc in
    let shorter : length a ≡ length b = omega arith in
    let rest : (a ≡ b) × (x ≡ y) = fronts-one a b x y shorter behind in
    (cc, rest.1)

-- bytes that pass are within the longest front that passes
pub passing-within : (test : ℕ → Bool) (front rest : List ℕ) → all_pass test front ≡ true
    → length front ≤ prefix_len test (front ++ rest)
passing-within test [] rest pass = omega arith
passing-within test (byte ∷ front) rest pass =
    let parts : (test byte ≡ true) × (all_pass test front ≡ true) = and_parts _ _ pass in
    let more : length front ≤ prefix_len test (front ++ rest) = passing-within test front rest parts.1 in
    rw (parts.0) (omega arith)

-- where the bytes behind do not begin with one that passes, they are that front
pub passing-all : (test : ℕ → Bool) (front rest : List ℕ) → all_pass test front ≡ true
    → prefix_len test rest ≡ 0 → prefix_len test (front ++ rest) ≡ length front
passing-all test [] rest pass stops = stops
passing-all test (byte ∷ front) rest pass stops =
    let parts : (test byte ≡ true) × (all_pass test front ≡ true) = and_parts _ _ pass in
    let more : prefix_len test (front ++ rest) ≡ length front = passing-all test front rest parts.1 stops in
    rw (parts.0) (omega arith)

-- the longest front that passes does
pub front-passes : (test : ℕ → Bool) (text : List ℕ) → all_pass test (take (prefix_len test text) text) ≡ true
front-passes test [] = refl
front-passes test (byte ∷ text) =
    let next : 1 + prefix_len test text ≡ suc (prefix_len test text) = omega arith in
    elim (cases_Bool (test byte)) [
      | inl passes ↦ rw (passes, next, passes) (front-passes test text)
      | inr stops ↦ rw stops refl
    ]
