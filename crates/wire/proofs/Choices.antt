-- A choice by a byte: each arm reads a format of its own.
use Rattle.std.proofs.Common.{◌≡◌, ℕ, suc, ◌+◌, ◌<◌, ◌≤◌, ◌⊎◌, inl, inr, Bool, true, false, cond, eqb, List, [], ◌∷◌, ◌++◌, length, Ok, Err, refl, sym, ap, subst, ◌∙◌, arith}
use Rattle.std.proofs.lemmas.Bool.{eq-eqb}
use Rattle.std.proofs.lemmas.Bool.Decides.{eqb_tells}
use Rattle.std.proofs.lemmas.List.{length-append}
use Rattle.wire.specs.Readers.{Reader, tagged, arm, no_arm}
use Rattle.wire.proofs.Formats.{IsBytes, Begins, Furthest, Reads, ok_err}

abbrev pub either : {A B X : Type 0} → (A → X) → (B → X) → A ⊎ B → X
either f g (inl x) = f x
either f g (inr y) = g y

abbrev pub EitherFits : {A B : Type 0} → (A → Type 0) → (B → Type 0) → A ⊎ B → Type 0
EitherFits F G (inl x) = F x
EitherFits F G (inr y) = G y

-- what is read behind each tag, from the tag `least` on
pub record Arms {A C : Type 0} (choose : ℕ → Reader C) (make : A → C) (tag : A → ℕ) (spell : A → List ℕ) (F : A → Type 0) (least : ℕ) : Type 0 where
  pub found : (b : ℕ) (bytes : List ℕ) (c : C) (rest : List ℕ) → IsBytes bytes → choose b bytes ≡ Ok (c, rest) →
      (x : A) × (c ≡ make x) × F x × (tag x ≡ b) × (bytes ≡ spell x ++ rest)
  pub again : (x : A) (rest : List ℕ) → F x → choose (tag x) (spell x ++ rest) ≡ Ok (make x, rest)
  pub begins : (b : ℕ) (bytes : List ℕ) (left : ℕ) → IsBytes bytes → choose b bytes ≡ Err left →
      Begins spell (λ x. F x × (tag x ≡ b)) bytes left ⊎ (length bytes + 1 ≡ left)
  pub furthest : (b : ℕ) (bytes : List ℕ) (left : ℕ) → IsBytes bytes → choose b bytes ≡ Err left →
      Furthest spell (λ x. F x × (tag x ≡ b)) bytes left
  pub above : (x : A) → F x → least ≤ tag x

abbrev never : {C : Type 0} → ⊥ → C
never x = absurd x

pub no_arms : {C : Type 0} (least : ℕ) → Arms {A = ⊥} (no_arm {A = C}) never never never (λ x. Unit {0}) least
no_arms {C = C} least = record {
  found = λ b bytes c rest fits e. ok_err (no_arm {A = C} b bytes) (c, rest) (length bytes + 1) e refl;
  again = λ x rest f. absurd x;
  begins = λ b bytes left fits e. inr cc;
  furthest = λ b bytes left fits e x. absurd x;
  above = λ x f. absurd x;
}

picks : {T : Type 0} (b : Bool) (x y z : T) → b ≡ true → cond b x y ≡ z → x ≡ z
picks b x y z t e = subst (λ q. cond q x y ≡ z) t e

skips : {T : Type 0} (b : Bool) (x y z : T) → b ≡ false → cond b x y ≡ z → y ≡ z
skips b x y z t e = subst (λ q. cond q x y ≡ z) t e

arms_again : {A B C : Type 0} {p : Reader C} {makeP : A → C} {spellP : A → List ℕ} {FP : A → Type 0}
    {next : ℕ → Reader C} {make : B → C} {tag : B → ℕ} {spell : B → List ℕ} {F : B → Type 0} {least : ℕ} (k : ℕ) → k < least →
    Reads p makeP spellP FP → Arms next make tag spell F least → (z : A ⊎ B) (rest : List ℕ) → EitherFits FP F z →
    arm k p next (either (λ x. k) tag z) (either spellP spell z ++ rest) ≡ Ok (either makeP make z, rest)
arms_again {p = p} {spellP = spellP} {next = next} k lt r s (inl x) rest f =
    ap (λ q. cond q (p (spellP x ++ rest)) (next k (spellP x ++ rest))) (eq-eqb k k refl) ∙ r.again x rest f
arms_again {p = p} {next = next} {tag = tag} {spell = spell} k lt r s (inr y) rest f =
    let above = s.above y f in
    elim (eqb_tells (tag y) k) [
      | inl t ↦ absurd (omega (arith, t.1))
      | inr t ↦ ap (λ q. cond q (p (spell y ++ rest)) (next (tag y) (spell y ++ rest))) t.0 ∙ s.again y rest f
    ]

arms_furthest : {A B C : Type 0} {p : Reader C} {makeP : A → C} {spellP : A → List ℕ} {FP : A → Type 0}
    {next : ℕ → Reader C} {make : B → C} {tag : B → ℕ} {spell : B → List ℕ} {F : B → Type 0} {least : ℕ} (k : ℕ) → k < least →
    Reads p makeP spellP FP → Arms next make tag spell F least → (b : ℕ) (bytes : List ℕ) (left : ℕ) → IsBytes bytes → arm k p next b bytes ≡ Err left →
    (z : A ⊎ B) (front back more : List ℕ) → (EitherFits FP F z) × (either (λ x. k) tag z ≡ b) → bytes ≡ front ++ back →
    either spellP spell z ≡ front ++ more → left ≤ length back
arms_furthest {p = p} {next = next} k lt r s b bytes left fits e (inl x) front back more f parts spelled =
    elim (eqb_tells b k) [
      | inl t ↦ r.furthest bytes left fits (picks (eqb b k) (p bytes) (next b bytes) _ t.0 e) x front back more f.0 parts spelled
      | inr t ↦ absurd (t.1 (sym f.1))
    ]
arms_furthest {p = p} {next = next} k lt r s b bytes left fits e (inr y) front back more f parts spelled =
    let above = s.above y f.0 in
    elim (eqb_tells b k) [
      | inl t ↦ absurd (omega (arith, t.1, f.1))
      | inr t ↦ s.furthest b bytes left fits (skips (eqb b k) (p bytes) (next b bytes) _ t.0 e) y front back more f parts spelled
    ]

arms_above : {A B : Type 0} (FP : A → Type 0) {tag : B → ℕ} {F : B → Type 0} {least : ℕ} (k : ℕ) → k < least → ((y : B) → F y → least ≤ tag y) →
    (z : A ⊎ B) → EitherFits FP F z → k ≤ either (λ (x : A). k) tag z
arms_above FP k lt above (inl x) f = omega arith
arms_above FP k lt above (inr y) f = let h = above y f in omega arith

pub arms : {A B C : Type 0} {p : Reader C} {makeP : A → C} {spellP : A → List ℕ} {FP : A → Type 0}
    {next : ℕ → Reader C} {make : B → C} {tag : B → ℕ} {spell : B → List ℕ} {F : B → Type 0} {least : ℕ} (k : ℕ) → k < least →
    Reads p makeP spellP FP → Arms next make tag spell F least →
    Arms {A = A ⊎ B} (arm k p next) (either makeP make) (either (λ x. k) tag) (either spellP spell) (EitherFits FP F) k
arms {p = p} {FP = FP} {next = next} k lt r s = record {
  found = λ b bytes c rest fits e.
      elim (eqb_tells b k) [
        | inl t ↦ let f = r.found bytes c rest fits (picks (eqb b k) (p bytes) (next b bytes) _ t.0 e) in (inl f.0, f.1, f.2, sym t.1, f.3)
        | inr t ↦ let f = s.found b bytes c rest fits (skips (eqb b k) (p bytes) (next b bytes) _ t.0 e) in (inr f.0, f.1, f.2, f.3, f.4)
      ];
  again = arms_again k lt r s;
  begins = λ b bytes left fits e.
      elim (eqb_tells b k) [
        | inl t ↦
            let g = r.begins bytes left fits (picks (eqb b k) (p bytes) (next b bytes) _ t.0 e) in
            inl (record { value = inl g.value; fits = (g.fits, sym t.1); front = g.front; back = g.back; more = g.more; parts = g.parts; last = g.last; spelled = g.spelled })
        | inr t ↦ elim (s.begins b bytes left fits (skips (eqb b k) (p bytes) (next b bytes) _ t.0 e)) [
          | inl g ↦ inl (record { value = inr g.value; fits = g.fits; front = g.front; back = g.back; more = g.more; parts = g.parts; last = g.last; spelled = g.spelled })
          | inr h ↦ inr h
        ]
      ];
  furthest = arms_furthest k lt r s;
  above = arms_above FP k lt s.above;
}

-- ---- the byte and what it chooses

tagged_found : {A C : Type 0} {choose : ℕ → Reader C} {make : A → C} {tag : A → ℕ} {spell : A → List ℕ} {F : A → Type 0} {least : ℕ} →
    Arms choose make tag spell F least → (bytes : List ℕ) (c : C) (rest : List ℕ) → IsBytes bytes → tagged choose bytes ≡ Ok (c, rest) →
    (x : A) × (c ≡ make x) × F x × (bytes ≡ tag x ∷ spell x ++ rest)
tagged_found s [] c rest fits e = absurd cc
tagged_found {tag = tag} s (b ∷ bytes) c rest fits e =
    let g = s.found b bytes c rest (λ i. fits (suc i)) e in
    (g.0, g.1, g.2, ap (λ (n : ℕ). n ∷ bytes) (sym g.3) ∙ ap (λ (t : List ℕ). tag g.0 ∷ t) g.4)

tagged_begins : {A C : Type 0} {choose : ℕ → Reader C} {make : A → C} {tag : A → ℕ} {spell : A → List ℕ} {F : A → Type 0} {least : ℕ} →
    (x : A) → F x → Arms choose make tag spell F least → (bytes : List ℕ) (left : ℕ) → IsBytes bytes → tagged choose bytes ≡ Err left →
    Begins (λ y. tag y ∷ spell y) F bytes left
tagged_begins {tag = tag} {spell = spell} x f s [] left fits e =
    record { value = x; fits = f; front = []; back = []; more = tag x ∷ spell x; parts = refl; last = cc; spelled = refl }
tagged_begins {tag = tag} {spell = spell} x f s (b ∷ bytes) left fits e =
    elim (s.begins b bytes left (λ i. fits (suc i)) e) [
      | inl g ↦ record {
        value = g.value;
        fits = g.fits.0;
        front = b ∷ g.front;
        back = g.back;
        more = g.more;
        parts = ap (λ (t : List ℕ). b ∷ t) g.parts;
        last = g.last;
        spelled = ap (λ (n : ℕ). n ∷ spell g.value) g.fits.1 ∙ ap (λ (t : List ℕ). b ∷ t) g.spelled;
      }
      | inr h ↦ record { value = x; fits = f; front = []; back = b ∷ bytes; more = tag x ∷ spell x; parts = refl; last = omega (arith, h); spelled = refl }
    ]

tagged_furthest : {A C : Type 0} {choose : ℕ → Reader C} {make : A → C} {tag : A → ℕ} {spell : A → List ℕ} {F : A → Type 0} {least : ℕ} →
    Arms choose make tag spell F least → (bytes : List ℕ) (left : ℕ) → IsBytes bytes → tagged choose bytes ≡ Err left →
    (z : A) (front back more : List ℕ) → F z → bytes ≡ front ++ back → tag z ∷ spell z ≡ front ++ more → left ≤ length back
tagged_furthest s [] left fits e z front back more f parts spelled = let none : left ≡ 0 = cc in omega (arith, none)
tagged_furthest s (b ∷ bytes) left fits e z [] back more f parts spelled =
    let whole = ap (λ (t : List ℕ). length t) parts in
    elim (s.begins b bytes left (λ i. fits (suc i)) e) [
      | inl g ↦ omega (arith, whole, ap (λ (t : List ℕ). length t) g.parts, length-append g.front g.back, g.last)
      | inr h ↦ omega (arith, whole, h)
    ]
tagged_furthest {tag = tag} {spell = spell} s (b ∷ bytes) left fits e z (y ∷ front) back more f parts spelled =
    let first : b ≡ y = cc in
    let behind : bytes ≡ front ++ back = cc in
    let same : tag z ≡ y = cc in
    let others : spell z ≡ front ++ more = cc in
    s.furthest b bytes left (λ i. fits (suc i)) e z front back more (f, same ∙ sym first) behind others

pub tagged_reads : {A C : Type 0} {choose : ℕ → Reader C} {make : A → C} {tag : A → ℕ} {spell : A → List ℕ} {F : A → Type 0} {least : ℕ} →
    (x : A) → F x → Arms choose make tag spell F least → Reads (tagged choose) make (λ x. tag x ∷ spell x) F
tagged_reads x f s = record {
  some = (x, f);
  found = tagged_found s;
  again = λ z rest g. s.again z rest g;
  begins = tagged_begins x f s;
  furthest = tagged_furthest s;
}
