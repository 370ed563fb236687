-- A reader of all of the bytes: what it reads is what they spell, and it fails behind their longest
-- part that begins a spelling.
use Rattle.std.proofs.Common.{◌≡◌, ℕ, ◌-◌, ◌≤◌, inl, inr, Bool, true, false, cond, eqb, List, [], ◌++◌, length, take, drop, Result, Ok, Err, refl, sym, ap, subst, ◌∙◌, arith}
use Rattle.std.proofs.lemmas.List.{append-nil, length-append, length-drop, take_at, nil_from_length}
use Rattle.std.proofs.lemmas.Bool.{eqb-true}
use Rattle.wire.specs.Readers.{Reader, ◌>>=◌, all_of}
use Rattle.wire.proofs.Formats.{IsBytes, Begins, Furthest, Reads, bind_ok, bind_err, not_past}

abbrev rest_test : {A : Type 0} → A × List ℕ → Result A ℕ
rest_test x = cond (eqb (length x.1) 0) (Ok x.0) (Err (length x.1))

test_ok : {A : Type 0} (b : Bool) (x y : A) (n : ℕ) → (let r : Result A ℕ = cond b (Ok x) (Err n) in r) ≡ Ok y → (b ≡ true) × (x ≡ y)
test_ok true x y n e = (refl, cc)
test_ok false x y n e = absurd cc

test_err : {A : Type 0} (b : Bool) (x : A) (n left : ℕ) → (let r : Result A ℕ = cond b (Ok x) (Err n) in r) ≡ Err left → n ≡ left
test_err true x n left e = absurd cc
test_err false x n left e = cc

pub all_found : {C : Type 0} {R : Reader C} {spell : C → List ℕ} {F : C → Type 0} → Reads R (λ c. c) spell F →
    (body : List ℕ) (m : C) → IsBytes body → all_of R body ≡ Ok m → F m × (body ≡ spell m)
all_found {R = R} {spell = spell} {F = F} r body m fits e =
    let a = bind_ok (R body) rest_test m e in
    let t = test_ok (eqb (length a.0.1) 0) a.0.0 m (length a.0.1) a.2 in
    let f = r.found body a.0.0 a.0.1 fits a.1 in
    let same : m ≡ f.0 = sym t.1 ∙ f.1 in
    let none : a.0.1 ≡ [] = nil_from_length a.0.1 (eqb-true _ _ t.0) in
    (subst F (sym same) f.2, f.3 ∙ ap (λ (t : List ℕ). spell f.0 ++ t) none ∙ append-nil (spell f.0) ∙ ap spell (sym same))

pub all_again : {C : Type 0} {R : Reader C} {spell : C → List ℕ} {F : C → Type 0} → Reads R (λ c. c) spell F →
    (m : C) → F m → all_of R (spell m) ≡ Ok m
all_again {C = C} {R = R} {spell = spell} r m f =
    ap (λ (x : Result (C × List ℕ) ℕ). x >>= rest_test) (ap R (sym (append-nil (spell m))) ∙ r.again m [] f)

pub all_begins : {C : Type 0} {R : Reader C} {spell : C → List ℕ} {F : C → Type 0} → Reads R (λ c. c) spell F →
    (body : List ℕ) (left : ℕ) → IsBytes body → all_of R body ≡ Err left → Begins spell F body left
all_begins {R = R} {spell = spell} r body left fits e =
    elim (bind_err (R body) rest_test left e) [
      | inl h ↦ r.begins body left fits h
      | inr a ↦
          let f = r.found body a.0.0 a.0.1 fits a.1 in
          record {
            value = f.0;
            fits = f.2;
            front = spell f.0;
            back = a.0.1;
            more = [];
            parts = f.3;
            last = test_err (eqb (length a.0.1) 0) a.0.0 (length a.0.1) left a.2;
            spelled = sym (append-nil (spell f.0));
          }
    ]

pub all_furthest : {C : Type 0} {R : Reader C} {spell : C → List ℕ} {F : C → Type 0} → Reads R (λ c. c) spell F →
    (body : List ℕ) (left : ℕ) → IsBytes body → all_of R body ≡ Err left → Furthest spell F body left
all_furthest {R = R} {spell = spell} r body left fits e = λ m front back more f parts spelled.
    elim (bind_err (R body) rest_test left e) [
      | inl h ↦ r.furthest body left fits h m front back more f parts spelled
      | inr a ↦
          let g = r.found body a.0.0 a.0.1 fits a.1 in
          let short : length a.0.1 ≤ length back = not_past r m g.0 front back more a.0.1 f g.2 spelled (sym parts ∙ g.3) in
          omega (arith, test_err (eqb (length a.0.1) 0) a.0.0 (length a.0.1) left a.2)
    ]

-- the front of the bytes, by how many are left behind it
pub front_is : (body front back : List ℕ) (left : ℕ) → body ≡ front ++ back → length back ≡ left → take (length body - left) body ≡ front
front_is body front back left parts last =
    let n : length front ≡ length body - left = omega (arith, ap (λ (t : List ℕ). length t) parts, length-append front back, last) in
    ap (take (length body - left)) parts ∙ take_at front back (length body - left) n

pub not_further : (body : List ℕ) (k left : ℕ) → k ≤ length body → left ≤ length (drop k body) → k ≤ length body - left
not_further body k left le h = omega (arith, length-drop k body)
