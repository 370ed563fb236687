-- What it is to read a format, and the ways to put formats together.
use Rattle.std.proofs.Common.{◌≡◌, ℕ, zero, suc, ◌+◌, ◌<◌, ◌≤◌, ◌⊎◌, inl, inr, List, [], ◌∷◌, ◌++◌, length, get_or, Result, Ok, Err, refl, sym, ap, subst, ◌∙◌, append_assoc, arith}
use Rattle.std.specs.List.{flat_map, AllByRecursion}
use Rattle.std.proofs.lemmas.List.{append-nil, length-append, get_or-append-add}
use Rattle.std.proofs.lemmas.List.Concat.{flat_map-cons}
use Rattle.wire.specs.Readers.{Reader, ◌>>=◌, bind, made, done, repeated}

abbrev pub IsBytes : List ℕ → Type 0
IsBytes bytes = (i : ℕ) → get_or bytes i 0 < 256

pub IsBytes-behind : (xs ys : List ℕ) → IsBytes (xs ++ ys) → IsBytes ys
IsBytes-behind xs ys h i = subst (λ (n : ℕ). n < 256) (get_or-append-add xs ys i 0) (h (length xs + i))

-- the bytes up to those that are left begin a spelling
pub record Begins {A : Type 0} (spell : A → List ℕ) (F : A → Type 0) (bytes : List ℕ) (left : ℕ) : Type 0 where
  pub value : A
  pub fits : F value
  pub front : List ℕ
  pub back : List ℕ
  pub more : List ℕ
  pub parts : bytes ≡ front ++ back
  pub last : length back ≡ left
  pub spelled : spell value ≡ front ++ more

-- what begins a spelling leaves at least so many bytes
abbrev pub Furthest : {A : Type 0} → (A → List ℕ) → (A → Type 0) → List ℕ → ℕ → Type 0
Furthest {A} spell F bytes left = (x : A) (front back more : List ℕ) → F x → bytes ≡ front ++ back → spell x ≡ front ++ more → left ≤ length back

-- the reader reads exactly what is made of values that fit, by their spelling
pub record Reads {A C : Type 0} (R : Reader C) (make : A → C) (spell : A → List ℕ) (F : A → Type 0) : Type 0 where
  pub some : (x : A) × F x
  pub found : (bytes : List ℕ) (c : C) (rest : List ℕ) → IsBytes bytes → R bytes ≡ Ok (c, rest) → (x : A) × (c ≡ make x) × F x × (bytes ≡ spell x ++ rest)
  pub again : (x : A) (rest : List ℕ) → F x → R (spell x ++ rest) ≡ Ok (make x, rest)
  pub begins : (bytes : List ℕ) (left : ℕ) → IsBytes bytes → R bytes ≡ Err left → Begins spell F bytes left
  pub furthest : (bytes : List ℕ) (left : ℕ) → IsBytes bytes → R bytes ≡ Err left → Furthest spell F bytes left

pub bind_ok : {A B : Type 0} (r : Result A ℕ) (f : A → Result B ℕ) (y : B) → (r >>= f) ≡ Ok y → (x : A) × (r ≡ Ok x) × (f x ≡ Ok y)
bind_ok (Ok x) f y e = (x, refl, e)
bind_ok (Err d) f y e = absurd cc

pub bind_err : {A B : Type 0} (r : Result A ℕ) (f : A → Result B ℕ) (left : ℕ) → (r >>= f) ≡ Err left → (r ≡ Err left) ⊎ ((x : A) × (r ≡ Ok x) × (f x ≡ Err left))
bind_err (Ok x) f left e = inr (x, refl, e)
bind_err (Err d) f left e = inl (ap (λ (n : ℕ). Err n) cc)

abbrev okay : {A : Type 0} → A → Result A ℕ
okay x = Ok x

pub ok_is : {A : Type 0} (x y : A) → okay x ≡ okay y → x ≡ y
ok_is x y e = cc

pub ok_err : {A P : Type 0} (r : Result A ℕ) (x : A) (left : ℕ) → r ≡ Ok x → r ≡ Err left → P
ok_err r x left e d = absurd cc

-- two ways to cut one list: one cut is in the first part of the other
pub cuts : (a b c d : List ℕ) → a ++ b ≡ c ++ d → ((m : List ℕ) × (a ≡ c ++ m) × (d ≡ m ++ b)) ⊎ ((m : List ℕ) × (c ≡ a ++ m) × (b ≡ m ++ d))
cuts a b [] d e = inl (a, refl, sym e)
cuts [] b (y ∷ c) d e = inr (y ∷ c, refl, e)
cuts (x ∷ a) b (y ∷ c) d e =
    let head : x ≡ y = cc in
    let tail : a ++ b ≡ c ++ d = cc in
    elim (cuts a b c d tail) [
      | inl m ↦ inl (m.0, ap (λ (n : ℕ). n ∷ a) head ∙ ap (λ (t : List ℕ). y ∷ t) m.1, m.2)
      | inr m ↦ inr (m.0, ap (λ (n : ℕ). n ∷ c) (sym head) ∙ ap (λ (t : List ℕ). x ∷ t) m.1, m.2)
    ]

nothing : (a b : List ℕ) → a ++ b ≡ [] → a ≡ []
nothing [] b e = refl
nothing (x ∷ a) b e = absurd cc

-- no spelling begins another
no_longer : {A C : Type 0} {R : Reader C} {make : A → C} {spell : A → List ℕ} {F : A → Type 0} → Reads R make spell F →
    (x y : A) (more : List ℕ) → F x → F y → spell x ≡ spell y ++ more → more ≡ []
no_longer {R = R} {make = make} {spell = spell} r x y more fx fy e =
    let one : R (spell x) ≡ Ok (make x, []) = ap R (sym (append-nil (spell x))) ∙ r.again x [] fx in
    let two : R (spell x) ≡ Ok (make y, more) = ap R e ∙ r.again y more fy in
    let both = ok_is (make y, more) (make x, []) (sym two ∙ one) in
    ap (λ p. p.1) both

-- what begins one spelling goes no further than another that stands there whole
pub not_past : {A C : Type 0} {R : Reader C} {make : A → C} {spell : A → List ℕ} {F : A → Type 0} → Reads R make spell F →
    (x y : A) (front back more rest : List ℕ) → F x → F y → spell x ≡ front ++ more → front ++ back ≡ spell y ++ rest → length rest ≤ length back
not_past {spell = spell} r x y front back more rest fx fy begun e =
    elim (cuts front back (spell y) rest e) [
      | inl m ↦
          let longer : spell x ≡ spell y ++ (m.0 ++ more) = begun ∙ ap (λ (t : List ℕ). t ++ more) m.1 ∙ append_assoc (spell y) m.0 more in
          let none : m.0 ≡ [] = nothing m.0 more (no_longer r x y (m.0 ++ more) fx fy longer) in
          let same : rest ≡ back = m.2 ∙ ap (λ (t : List ℕ). t ++ back) none in
          omega (arith, ap (λ (t : List ℕ). length t) same)
      | inr m ↦ omega (arith, ap (λ (t : List ℕ). length t) m.2, length-append m.0 rest)
    ]

-- ---- one after the other

pub bind_reads : {A V B C : Type 0} (k : V → Reader C) {p : Reader V} {makeP : A → V} {spellP : A → List ℕ} {FP : A → Type 0} {make : A → B → C} {spell : A → B → List ℕ} {F : A → B → Type 0} →
    Reads p makeP spellP FP → ((x : A) → FP x → Reads (k (makeP x)) (make x) (spell x) (F x)) →
    Reads {A = A × B} (bind p k) (λ z. make z.0 z.1) (λ z. spellP z.0 ++ spell z.0 z.1) (λ z. FP z.0 × F z.0 z.1)
bind_reads {A = A} {V = V} {B = B} {C = C} k {p = p} {makeP = makeP} {spellP = spellP} {FP = FP} {make = make} {spell = spell} {F = F} r s = record {
  some = let x = r.some in let y = (s x.0 x.1).some in ((x.0, y.0), (x.1, y.1));
  found = λ bytes c rest fits e.
      let a = bind_ok (p bytes) (λ v. k v.0 v.1) (c, rest) e in
      let f = r.found bytes a.0.0 a.0.1 fits a.1 in
      let behind : IsBytes a.0.1 = IsBytes-behind (spellP f.0) a.0.1 (subst IsBytes f.3 fits) in
      let g = (s f.0 f.2).found a.0.1 c rest behind (subst (λ (v : V). k v a.0.1 ≡ Ok (c, rest)) f.1 a.2) in
      ((f.0, g.0), g.1, (f.2, g.2), f.3 ∙ ap (λ (t : List ℕ). spellP f.0 ++ t) g.3 ∙ sym (append_assoc (spellP f.0) (spell f.0 g.0) rest));
  again = λ z rest f.
      ap (bind p k) (append_assoc (spellP z.0) (spell z.0 z.1) rest)
      ∙ ap (λ (t : Result (V × List ℕ) ℕ). t >>= λ v. k v.0 v.1) (r.again z.0 (spell z.0 z.1 ++ rest) f.0)
      ∙ (s z.0 f.0).again z.1 rest f.1;
  begins = λ bytes left fits e.
      elim (bind_err (p bytes) (λ v. k v.0 v.1) left e) [
        | inl h ↦
            let b = r.begins bytes left fits h in
            let y = (s b.value b.fits).some in
            record {
              value = (b.value, y.0);
              fits = (b.fits, y.1);
              front = b.front;
              back = b.back;
              more = b.more ++ spell b.value y.0;
              parts = b.parts;
              last = b.last;
              spelled = ap (λ (t : List ℕ). t ++ spell b.value y.0) b.spelled ∙ append_assoc b.front b.more (spell b.value y.0);
            }
        | inr a ↦
            let f = r.found bytes a.0.0 a.0.1 fits a.1 in
            let behind : IsBytes a.0.1 = IsBytes-behind (spellP f.0) a.0.1 (subst IsBytes f.3 fits) in
            let b = (s f.0 f.2).begins a.0.1 left behind (subst (λ (v : V). k v a.0.1 ≡ Err left) f.1 a.2) in
            record {
              value = (f.0, b.value);
              fits = (f.2, b.fits);
              front = spellP f.0 ++ b.front;
              back = b.back;
              more = b.more;
              last = b.last;
              parts = f.3 ∙ ap (λ (t : List ℕ). spellP f.0 ++ t) b.parts ∙ sym (append_assoc (spellP f.0) b.front b.back);
              spelled = ap (λ (t : List ℕ). spellP f.0 ++ t) b.spelled ∙ sym (append_assoc (spellP f.0) b.front b.more);
            }
      ];
  furthest = λ bytes left fits e z front back more f parts spelled.
      elim (cuts (spellP z.0) (spell z.0 z.1) front more spelled) [
        | inl m ↦ elim (bind_err (p bytes) (λ v. k v.0 v.1) left e) [
          | inl h ↦ r.furthest bytes left fits h z.0 front back m.0 f.0 parts m.1
          | inr a ↦
              let g = r.found bytes a.0.0 a.0.1 fits a.1 in
              let behind : IsBytes a.0.1 = IsBytes-behind (spellP g.0) a.0.1 (subst IsBytes g.3 fits) in
              let b = (s g.0 g.2).begins a.0.1 left behind (subst (λ (v : V). k v a.0.1 ≡ Err left) g.1 a.2) in
              let short : length a.0.1 ≤ length back = not_past r z.0 g.0 front back m.0 a.0.1 f.0 g.2 m.1 (sym parts ∙ g.3) in
              omega (arith, ap (λ (t : List ℕ). length t) b.parts, length-append b.front b.back, b.last)
        ]
        | inr m ↦
            let whole : bytes ≡ spellP z.0 ++ (m.0 ++ back) = parts ∙ ap (λ (t : List ℕ). t ++ back) m.1 ∙ append_assoc (spellP z.0) m.0 back in
            let read : p bytes ≡ Ok (makeP z.0, m.0 ++ back) = ap p whole ∙ r.again z.0 (m.0 ++ back) f.0 in
            elim (bind_err (p bytes) (λ v. k v.0 v.1) left e) [
              | inl h ↦ ok_err (p bytes) (makeP z.0, m.0 ++ back) left read h
              | inr a ↦
                  let same : a.0 ≡ (makeP z.0, m.0 ++ back) = ok_is a.0 (makeP z.0, m.0 ++ back) (sym a.1 ∙ read) in
                  let behind : IsBytes (m.0 ++ back) = IsBytes-behind (spellP z.0) (m.0 ++ back) (subst IsBytes whole fits) in
                  (s z.0 f.0).furthest (m.0 ++ back) left behind (subst (λ (v : V × List ℕ). k v.0 v.1 ≡ Err left) same a.2) z.1 m.0 back more f.1 refl m.2
            ]
      ];
}

pub made_reads : {A V C : Type 0} {p : Reader V} {makeP : A → V} {spellP : A → List ℕ} {FP : A → Type 0} (f : V → C) →
    Reads p makeP spellP FP → Reads (made f p) (λ x. f (makeP x)) spellP FP
made_reads {V = V} {p = p} {makeP = makeP} {spellP = spellP} f r = record {
  some = r.some;
  found = λ bytes c rest fits e.
      let a = bind_ok (p bytes) (λ v. Ok (f v.0, v.1)) (c, rest) e in
      let g = r.found bytes a.0.0 a.0.1 fits a.1 in
      let same = ok_is (f a.0.0, a.0.1) (c, rest) a.2 in
      (g.0, sym (ap (λ q. q.0) same) ∙ ap f g.1, g.2, g.3 ∙ ap (λ (t : List ℕ). spellP g.0 ++ t) (ap (λ q. q.1) same));
  again = λ x rest fits. ap (λ (t : Result (V × List ℕ) ℕ). t >>= λ v. Ok (f v.0, v.1)) (r.again x rest fits);
  begins = λ bytes left fits e.
      elim (bind_err (p bytes) (λ v. Ok (f v.0, v.1)) left e) [
        | inl h ↦ r.begins bytes left fits h
        | inr a ↦ absurd (ok_err (okay (f a.0.0, a.0.1)) (f a.0.0, a.0.1) left refl a.2)
      ];
  furthest = λ bytes left fits e.
      elim (bind_err (p bytes) (λ v. Ok (f v.0, v.1)) left e) [
        | inl h ↦ r.furthest bytes left fits h
        | inr a ↦ absurd (ok_err (okay (f a.0.0, a.0.1)) (f a.0.0, a.0.1) left refl a.2)
      ];
}

pub done_reads : {C : Type 0} (c : C) → Reads (done c) (λ (u : Unit {0}). c) (λ u. []) (λ u. Unit {0})
done_reads c = record {
  some = (tt, tt);
  found = λ bytes d rest fits e.
      let same = ok_is (c, bytes) (d, rest) e in
      (tt, sym (ap (λ q. q.0) same), tt, ap (λ q. q.1) same);
  again = λ x rest fits. refl;
  begins = λ bytes left fits e. ok_err (okay (c, bytes)) (c, bytes) left refl e;
  furthest = λ bytes left fits e. ok_err (okay (c, bytes)) (c, bytes) left refl e;
}

-- the same reader, by the values that it makes
pub as_value : {A C : Type 0} {R : Reader C} {make : A → C} {spell : A → List ℕ} {F : A → Type 0} (spell' : C → List ℕ) (F' : C → Type 0) →
    Reads R make spell F →
    ((c : C) → F' c → (x : A) × (make x ≡ c) × F x × (spell x ≡ spell' c)) →
    ((x : A) → F x → F' (make x) × (spell' (make x) ≡ spell x)) →
    Reads R (λ c. c) spell' F'
as_value {R = R} {make = make} spell' F' r to from = record {
  some = (make r.some.0, (from r.some.0 r.some.1).0);
  found = λ bytes c rest fits e.
      let f = r.found bytes c rest fits e in
      let g = from f.0 f.2 in
      (make f.0, f.1, g.0, f.3 ∙ ap (λ (t : List ℕ). t ++ rest) (sym g.1));
  again = λ c rest f.
      let x = to c f in
      ap (λ (t : List ℕ). R (t ++ rest)) (sym x.3) ∙ r.again x.0 rest x.2 ∙ ap (λ v. Ok (v, rest)) x.1;
  begins = λ bytes left fits e.
      let b = r.begins bytes left fits e in
      let g = from b.value b.fits in
      record { value = make b.value; fits = g.0; front = b.front; back = b.back; more = b.more; parts = b.parts; last = b.last; spelled = g.1 ∙ b.spelled };
  furthest = λ bytes left fits e c front back more f parts spelled.
      let x = to c f in
      r.furthest bytes left fits e x.0 front back more x.2 parts (x.3 ∙ spelled);
}

-- ---- lists

no_more : {C : Type 0} (spell : C → List ℕ) (F : C → Type 0) (xs : List C) → (length xs ≡ 0) × AllByRecursion F xs →
    (u : Unit {0}) × ([] ≡ xs) × Unit {0} × ([] ≡ flat_map spell xs)
no_more spell F [] f = (tt, refl, tt, refl)
no_more spell F (x ∷ xs) f = absurd cc

one_more : {C : Type 0} (spell : C → List ℕ) (F : C → Type 0) (n : ℕ) (xs : List C) → (length xs ≡ suc n) × AllByRecursion F xs →
    (z : C × List C) × (z.0 ∷ z.1 ≡ xs) × (F z.0 × ((length z.1 ≡ n) × AllByRecursion F z.1)) × (spell z.0 ++ flat_map spell z.1 ≡ flat_map spell xs)
one_more spell F n [] f = absurd cc
one_more spell F n (x ∷ xs) f = ((x, xs), refl, (f.1.0, (cc, f.1.1)), sym (flat_map-cons spell x xs))

pub repeated_reads : {C : Type 0} {p : Reader C} {spell : C → List ℕ} {F : C → Type 0} → Reads p (λ c. c) spell F → (n : ℕ) →
    Reads (repeated p n) (λ xs. xs) (λ xs. flat_map spell xs) (λ xs. (length xs ≡ n) × AllByRecursion F xs)
unfolding repeated
repeated_reads {C = C} {p = p} {spell = spell} {F = F} r zero =
    as_value (λ xs. flat_map spell xs) (λ xs. (length xs ≡ 0) × AllByRecursion F xs) (done_reads [])
    (no_more spell F) (λ x f. ((refl, tt), refl))
repeated_reads {C = C} {p = p} {spell = spell} {F = F} r (suc n) =
    as_value (λ xs. flat_map spell xs) (λ xs. (length xs ≡ suc n) × AllByRecursion F xs)
    (bind_reads (λ first. made (λ others. first ∷ others) (repeated p n)) r (λ x f. made_reads (λ others. x ∷ others) (repeated_reads r n)))
    (one_more spell F n) (λ z f. ((ap suc f.1.0, (f.0, f.1.1)), flat_map-cons spell z.0 z.1))

-- ---- formats, with the values that they are made of

pub record Format (C : Type 0) : Type 1 where
  pub Source : Type 0
  pub reader : Reader C
  pub make : Source → C
  pub spell : Source → List ℕ
  pub Fits : Source → Type 0
  pub reads : Reads reader make spell Fits

abbrev pub format_of : {A C : Type 0} {R : Reader C} {make : A → C} {spell : A → List ℕ} {F : A → Type 0} → Reads R make spell F → Format C
format_of {A = A} {R = R} {make = make} {spell = spell} {F = F} r =
    record { Source = A; reader = R; make = make; spell = spell; Fits = F; reads = r }

-- a value is made so, with this spelling
abbrev pub Shows : {C : Type 0} → Format C → (C → List ℕ) → C → Type 0
Shows f spell c = (x : f.Source) × (f.make x ≡ c) × f.Fits x × (f.spell x ≡ spell c)

-- what is made of a source fits, with the source's spelling
abbrev pub Makes : {C : Type 0} (f : Format C) → (C → List ℕ) → (C → Type 0) → f.Source → Type 0
Makes f spell F x = F (f.make x) × (spell (f.make x) ≡ f.spell x)

pub as_format : {C : Type 0} (f : Format C) (spell : C → List ℕ) (F : C → Type 0) →
    ((c : C) → F c → Shows f spell c) → ((x : f.Source) → f.Fits x → Makes f spell F x) → Reads f.reader (λ c. c) spell F
as_format f spell F to from = as_value spell F f.reads to from
