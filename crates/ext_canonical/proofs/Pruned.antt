-- Slots of which some are left out: those of brackets that nothing needs.
use Rattle.std.proofs.Common.{◌≡◌, ℕ, ◌+◌, ◌-◌, ◌≤◌, List, [], ◌∷◌, ◌++◌, ◌⊎◌, inl, inr, refl, sym, ap, ◌∙◌, subst, arith, append_assoc, if◌then◌else◌}
use Rattle.ext_mean.specs.declared.token.Token.{Token}
use Rattle.ext_mean.specs.Bounds.{open_with, functions_with, locals_with}
use Rattle.ext_mean.specs.Wording.{Slot, slot, inside, open_, close, comma, is_operator, operators, going_on}

-- a slot that begins no function, and names no local
pub record IsDropped (gone : Slot) : Type 0 where
  pub functions : (before : ℕ) → functions_with before gone.token ≡ before
  pub locals : (before : ℕ) → locals_with before gone.token gone.standing ≡ before

-- The first slots are what is left of the second, where so many brackets are open before them: no
-- more brackets are open before a slot that is left than were there.
abbrev pub Pruned : ℕ → ℕ → List Slot → List Slot → Type 0
Pruned few many left [] = left ≡ []
Pruned few many left (next ∷ slots) =
    ((more : List Slot) × (left ≡ next ∷ more) × (few ≤ many)
    × Pruned (open_with few next.token) (open_with many next.token) more slots)
    ⊎ (IsDropped next × Pruned few (open_with many next.token) left slots)

-- Slots that close what they open, of which the first are left, whatever follows.
pub record Leaner (left whole : List Slot) : Type 0 where
  pub before : (few many : ℕ) (more rest : List Slot) → few ≤ many → Pruned few many more rest →
      Pruned few many (left ++ more) (whole ++ rest)

pub nothing-leaner : Leaner [] []
nothing-leaner = record { before = λ few many more rest less pruned. pruned }

pub both-leaner : (a x b y : List Slot) → Leaner a x → Leaner b y → Leaner (a ++ b) (x ++ y)
both-leaner a x b y first second = record {
  before = λ few many more rest less pruned.
      let it = first.before few many (b ++ more) (y ++ rest) less (second.before few many more rest less pruned) in
      let L : List Slot → Type 0 = λ left. Pruned few many left (x ++ (y ++ rest)) in
      let W : List Slot → Type 0 = λ whole. Pruned few many ((a ++ b) ++ more) whole in
      subst W (sym (append_assoc x y rest)) (subst L (sym (append_assoc a b more)) it);
}

pub leaner-as : (a b x y : List Slot) → a ≡ b → x ≡ y → Leaner a x → Leaner b y
leaner-as a b x y left whole it =
    let L : List Slot → Type 0 = λ slots. Leaner slots x in
    let W : List Slot → Type 0 = λ slots. Leaner b slots in
    subst W whole (subst L left it)

-- the same count of brackets in two ways
counted : (few many a b : ℕ) (left whole : List Slot) → a ≡ few → b ≡ many → Pruned few many left whole → Pruned a b left whole
counted few many a b left whole first second it =
    let L : ℕ → Type 0 = λ n. Pruned n many left whole in
    let W : ℕ → Type 0 = λ n. Pruned a n left whole in
    subst W (sym second) (subst L (sym first) it)

-- a slot that is no bracket
pub kept-leaner : (next : Slot) (a x : List Slot) → ((n : ℕ) → open_with n next.token ≡ n) → Leaner a x → Leaner (next ∷ a) (next ∷ x)
kept-leaner next a x plain it = record {
  before = λ few many more rest less pruned. inl (
    a ++ more,
    refl,
    less,
    counted few many (open_with few next.token) (open_with many next.token) (a ++ more) (x ++ rest) (plain few) (plain many)
        (it.before few many more rest less pruned),
  );
}

-- slots between a bracket and the one that closes it
pub bracketed : (opens closes : Slot) (a x b y : List Slot) → ((n : ℕ) → open_with n opens.token ≡ n + 1) → ((n : ℕ) → open_with n closes.token ≡ n - 1)
    → Leaner a x → Leaner b y → Leaner (opens ∷ (a ++ closes ∷ b)) (opens ∷ (x ++ closes ∷ y))
bracketed opens closes a x b y up down inner after = record {
  before = λ few many more rest less pruned.
      let behind = after.before few many more rest less pruned in
      let closed : Pruned (few + 1) (many + 1) (closes ∷ (b ++ more)) (closes ∷ (y ++ rest)) = inl (
        b ++ more,
        refl,
        omega arith,
        counted few many (open_with (few + 1) closes.token) (open_with (many + 1) closes.token) (b ++ more) (y ++ rest)
            (down (few + 1) ∙ omega arith) (down (many + 1) ∙ omega arith) behind,
      ) in
      let less' : few + 1 ≤ many + 1 = omega arith in
      let inside' = inner.before (few + 1) (many + 1) (closes ∷ (b ++ more)) (closes ∷ (y ++ rest)) less' closed in
      let L : List Slot → Type 0 = λ left. Pruned (few + 1) (many + 1) left (x ++ closes ∷ (y ++ rest)) in
      let W : List Slot → Type 0 = λ whole. Pruned (few + 1) (many + 1) ((a ++ closes ∷ b) ++ more) whole in
      let all = subst W (sym (append_assoc x (closes ∷ y) rest)) (subst L (sym (append_assoc a (closes ∷ b) more)) inside') in
      inl (
        (a ++ closes ∷ b) ++ more,
        refl,
        less,
        counted (few + 1) (many + 1) (open_with few opens.token) (open_with many opens.token)
            ((a ++ closes ∷ b) ++ more) ((x ++ closes ∷ y) ++ rest) (up few) (up many) all,
      );
}

-- the two brackets left out
pub unbracketed : (opens closes : Slot) (a x : List Slot) → ((n : ℕ) → open_with n opens.token ≡ n + 1) → ((n : ℕ) → open_with n closes.token ≡ n - 1)
    → IsDropped opens → IsDropped closes → Leaner a x → Leaner a (opens ∷ (x ++ closes ∷ []))
unbracketed opens closes a x up down first second inner = record {
  before = λ few many more rest less pruned.
      let closed : Pruned few (many + 1) more (closes ∷ rest) = inr (
        second,
        counted few many few (open_with (many + 1) closes.token) more rest refl (down (many + 1) ∙ omega arith) pruned,
      ) in
      let less' : few ≤ many + 1 = omega arith in
      let inside' = inner.before few (many + 1) more (closes ∷ rest) less' closed in
      let W : List Slot → Type 0 = λ whole. Pruned few (many + 1) (a ++ more) whole in
      let all = subst W (sym (append_assoc x (closes ∷ []) rest)) inside' in
      inr (
        first,
        counted few (many + 1) few (open_with many opens.token) (a ++ more) ((x ++ closes ∷ []) ++ rest) refl (up many) all,
      );
}

-- a slot that is no bracket, left out
pub dropped : (gone : Slot) (a x : List Slot) → ((n : ℕ) → open_with n gone.token ≡ n) → IsDropped gone → Leaner a x → Leaner a (gone ∷ x)
dropped gone a x plain drop it = record {
  before = λ few many more rest less pruned. inr (
    drop,
    counted few many few (open_with many gone.token) (a ++ more) (x ++ rest) refl (plain many)
        (it.before few many more rest less pruned),
  );
}

-- Tokens of an item.

pub going_on-append : (n : ℕ) (a b : List Token) → going_on n (a ++ b) ≡ going_on n a ++ going_on (operators a + n) b
going_on-append n [] b = ap (λ k. going_on k b) (omega arith)
going_on-append n (next ∷ a) b =
    let step : ℕ = if is_operator next then 1 else 0 in
    ap (λ it. slot next (inside n) ∷ it)
    (going_on-append (step + n) a b
    ∙ ap (λ k. going_on (step + n) a ++ going_on k b) (omega arith))

pub operators-append : (a b : List Token) → operators (a ++ b) ≡ operators a + operators b
operators-append [] b = omega arith
operators-append (next ∷ a) b = let more : operators (a ++ b) ≡ operators a + operators b = operators-append a b in omega arith

-- tokens of an item that close what they open, of which the first are left
pub record Lean (left whole : List Token) : Type 0 where
  pub same : operators left ≡ operators whole
  pub slots : (n : ℕ) → Leaner (going_on n left) (going_on n whole)

pub lean-as : (a b x y : List Token) → a ≡ b → x ≡ y → Lean a x → Lean b y
lean-as a b x y left whole it =
    let L : List Token → Type 0 = λ tokens. Lean tokens x in
    let W : List Token → Type 0 = λ tokens. Lean b tokens in
    subst W whole (subst L left it)

pub lean-nothing : Lean [] []
lean-nothing = record { same = refl; slots = λ n. nothing-leaner }

pub lean-both : (a x b y : List Token) → Lean a x → Lean b y → Lean (a ++ b) (x ++ y)
lean-both a x b y first second = record {
  same = operators-append a b ∙ omega (arith, first.same, second.same) ∙ sym (operators-append x y);
  slots = λ n.
      let G : ℕ → Type 0 = λ k. Leaner (going_on (operators a + n) b) (going_on k y) in
      let behind = subst G (ap (λ k. k + n) first.same) (second.slots (operators a + n)) in
      leaner-as (going_on n a ++ going_on (operators a + n) b) (going_on n (a ++ b)) (going_on n x ++ going_on (operators x + n) y) (going_on n (x ++ y))
      (sym (going_on-append n a b)) (sym (going_on-append n x y))
      (both-leaner (going_on n a) (going_on n x) (going_on (operators a + n) b) (going_on (operators x + n) y) (first.slots n) behind);
}

pub lean-kept : (next : Token) (a x : List Token) → ((n : ℕ) → open_with n next ≡ n) → Lean a x → Lean (next ∷ a) (next ∷ x)
lean-kept next a x plain it = record {
  same = ap (λ k. (if is_operator next then 1 else 0) + k) it.same;
  slots = λ n. kept-leaner (slot next (inside n)) _ _ plain (it.slots ((if is_operator next then 1 else 0) + n));
}

-- the slots of tokens in parentheses, before others
spread : (n : ℕ) (a b : List Token) →
    slot open_ (inside n) ∷ (going_on n a ++ slot close (inside (operators a + n)) ∷ going_on (operators a + n) b)
    ≡ going_on n (open_ ∷ (a ++ close ∷ b))
spread n a b =
    let none : 0 + n ≡ n = omega arith in
    let still : 0 + (operators a + n) ≡ operators a + n = omega arith in
    ap (λ it. slot open_ (inside n) ∷ it)
    (ap (λ k. going_on n a ++ slot close (inside (operators a + n)) ∷ going_on k b) (sym still)
    ∙ sym (going_on-append n a (close ∷ b))
    ∙ ap (λ k. going_on k (a ++ close ∷ b)) (sym none))

-- tokens in parentheses, before others
pub lean-within : (a x b y : List Token) → Lean a x → Lean b y → Lean (open_ ∷ (a ++ close ∷ b)) (open_ ∷ (x ++ close ∷ y))
lean-within a x b y inner after = record {
  same =
      let first = operators-append a (close ∷ b) in
      let second = operators-append x (close ∷ y) in
      let one = inner.same in
      let two = after.same in
      omega (arith, first, second, one, two);
  slots = λ n.
      let G : ℕ → Type 0 = λ k. Leaner (going_on (operators a + n) b) (going_on k y) in
      let behind = subst G (ap (λ k. k + n) inner.same) (after.slots (operators a + n)) in
      let B : ℕ → Type 0 = λ k.
      Leaner (slot open_ (inside n) ∷ (going_on n a ++ slot close (inside (operators a + n)) ∷ going_on (operators a + n) b))
      (slot open_ (inside n) ∷ (going_on n x ++ slot close (inside (k + n)) ∷ going_on (operators x + n) y)) in
      let it = subst B inner.same
      (bracketed (slot open_ (inside n)) (slot close (inside (operators a + n))) (going_on n a) (going_on n x)
      (going_on (operators a + n) b) (going_on (operators x + n) y) (λ k. refl) (λ k. refl) (inner.slots n) behind) in
      leaner-as
      (slot open_ (inside n) ∷ (going_on n a ++ slot close (inside (operators a + n)) ∷ going_on (operators a + n) b))
      (going_on n (open_ ∷ (a ++ close ∷ b)))
      (slot open_ (inside n) ∷ (going_on n x ++ slot close (inside (operators x + n)) ∷ going_on (operators x + n) y))
      (going_on n (open_ ∷ (x ++ close ∷ y)))
      (spread n a b) (spread n x y) it;
}

-- the parentheses left out
pub lean-without : (a x : List Token) → Lean a x → Lean a (open_ ∷ (x ++ close ∷ []))
lean-without a x inner = record {
  same = let first = operators-append x (close ∷ []) in let one = inner.same in omega (arith, first, one);
  slots = λ n.
      leaner-as (going_on n a) (going_on n a)
      (slot open_ (inside n) ∷ (going_on n x ++ slot close (inside (operators x + n)) ∷ []))
      (going_on n (open_ ∷ (x ++ close ∷ [])))
      refl (spread n x [])
      (unbracketed (slot open_ (inside n)) (slot close (inside (operators x + n))) (going_on n a) (going_on n x)
      (λ k. refl) (λ k. refl)
      (record { functions = λ k. refl; locals = λ k. refl }) (record { functions = λ k. refl; locals = λ k. refl }) (inner.slots n));
}

-- two and three expressions in parentheses, before others
pub lean-two : (a x b y c z : List Token) → Lean a x → Lean b y → Lean c z
    → Lean (open_ ∷ (a ++ comma ∷ (b ++ close ∷ c))) (open_ ∷ (x ++ comma ∷ (y ++ close ∷ z)))
lean-two a x b y c z first second after =
    lean-as (open_ ∷ ((a ++ comma ∷ b) ++ close ∷ c)) (open_ ∷ (a ++ comma ∷ (b ++ close ∷ c)))
    (open_ ∷ ((x ++ comma ∷ y) ++ close ∷ z)) (open_ ∷ (x ++ comma ∷ (y ++ close ∷ z)))
    (ap (λ it. open_ ∷ it) (append_assoc a (comma ∷ b) (close ∷ c)))
    (ap (λ it. open_ ∷ it) (append_assoc x (comma ∷ y) (close ∷ z)))
    (lean-within (a ++ comma ∷ b) (x ++ comma ∷ y) c z
    (lean-both a x (comma ∷ b) (comma ∷ y) first (lean-kept comma b y (λ n. refl) second)) after)

pub lean-three : (a x b y c z d w : List Token) → Lean a x → Lean b y → Lean c z → Lean d w
    → Lean (open_ ∷ (a ++ comma ∷ (b ++ comma ∷ (c ++ close ∷ d)))) (open_ ∷ (x ++ comma ∷ (y ++ comma ∷ (z ++ close ∷ w))))
lean-three a x b y c z d w first second third after =
    lean-as (open_ ∷ (a ++ comma ∷ ((b ++ comma ∷ c) ++ close ∷ d))) (open_ ∷ (a ++ comma ∷ (b ++ comma ∷ (c ++ close ∷ d))))
    (open_ ∷ (x ++ comma ∷ ((y ++ comma ∷ z) ++ close ∷ w))) (open_ ∷ (x ++ comma ∷ (y ++ comma ∷ (z ++ close ∷ w))))
    (ap (λ it. open_ ∷ (a ++ comma ∷ it)) (append_assoc b (comma ∷ c) (close ∷ d)))
    (ap (λ it. open_ ∷ (x ++ comma ∷ it)) (append_assoc y (comma ∷ z) (close ∷ w)))
    (lean-two a x (b ++ comma ∷ c) (y ++ comma ∷ z) d w first
    (lean-both b y (comma ∷ c) (comma ∷ z) second (lean-kept comma c z (λ n. refl) third)) after)
