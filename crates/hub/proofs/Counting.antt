-- Lists that begin others, and counts over the views.
use Rattle.std.proofs.Common.{◌≡◌, ℕ, zero, suc, ◌+◌, ◌<◌, ◌≤◌, List, [], ◌∷◌, ◌++◌, length, set, sym, refl, ap, ◌∙◌, arith, length-append, append-nil, append_assoc}
use mathlib.Core.Option.{some, some-injective, some-ne-none}
use lib.ListN.{get_elem?}
use Rattle.hub.specs.Histories.{Begins, times, total}

module _ {A : Type 0} where
  pub at_bound : (l : List A) (i : ℕ) (a : A) → get_elem? l i ≡ some a → i < length l
  at_bound [] i a e = absurd (some-ne-none a (sym e))
  at_bound (x ∷ xs) zero a e = omega arith
  at_bound (x ∷ xs) (suc i) a e = let p = at_bound xs i a e in omega arith

  pub total_set : (f : A → ℕ) (l : List A) (i : ℕ) (a b : A) → get_elem? l i ≡ some a → total f (set l i b) + f a ≡ total f l + f b
  total_set f [] i a b e = absurd (some-ne-none a (sym e))
  total_set f (x ∷ xs) zero a b e = let p : f x ≡ f a = ap f (some-injective x a e) in omega arith
  total_set f (x ∷ xs) (suc i) a b e = let p = total_set f xs i a b e in omega arith

  pub total_snoc : (f : A → ℕ) (l : List A) (a : A) → total f (l ++ a ∷ []) ≡ total f l + f a
  total_snoc f [] a = omega arith
  total_snoc f (x ∷ xs) a = let p = total_snoc f xs a in omega arith

  pub part_of : (f : A → ℕ) (l : List A) (i : ℕ) (a : A) → get_elem? l i ≡ some a → f a ≤ total f l
  part_of f [] i a e = absurd (some-ne-none a (sym e))
  part_of f (x ∷ xs) zero a e = let p : f x ≡ f a = ap f (some-injective x a e) in omega arith
  part_of f (x ∷ xs) (suc i) a e = let p = part_of f xs i a e in omega arith

  pub begins_all : (l : List A) → Begins l l
  begins_all l = ([], sym (append-nil l))

  pub begins_along : (a b c : List A) → Begins a b → Begins b c → Begins a c
  begins_along a b c p q = (p.0 ++ q.0, q.1 ∙ (ap (λ l. l ++ q.0) p.1 ∙ append_assoc a p.0 q.0))

  pub begins_length : (a b : List A) → Begins a b → length a ≤ length b
  begins_length a b p = let e = ap length p.1 in let d = length-append a p.0 in omega arith

  -- of two lists that begin one list, one that is no longer begins the other
  pub begins_other : (a b rest after : List A) → a ++ rest ≡ b ++ after → length a ≤ length b → Begins a b
  begins_other [] b rest after e l = (b, refl)
  begins_other (x ∷ xs) [] rest after e l = absurd (omega arith)
  begins_other (x ∷ xs) (y ∷ ys) rest after e l = let t = begins_other xs ys rest after (cc) (omega arith) in let same : x ≡ y = cc in (t.0, (λ i. sym same i ∷ t.1 i))

  pub begins_both : (a b whole : List A) → Begins a whole → Begins b whole → length a ≤ length b → Begins a b
  begins_both a b whole p q l = begins_other a b p.0 q.0 (sym p.1 ∙ q.1) l

  -- what begins a list and is as long is that list
  pub begins_whole : (a b : List A) → Begins a b → length b ≤ length a → a ≡ b
  begins_whole a b p l = let e = ap length p.1 in let d = length-append a p.0 in let none : length p.0 ≡ 0 = omega arith in
      sym (p.1 ∙ (ap (λ r. a ++ r) (empty p.0 none) ∙ append-nil a))
    where
      empty : (r : List A) → length r ≡ 0 → r ≡ []
      empty [] e = refl
      empty (x ∷ xs) e = absurd (omega arith)

pub times_append : (n : ℕ) (xs ys : List ℕ) → times n (xs ++ ys) ≡ times n xs + times n ys
times_append n [] ys = omega arith
times_append n (x ∷ xs) ys = let p = times_append n xs ys in omega arith
