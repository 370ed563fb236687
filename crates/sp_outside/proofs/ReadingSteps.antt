-- Steps of reading an input, piece by piece.
use Rattle.std.proofs.Common.{◌≡◌, ℕ, ◌+◌, ◌≤◌, List, [], ◌++◌, length, take, drop, Option, Some, None, IfSome, refl, sym, ◌∙◌, ap, subst, append_assoc, append-nil, arith, length-append}
use Rattle.std.proofs.Math.Seq.{drop-append_seam}
use Rattle.std.proofs.lemmas.List.{take-append-drop}
use Rattle.sp_outside.specs.Taking.{GivesFirst}
use Rattle.sp_outside.specs.Reading.{TookUpTo, IsWholeInput, IsLongerInput}

-- the bytes are the front of the input, and the rest is left
pub record IsFront (bytes input : List ℕ) (now : Option (List ℕ)) : Type 0 where
  pub rest : List ℕ
  pub parts : input ≡ bytes ++ rest
  pub left : now ≡ Some rest

-- where the input is told, the bytes read so far are its front
abbrev pub HasRead : Option (List ℕ) → Option (List ℕ) → List ℕ → Type 0
HasRead before now bytes = IfSome before (λ input. IsFront bytes input now)

-- at first nothing was read
pub read_none : (a : Option (List ℕ)) (bytes : List ℕ) → bytes ≡ [] → HasRead a a bytes
read_none None bytes none = tt
read_none (Some input) bytes none = record { rest = input; parts = ap (λ xs. xs ++ input) (sym none); left = refl }

-- n more bytes came
pub read_more : (a b c : Option (List ℕ)) (bytes into : List ℕ) (n : ℕ)
    → HasRead a b bytes → IfSome b (λ left. GivesFirst n left into c) → HasRead a c (bytes ++ take n into)
read_more None b c bytes into n before more = tt
read_more (Some input) b c bytes into n before more =
    let P : Option (List ℕ) → Type 0 = λ o. IfSome o (λ left. GivesFirst n left into c) in
    let here : GivesFirst n before.rest into c = subst P before.left more in
    let joined : before.rest ≡ take n into ++ drop n before.rest =
    sym (take-append-drop n before.rest) ∙ ap (λ xs. xs ++ drop n before.rest) (sym here.front) in
    record {
      rest = drop n before.rest;
      parts = before.parts ∙ ap (λ xs. bytes ++ xs) joined ∙ sym (append_assoc bytes (take n into) (drop n before.rest));
      left = here.rest;
    }

-- behind the front
pub drop_front : (bytes rest : List ℕ) (n : ℕ) → n ≡ length bytes → drop n (bytes ++ rest) ≡ rest
drop_front bytes rest n e = rw e (drop-append_seam bytes rest)

-- the end was met
pub read_whole : (a b c : Option (List ℕ)) (bytes : List ℕ)
    → HasRead a b bytes → IfSome b (λ left. (left ≡ []) × (c ≡ Some [])) → IfSome a (λ input. IsWholeInput bytes input c)
read_whole None b c bytes before end = tt
read_whole (Some input) b c bytes before end =
    let P : Option (List ℕ) → Type 0 = λ o. IfSome o (λ left. (left ≡ []) × (c ≡ Some [])) in
    let here : (before.rest ≡ []) × (c ≡ Some []) = subst P before.left end in
    record {
      whole = sym (before.parts ∙ ap (λ xs. bytes ++ xs) here.0 ∙ append-nil bytes);
      nothing = here.1;
    }

-- no more than so many bytes were taken
pub read_up_to : (a b : Option (List ℕ)) (bytes : List ℕ) (most : ℕ) → length bytes ≤ most
    → HasRead a b bytes → IfSome a (λ input. TookUpTo most input b)
read_up_to None b bytes most few before = tt
read_up_to (Some input) b bytes most few before = record {
  taken = length bytes;
  few = few;
  rest = before.left ∙ ap Some (sym (ap (drop (length bytes)) before.parts ∙ drop_front bytes before.rest (length bytes) refl));
}

-- a call failed
pub read_failed : (a b c : Option (List ℕ)) (bytes : List ℕ) (most : ℕ) → length bytes ≤ most
    → HasRead a b bytes → IfSome b (λ left. c ≡ Some left) → IfSome a (λ input. TookUpTo most input c)
read_failed None b c bytes most few before same = tt
read_failed (Some input) b c bytes most few before same =
    let P : Option (List ℕ) → Type 0 = λ o. IfSome o (λ left. c ≡ Some left) in
    let here : c ≡ Some before.rest = subst P before.left same in
    read_up_to (Some input) c bytes most few (record { rest = before.rest; parts = before.parts; left = here })

-- one byte too many came
pub read_longer : (a c : Option (List ℕ)) (bytes : List ℕ) (most : ℕ) → length bytes ≡ most + 1
    → HasRead a c bytes → IfSome a (λ input. IsLongerInput most input c)
read_longer None c bytes most size before = tt
read_longer (Some input) c bytes most size before = record {
  more = let sizes : length input ≡ length bytes + length before.rest = ap length before.parts ∙ length-append bytes before.rest in omega arith;
  rest = before.left ∙ ap Some (sym (ap (drop (most + 1)) before.parts ∙ drop_front bytes before.rest (most + 1) (sym size)));
}
