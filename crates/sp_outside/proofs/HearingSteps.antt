-- Steps of hearing and of saying, piece by piece.
use Rattle.std.proofs.Common.{◌≡◌, ℕ, ◌+◌, ◌≤◌, List, ◌++◌, length, take, drop, Option, Some, None, refl, sym, ◌∙◌, ap, subst, append_assoc}
use Rattle.std.proofs.Math.Seq.{take-add, take-append_seam}
use Rattle.sp_outside.specs.Hearing.{with_more, HeardUpTo}

-- the next n bytes, at the front of a piece, are heard behind those before
pub heard_front : (bytes front after : List ℕ) (at n : ℕ) → front ≡ take n (drop at bytes) → n ≡ length front
    → Some (take (at + n) bytes) ≡ Some (take at bytes ++ take n (front ++ after))
heard_front bytes front after at n e size =
    let same : take n (front ++ after) ≡ front = subst (λ (k : ℕ). take k (front ++ after) ≡ front) (sym size) (take-append_seam front after) in
    ap Some (take-add at n bytes ∙ ap (λ xs. take at bytes ++ xs) (sym e ∙ sym same))

-- more and then more
pub with_both : (a : Option (List ℕ)) (xs ys : List ℕ) → with_more (with_more a xs) ys ≡ with_more a (xs ++ ys)
with_both None xs ys = refl
with_both (Some bytes) xs ys = ap Some (append_assoc bytes xs ys)

-- more bytes came, and no more than so many in all
pub heard_up_to : (a b c : Option (List ℕ)) (bytes more : List ℕ) (most : ℕ) → length (bytes ++ more) ≤ most
    → b ≡ with_more a bytes → c ≡ with_more b more → HeardUpTo most a c
heard_up_to a b c bytes more most few before here = record {
  more = bytes ++ more;
  few = few;
  behind = here ∙ ap (λ o. with_more o more) before ∙ with_both a bytes more;
}

-- n more bytes of a piece are said
pub said_more : (a b c : Option (List ℕ)) (piece rest : List ℕ) (done n : ℕ) → rest ≡ drop done piece
    → b ≡ with_more a (take done piece) → c ≡ with_more b (take n rest) → c ≡ with_more a (take (done + n) piece)
said_more a b c piece rest done n e before more =
    let joined : take done piece ++ take n rest ≡ take (done + n) piece =
    ap (λ xs. take done piece ++ take n xs) e ∙ sym (take-add done n piece) in
    more ∙ ap (λ o. with_more o (take n rest)) before ∙ with_both a (take done piece) (take n rest) ∙ ap (with_more a) joined
