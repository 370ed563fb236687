-- A frame is its length and its body.
use Rattle.std.proofs.Common.{◌≡◌, ℕ, ◌+◌, ◌-◌, ◌≤◌, List, [], ◌++◌, length, drop, refl, ap, ◌∙◌, arith}
use Rattle.std.proofs.lemmas.List.{length-append, drop_at}
use Rattle.sp_base.specs.Spelling.{u32, frame}

pub length_u32 : (n : ℕ) → length (u32 n) ≡ 4
unfolding u32
length_u32 n = refl

pub length_zeros : (out body : List ℕ) → out ≡ u32 0 ++ body → length out ≡ 4 + length body
length_zeros out body is = omega (arith, ap (λ (t : List ℕ). length t) is, length-append (u32 0) body, length_u32 0)

pub framed : (out body : List ℕ) → out ≡ u32 0 ++ body → u32 (length out - 4) ++ drop 4 out ≡ frame body
framed out body is =
    let n : length out - 4 ≡ length body = omega (arith, length_zeros out body is) in
    let behind : drop 4 out ≡ body = ap (drop 4) is ∙ drop_at (u32 0) body 4 (length_u32 0) in
    ap (λ (k : ℕ). u32 k ++ drop 4 out) n ∙ ap (λ (t : List ℕ). u32 (length body) ++ t) behind

pub body_of : (bytes body : List ℕ) → bytes ≡ frame body → drop 4 bytes ≡ body
body_of bytes body is = ap (drop 4) is ∙ drop_at (u32 (length body)) body 4 (length_u32 (length body))

pub frame_long : (bytes body : List ℕ) → bytes ≡ frame body → 4 ≤ length bytes
frame_long bytes body is = omega (arith, ap (λ (t : List ℕ). length t) is, length-append (u32 (length body)) body, length_u32 (length body))

pub starts : (none zeros out body : List ℕ) → none ≡ [] → zeros ≡ none ++ u32 0 → out ≡ zeros ++ body → out ≡ u32 0 ++ body
starts none zeros out body n z o = o ∙ ap (λ (t : List ℕ). t ++ body) (z ∙ ap (λ (t : List ℕ). t ++ u32 0) n)
