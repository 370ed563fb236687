-- Places that are kept for jumps, and filled once their goals are known: what was written one step after
-- another is the code of the form.
use Rattle.std.proofs.Common.{◌≡◌, ℕ, ◌+◌, false, true, List, [], ◌∷◌, ◌++◌, length, set, refl, ap, sym, ◌∙◌, arith, append_assoc, length-append}
use Rattle.std.proofs.Math.Seq.{set-append_seam}
use Rattle.std.proofs.lemmas.List.{length-set}
use Rattle.ext_mean.specs.declared.tree.Param.{Param}
use Rattle.gen_code.specs.declared.op.Op.{Op}
use Rattle.gen_code.specs.declared.op.Op.TheVariants as op
use Rattle.gen_code.specs.Codes.{Coder, ◌▸◌, and_code, found_code, get_code, if_code, multi_code, or_code, while_code}

-- a piece, and the next behind it
pub next-piece : (first next : Coder) (scope : List Param) (o0 o1 o2 : List Op)
    → o1 ≡ o0 ++ first scope (length o0) → o2 ≡ o1 ++ next scope (length o1)
    → o2 ≡ o0 ++ (first ▸ next) scope (length o0)
next-piece first next scope o0 o1 o2 one two =
    let n : length o1 ≡ length o0 + length (first scope (length o0)) = ap length one ∙ length-append o0 (first scope (length o0)) in
    let e : o2 ≡ (o0 ++ first scope (length o0)) ++ next scope (length o0 + length (first scope (length o0))) =
    two ∙ ap (λ (l : List Op). l ++ next scope (length o1)) one ∙ ap (λ (m : ℕ). (o0 ++ first scope (length o0)) ++ next scope m) n in
    e ∙ append_assoc o0 (first scope (length o0)) (next scope (length o0 + length (first scope (length o0))))

-- pieces one behind the other, however they are bracketed
pub then-assoc : (first next last : Coder) (scope : List Param) (base : ℕ) → ((first ▸ next) ▸ last) scope base ≡ (first ▸ (next ▸ last)) scope base
then-assoc first next last scope base =
    let one = first scope base in
    let two = next scope (base + length one) in
    let n : length (one ++ two) ≡ length one + length two = length-append one two in
    let e : base + length (one ++ two) ≡ base + length one + length two = omega (arith, n) in
    ap (λ (m : ℕ). (one ++ two) ++ last scope m) e ∙ append_assoc one two (last scope (base + length one + length two))

-- one instruction more
longer : (o0 o1 : List Op) (one : Op) → o1 ≡ o0 ++ one ∷ [] → length o1 ≡ length o0 + 1
longer o0 o1 one e = ap length e ∙ length-append o0 (one ∷ [])

-- instructions more
lengthened : (o0 o1 more : List Op) → o1 ≡ o0 ++ more → length o1 ≡ length o0 + length more
lengthened o0 o1 more e = ap length e ∙ length-append o0 more

-- the kept place is filled
filled : (before kept all : List Op) (place : ℕ) (empty one : Op) (more : List Op)
    → place ≡ length before → kept ≡ before ++ empty ∷ [] → all ≡ kept ++ more
    → set all place one ≡ before ++ one ∷ more
filled before kept all place empty one more at keeps goes =
    let whole : all ≡ before ++ (empty ∷ more) = goes ∙ ap (λ (l : List Op). l ++ more) keeps ∙ append_assoc before (empty ∷ []) more in
    ap (λ (l : List Op). set l place one) whole ∙ ap (λ (m : ℕ). set (before ++ (empty ∷ more)) m one) at ∙ set-append_seam before empty more one

pub and-written : (left right : Coder) (scope : List Param) (o0 o1 o2 o3 o4 o5 o6 o7 : List Op) (kept behind at_false : ℕ)
    → o1 ≡ o0 ++ left scope (length o0)
    → kept ≡ length o1 → o2 ≡ o1 ++ op.JumpFalse 0 ∷ []
    → o3 ≡ o2 ++ right scope (length o2)
    → o4 ≡ o3 ++ op.Not ∷ op.Not ∷ []
    → behind ≡ length o4 + 2 → o5 ≡ o4 ++ op.Jump behind ∷ []
    → at_false ≡ length o5 + 0 → o6 ≡ set o5 kept (op.JumpFalse at_false)
    → o7 ≡ o6 ++ op.Truth false ∷ []
    → o7 ≡ o0 ++ and_code left right scope (length o0)
and-written left right scope o0 o1 o2 o3 o4 o5 o6 o7 kept behind at_false e1 k e2 e3 e4 b e5 f e6 e7 =
    let one = left scope (length o0) in
    let n2 : length o2 ≡ length o0 + length one + 1 = omega (arith, lengthened o0 o1 one e1, longer o1 o2 (op.JumpFalse 0) e2) in
    let two = right scope (length o0 + length one + 1) in
    let g3 : o3 ≡ o2 ++ two = e3 ∙ ap (λ (m : ℕ). o2 ++ right scope m) n2 in
    let n4 : length o4 ≡ length o0 + length one + 1 + length two + 2 = omega (arith, n2, lengthened o2 o3 two g3, lengthened o3 o4 (op.Not ∷ op.Not ∷ []) e4) in
    let n5 : length o5 ≡ length o0 + length one + 1 + length two + 3 = omega (arith, n4, longer o4 o5 (op.Jump behind) e5) in
    let w : o5 ≡ o2 ++ (two ++ (op.Not ∷ op.Not ∷ op.Jump behind ∷ [])) = rw (e5, e4, g3) (simp append_assoc refl) in
    let g6 : o6 ≡ o1 ++ (op.JumpFalse at_false ∷ (two ++ (op.Not ∷ op.Not ∷ op.Jump behind ∷ []))) =
    e6 ∙ filled o1 o2 o5 kept (op.JumpFalse 0) (op.JumpFalse at_false) (two ++ (op.Not ∷ op.Not ∷ op.Jump behind ∷ [])) k e2 w in
    let g7 : o7 ≡ o0 ++ (one ++ (op.JumpFalse at_false ∷ (two ++ (op.Not ∷ op.Not ∷ op.Jump behind ∷ op.Truth false ∷ [])))) =
    rw (e7, g6, e1) (simp append_assoc refl) in
    let a : at_false ≡ length o0 + length one + 1 + length two + 3 = omega (arith, f, n5) in
    let c : behind ≡ length o0 + length one + 1 + length two + 3 + 1 = omega (arith, b, n4) in
    g7 ∙ ap (λ (m : ℕ). o0 ++ (one ++ (op.JumpFalse m ∷ (two ++ (op.Not ∷ op.Not ∷ op.Jump behind ∷ op.Truth false ∷ []))))) a
    ∙ ap (λ (m : ℕ). o0 ++ (one ++ (op.JumpFalse (length o0 + length one + 1 + length two + 3) ∷ (two ++ (op.Not ∷ op.Not ∷ op.Jump m ∷ op.Truth false ∷ []))))) c

pub or-written : (left right : Coder) (scope : List Param) (o0 o1 o2 o3 o4 o5 o6 o7 : List Op) (at_right kept behind : ℕ)
    → o1 ≡ o0 ++ left scope (length o0)
    → at_right ≡ length o1 + 3 → o2 ≡ o1 ++ op.JumpFalse at_right ∷ []
    → o3 ≡ o2 ++ op.Truth true ∷ []
    → kept ≡ length o3 → o4 ≡ o3 ++ op.Jump 0 ∷ []
    → o5 ≡ o4 ++ right scope (length o4)
    → o6 ≡ o5 ++ op.Not ∷ op.Not ∷ []
    → behind ≡ length o6 + 0 → o7 ≡ set o6 kept (op.Jump behind)
    → o7 ≡ o0 ++ or_code left right scope (length o0)
or-written left right scope o0 o1 o2 o3 o4 o5 o6 o7 at_right kept behind e1 r e2 e3 k e4 e5 e6 b e7 =
    let one = left scope (length o0) in
    let n1 : length o1 ≡ length o0 + length one = lengthened o0 o1 one e1 in
    let n4 : length o4 ≡ length o0 + length one + 3 = omega (arith, n1, longer o1 o2 (op.JumpFalse at_right) e2, longer o2 o3 (op.Truth true) e3, longer o3 o4 (op.Jump 0) e4) in
    let two = right scope (length o0 + length one + 3) in
    let g5 : o5 ≡ o4 ++ two = e5 ∙ ap (λ (m : ℕ). o4 ++ right scope m) n4 in
    let n6 : length o6 ≡ length o0 + length one + 3 + length two + 2 = omega (arith, n4, lengthened o4 o5 two g5, lengthened o5 o6 (op.Not ∷ op.Not ∷ []) e6) in
    let w : o6 ≡ o4 ++ (two ++ (op.Not ∷ op.Not ∷ [])) = rw (e6, g5) (simp append_assoc refl) in
    let g7 : o7 ≡ o3 ++ (op.Jump behind ∷ (two ++ (op.Not ∷ op.Not ∷ []))) =
    e7 ∙ filled o3 o4 o6 kept (op.Jump 0) (op.Jump behind) (two ++ (op.Not ∷ op.Not ∷ [])) k e4 w in
    let whole : o7 ≡ o0 ++ (one ++ (op.JumpFalse at_right ∷ op.Truth true ∷ op.Jump behind ∷ (two ++ (op.Not ∷ op.Not ∷ [])))) =
    rw (g7, e3, e2, e1) (simp append_assoc refl) in
    let a : at_right ≡ length o0 + length one + 3 = omega (arith, r, n1) in
    let c : behind ≡ length o0 + length one + 3 + length two + 2 = omega (arith, b, n6) in
    whole ∙ ap (λ (m : ℕ). o0 ++ (one ++ (op.JumpFalse m ∷ op.Truth true ∷ op.Jump behind ∷ (two ++ (op.Not ∷ op.Not ∷ []))))) a
    ∙ ap (λ (m : ℕ). o0 ++ (one ++ (op.JumpFalse (length o0 + length one + 3) ∷ op.Truth true ∷ op.Jump m ∷ (two ++ (op.Not ∷ op.Not ∷ []))))) c

-- two ways that part at an instruction: past the first one, and past the second one behind the first
abbrev branch_code : (ℕ → Op) → Coder → Coder → Coder
branch_code parts first second scope base =
    let one = first scope (base + 1) in
    let at = base + 1 + length one + 1 in
    let two = second scope at in
    parts at ∷ one ++ (op.Jump (at + length two) ∷ two)

branch-written : (parts : ℕ → Op) (first second : Coder) (scope : List Param) (o0 o1 o2 o3 o4 o5 o6 : List Op) (place kept at behind : ℕ)
    → place ≡ length o0 → o1 ≡ o0 ++ parts 0 ∷ []
    → o2 ≡ o1 ++ first scope (length o1)
    → kept ≡ length o2 → o3 ≡ o2 ++ op.Jump 0 ∷ []
    → at ≡ length o3 + 0 → o4 ≡ set o3 place (parts at)
    → o5 ≡ o4 ++ second scope (length o4)
    → behind ≡ length o5 + 0 → o6 ≡ set o5 kept (op.Jump behind)
    → o6 ≡ o0 ++ branch_code parts first second scope (length o0)
branch-written parts first second scope o0 o1 o2 o3 o4 o5 o6 place kept at behind p e1 e2 k e3 f e4 e5 b e6 =
    let n1 : length o1 ≡ length o0 + 1 = longer o0 o1 (parts 0) e1 in
    let one = first scope (length o0 + 1) in
    let g2 : o2 ≡ o1 ++ one = e2 ∙ ap (λ (m : ℕ). o1 ++ first scope m) n1 in
    let n2 : length o2 ≡ length o0 + 1 + length one = omega (arith, n1, lengthened o1 o2 one g2) in
    let n3 : length o3 ≡ length o0 + 1 + length one + 1 = omega (arith, n2, longer o2 o3 (op.Jump 0) e3) in
    let w : o3 ≡ o1 ++ (one ++ (op.Jump 0 ∷ [])) = rw (e3, g2) (simp append_assoc refl) in
    let g4 : o4 ≡ o0 ++ (parts at ∷ (one ++ (op.Jump 0 ∷ []))) = e4 ∙ filled o0 o1 o3 place (parts 0) (parts at) (one ++ (op.Jump 0 ∷ [])) p e1 w in
    let n4 : length o4 ≡ length o0 + 1 + length one + 1 = ap length e4 ∙ length-set o3 place (parts at) ∙ n3 in
    let two = second scope (length o0 + 1 + length one + 1) in
    let g5 : o5 ≡ o4 ++ two = e5 ∙ ap (λ (m : ℕ). o4 ++ second scope m) n4 in
    let n5 : length o5 ≡ length o0 + 1 + length one + 1 + length two = omega (arith, n4, lengthened o4 o5 two g5) in
    let front = o0 ++ (parts at ∷ one) in
    let nf : length front ≡ length o0 + length (parts at ∷ one) = length-append o0 (parts at ∷ one) in
    let n1' : length (parts at ∷ one) ≡ length one + 1 = omega arith in
    let q : kept ≡ length front = omega (arith, k, n2, nf, n1') in
    let h4 : o4 ≡ front ++ op.Jump 0 ∷ [] = g4 ∙ sym (append_assoc o0 (parts at ∷ one) (op.Jump 0 ∷ [])) in
    let g6 : o6 ≡ front ++ (op.Jump behind ∷ two) = e6 ∙ filled front o4 o5 kept (op.Jump 0) (op.Jump behind) two q h4 g5 in
    let whole : o6 ≡ o0 ++ (parts at ∷ (one ++ (op.Jump behind ∷ two))) = g6 ∙ append_assoc o0 (parts at ∷ one) (op.Jump behind ∷ two) in
    let a : at ≡ length o0 + 1 + length one + 1 = omega (arith, f, n3) in
    let c : behind ≡ length o0 + 1 + length one + 1 + length two = omega (arith, b, n5) in
    whole ∙ ap (λ (m : ℕ). o0 ++ (parts m ∷ (one ++ (op.Jump behind ∷ two)))) a
    ∙ ap (λ (m : ℕ). o0 ++ (parts (length o0 + 1 + length one + 1) ∷ (one ++ (op.Jump m ∷ two)))) c

pub if-written : (test first second : Coder) (scope : List Param) (o0 o1 o2 o3 o4 o5 o6 o7 : List Op) (place kept at behind : ℕ)
    → o1 ≡ o0 ++ test scope (length o0)
    → place ≡ length o1 → o2 ≡ o1 ++ op.JumpFalse 0 ∷ []
    → o3 ≡ o2 ++ first scope (length o2)
    → kept ≡ length o3 → o4 ≡ o3 ++ op.Jump 0 ∷ []
    → at ≡ length o4 + 0 → o5 ≡ set o4 place (op.JumpFalse at)
    → o6 ≡ o5 ++ second scope (length o5)
    → behind ≡ length o6 + 0 → o7 ≡ set o6 kept (op.Jump behind)
    → o7 ≡ o0 ++ if_code test first second scope (length o0)
if-written test first second scope o0 o1 o2 o3 o4 o5 o6 o7 place kept at behind e1 p e2 e3 k e4 f e5 e6 b e7 =
    next-piece test (branch_code (λ m. op.JumpFalse m) first second) scope o0 o1 o7 e1
    (branch-written (λ m. op.JumpFalse m) first second scope o1 o2 o3 o4 o5 o6 o7 place kept at behind p e2 e3 k e4 f e5 e6 b e7)

pub get-written : (name : List ℕ) (found none_block : Coder) (scope : List Param) (o0 o1 o2 o3 o4 o5 o6 : List Op) (place kept at behind : ℕ)
    → place ≡ length o0 → o1 ≡ o0 ++ op.Get 0 ∷ []
    → o2 ≡ o1 ++ found_code name found scope (length o1)
    → kept ≡ length o2 → o3 ≡ o2 ++ op.Jump 0 ∷ []
    → at ≡ length o3 + 0 → o4 ≡ set o3 place (op.Get at)
    → o5 ≡ o4 ++ none_block scope (length o4)
    → behind ≡ length o5 + 0 → o6 ≡ set o5 kept (op.Jump behind)
    → o6 ≡ o0 ++ get_code name found none_block scope (length o0)
get-written name found none_block scope o0 o1 o2 o3 o4 o5 o6 place kept at behind =
    branch-written (λ m. op.Get m) (found_code name found) none_block scope o0 o1 o2 o3 o4 o5 o6 place kept at behind

pub while-written : (test body : Coder) (scope : List Param) (o0 o1 o2 o3 o4 o5 o6 : List Op) (turn place behind : ℕ)
    → turn ≡ length o0 + 0 → o1 ≡ o0 ++ op.Charge 1 ∷ []
    → o2 ≡ o1 ++ test scope (length o1)
    → place ≡ length o2 → o3 ≡ o2 ++ op.JumpFalse 0 ∷ []
    → o4 ≡ o3 ++ body scope (length o3)
    → o5 ≡ o4 ++ op.Jump turn ∷ []
    → behind ≡ length o5 + 0 → o6 ≡ set o5 place (op.JumpFalse behind)
    → o6 ≡ o0 ++ while_code test body scope (length o0)
while-written test body scope o0 o1 o2 o3 o4 o5 o6 turn place behind t e1 e2 p e3 e4 e5 b e6 =
    let n1 : length o1 ≡ length o0 + 1 = longer o0 o1 (op.Charge 1) e1 in
    let one = test scope (length o0 + 1) in
    let g2 : o2 ≡ o1 ++ one = e2 ∙ ap (λ (m : ℕ). o1 ++ test scope m) n1 in
    let n3 : length o3 ≡ length o0 + 1 + length one + 1 = omega (arith, n1, lengthened o1 o2 one g2, longer o2 o3 (op.JumpFalse 0) e3) in
    let two = body scope (length o0 + 1 + length one + 1) in
    let g4 : o4 ≡ o3 ++ two = e4 ∙ ap (λ (m : ℕ). o3 ++ body scope m) n3 in
    let n5 : length o5 ≡ length o0 + 1 + length one + 1 + length two + 1 = omega (arith, n3, lengthened o3 o4 two g4, longer o4 o5 (op.Jump turn) e5) in
    let w : o5 ≡ o3 ++ (two ++ (op.Jump turn ∷ [])) = rw (e5, g4) (simp append_assoc refl) in
    let g6 : o6 ≡ o2 ++ (op.JumpFalse behind ∷ (two ++ (op.Jump turn ∷ []))) =
    e6 ∙ filled o2 o3 o5 place (op.JumpFalse 0) (op.JumpFalse behind) (two ++ (op.Jump turn ∷ [])) p e3 w in
    let whole : o6 ≡ o0 ++ (op.Charge 1 ∷ (one ++ (op.JumpFalse behind ∷ (two ++ (op.Jump turn ∷ []))))) = rw (g6, g2, e1) (simp append_assoc refl) in
    let a : behind ≡ length o0 + 1 + length one + 1 + length two + 1 = omega (arith, b, n5) in
    let c : turn ≡ length o0 = omega (arith, t) in
    whole ∙ ap (λ (m : ℕ). o0 ++ (op.Charge 1 ∷ (one ++ (op.JumpFalse m ∷ (two ++ (op.Jump turn ∷ [])))))) a
    ∙ ap (λ (m : ℕ). o0 ++ (op.Charge 1 ∷ (one ++ (op.JumpFalse (length o0 + 1 + length one + 1 + length two + 1) ∷ (two ++ (op.Jump m ∷ [])))))) c

-- a turn for each key
abbrev turns_code : Coder → Coder → Coder
turns_code first second scope base =
    let one = first scope (base + 2) in
    let at = base + 2 + length one + 1 in
    let two = second scope (at + 2) in
    op.Multi (at + 2 + length two + 1) ∷ op.JumpFalse at ∷ one
    ++ (op.Jump base ∷ op.Store (length scope) ∷ op.Drop (length scope) ∷ two
    ++ op.Jump base ∷ [])

turns-written : (first second : Coder) (scope : List Param) (o0 o1 o2 o3 o4 o5 o6 o7 o8 o9 o10 : List Op) (turn place kept at slot behind : ℕ)
    → turn ≡ length o0 + 0
    → place ≡ length o0 → o1 ≡ o0 ++ op.Multi 0 ∷ []
    → kept ≡ length o1 → o2 ≡ o1 ++ op.JumpFalse 0 ∷ []
    → o3 ≡ o2 ++ first scope (length o2)
    → o4 ≡ o3 ++ op.Jump turn ∷ []
    → at ≡ length o4 + 0 → o5 ≡ set o4 kept (op.JumpFalse at)
    → slot ≡ length scope → o6 ≡ o5 ++ op.Store slot ∷ [] → o7 ≡ o6 ++ op.Drop slot ∷ []
    → o8 ≡ o7 ++ second scope (length o7)
    → o9 ≡ o8 ++ op.Jump turn ∷ []
    → behind ≡ length o9 + 0 → o10 ≡ set o9 place (op.Multi behind)
    → o10 ≡ o0 ++ turns_code first second scope (length o0)
turns-written first second scope o0 o1 o2 o3 o4 o5 o6 o7 o8 o9 o10 turn place kept at slot behind t p e1 k e2 e3 e4 f e5 s e6 e7 e8 e9 b e10 =
    let n1 : length o1 ≡ length o0 + 1 = longer o0 o1 (op.Multi 0) e1 in
    let n2 : length o2 ≡ length o0 + 2 = omega (arith, n1, longer o1 o2 (op.JumpFalse 0) e2) in
    let one = first scope (length o0 + 2) in
    let g3 : o3 ≡ o2 ++ one = e3 ∙ ap (λ (m : ℕ). o2 ++ first scope m) n2 in
    let n4 : length o4 ≡ length o0 + 2 + length one + 1 = omega (arith, n2, lengthened o2 o3 one g3, longer o3 o4 (op.Jump turn) e4) in
    let w4 : o4 ≡ o2 ++ (one ++ (op.Jump turn ∷ [])) = rw (e4, g3) (simp append_assoc refl) in
    let g5 : o5 ≡ o1 ++ (op.JumpFalse at ∷ (one ++ (op.Jump turn ∷ []))) =
    e5 ∙ filled o1 o2 o4 kept (op.JumpFalse 0) (op.JumpFalse at) (one ++ (op.Jump turn ∷ [])) k e2 w4 in
    let n5 : length o5 ≡ length o0 + 2 + length one + 1 = ap length e5 ∙ length-set o4 kept (op.JumpFalse at) ∙ n4 in
    let n7 : length o7 ≡ length o0 + 2 + length one + 1 + 2 = omega (arith, n5, longer o5 o6 (op.Store slot) e6, longer o6 o7 (op.Drop slot) e7) in
    let two = second scope (length o0 + 2 + length one + 1 + 2) in
    let g8 : o8 ≡ o7 ++ two = e8 ∙ ap (λ (m : ℕ). o7 ++ second scope m) n7 in
    let n9 : length o9 ≡ length o0 + 2 + length one + 1 + 2 + length two + 1 = omega (arith, n7, lengthened o7 o8 two g8, longer o8 o9 (op.Jump turn) e9) in
    let rest : ℕ → ℕ → List Op = λ goal number. op.JumpFalse goal ∷ (one ++ (op.Jump turn ∷ op.Store number ∷ op.Drop number ∷ (two ++ (op.Jump turn ∷ [])))) in
    let w9 : o9 ≡ o1 ++ rest at slot = rw (e9, g8, e7, e6, g5) (simp append_assoc refl) in
    let g10 : o10 ≡ o0 ++ (op.Multi behind ∷ rest at slot) = e10 ∙ filled o0 o1 o9 place (op.Multi 0) (op.Multi behind) (rest at slot) p e1 w9 in
    let a : behind ≡ length o0 + 2 + length one + 1 + 2 + length two + 1 = omega (arith, b, n9) in
    let c : at ≡ length o0 + 2 + length one + 1 = omega (arith, f, n4) in
    let d : turn ≡ length o0 = omega (arith, t) in
    let goal = length o0 + 2 + length one + 1 in
    let last = length o0 + 2 + length one + 1 + 2 + length two + 1 in
    g10 ∙ ap (λ (m : ℕ). o0 ++ (op.Multi m ∷ rest at slot)) a ∙ ap (λ (m : ℕ). o0 ++ (op.Multi last ∷ rest m slot)) c
    ∙ ap (λ (m : ℕ). o0 ++ (op.Multi last ∷ rest goal m)) s
    ∙ ap (λ (m : ℕ). o0 ++ (op.Multi last ∷ op.JumpFalse goal ∷ (one ++ (op.Jump m ∷ op.Store (length scope) ∷ op.Drop (length scope) ∷ (two ++ (op.Jump m ∷ [])))))) d

pub multi-written : (name : List ℕ) (found none_block : Coder) (scope : List Param) (o0 o1 o2 o3 o4 o5 o6 o7 o8 o9 o10 : List Op) (turn place kept at slot behind : ℕ)
    → turn ≡ length o0 + 0
    → place ≡ length o0 → o1 ≡ o0 ++ op.Multi 0 ∷ []
    → kept ≡ length o1 → o2 ≡ o1 ++ op.JumpFalse 0 ∷ []
    → o3 ≡ o2 ++ found_code name found scope (length o2)
    → o4 ≡ o3 ++ op.Jump turn ∷ []
    → at ≡ length o4 + 0 → o5 ≡ set o4 kept (op.JumpFalse at)
    → slot ≡ length scope → o6 ≡ o5 ++ op.Store slot ∷ [] → o7 ≡ o6 ++ op.Drop slot ∷ []
    → o8 ≡ o7 ++ none_block scope (length o7)
    → o9 ≡ o8 ++ op.Jump turn ∷ []
    → behind ≡ length o9 + 0 → o10 ≡ set o9 place (op.Multi behind)
    → o10 ≡ o0 ++ multi_code name found none_block scope (length o0)
multi-written name found none_block scope o0 o1 o2 o3 o4 o5 o6 o7 o8 o9 o10 turn place kept at slot behind =
    turns-written (found_code name found) none_block scope o0 o1 o2 o3 o4 o5 o6 o7 o8 o9 o10 turn place kept at slot behind
