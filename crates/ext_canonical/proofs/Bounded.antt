-- What is left of slots within the bounds is within them.
use Rattle.std.proofs.Common.{◌≡◌, ℕ, ◌≤◌, List, [], ◌∷◌, ◌++◌, inl, inr, refl, sym, ap, ◌∙◌, subst, arith}
use Rattle.ext_mean.specs.Bounds.{AreBounded, IsTooMany, open_with, open_behind, functions_with, functions_behind, locals_with, locals_behind}
use Rattle.ext_mean.specs.Wording.{Slot, slot_tokens}
use Rattle.ext_canonical.proofs.Pruned.{Pruned}

-- Where a slot that is left stands among all: behind no fewer brackets, and as many functions and locals.
record Among (few many known named : ℕ) (before : List Slot) (there : Slot) (whole : List Slot) : Type 0 where
  pub front : List Slot
  pub rest : List Slot
  pub is : whole ≡ front ++ there ∷ rest
  pub brackets : open_behind few (slot_tokens before) ≤ open_behind many (slot_tokens front)
  pub functions : functions_behind known before ≡ functions_behind known front
  pub locals : locals_behind named before ≡ locals_behind named front

no-slot : (before : List Slot) (there : Slot) (rest : List Slot) → [] ≡ before ++ there ∷ rest → ⊥
no-slot [] there rest same = cc
no-slot (next ∷ before) there rest same = cc

among : (few many : ℕ) (left whole : List Slot) → Pruned few many left whole → (known named : ℕ) (before : List Slot) (there : Slot) (rest : List Slot)
    → left ≡ before ++ there ∷ rest → Among few many known named before there whole
among few many left [] none known named before there rest same = absurd (no-slot before there rest (sym none ∙ same))
among few many left (next ∷ whole) (inl (more, is, less, pruned)) known named [] there rest same =
    let both : next ∷ more ≡ there ∷ rest = sym is ∙ same in
    let one : next ≡ there = cc in
    record { front = []; rest = whole; is = ap (λ s. s ∷ whole) one; brackets = less; functions = refl; locals = refl }
among few many left (next ∷ whole) (inl (more, is, less, pruned)) known named (first ∷ before) there rest same =
    let both : next ∷ more ≡ first ∷ (before ++ there ∷ rest) = sym is ∙ same in
    let one : next ≡ first = cc in
    let others : more ≡ before ++ there ∷ rest = cc in
    let it = among (open_with few next.token) (open_with many next.token) more whole pruned
    (functions_with known next.token) (locals_with named next.token next.standing) before there rest others in
    let A : Slot → Type 0 = λ s. Among few many known named (s ∷ before) there (next ∷ whole) in
    subst A one (record {
      front = next ∷ it.front;
      rest = it.rest;
      is = ap (λ them. next ∷ them) it.is;
      brackets = it.brackets;
      functions = it.functions;
      locals = it.locals;
    })
among few many left (next ∷ whole) (inr (drop, pruned)) known named before there rest same =
    let it = among few (open_with many next.token) left whole pruned known named before there rest same in
    record {
      front = next ∷ it.front;
      rest = it.rest;
      is = ap (λ them. next ∷ them) it.is;
      brackets = it.brackets;
      functions = it.functions ∙ ap (λ n. functions_behind n it.front) (sym (drop.functions known));
      locals = it.locals ∙ ap (λ n. locals_behind n it.front) (sym (drop.locals named));
    }

many-among : (before front : List Slot) (there : Slot) → functions_behind 0 before ≡ functions_behind 0 front → locals_behind 0 before ≡ locals_behind 0 front
    → IsTooMany before there there.token → IsTooMany front there there.token
many-among before front there functions locals (inl (is, at, full)) = inl (is, at, omega (arith, functions, full))
many-among before front there functions locals (inr (inl (is, at, full))) = inr (inl (is, at, omega (arith, locals, full)))
many-among before front there functions locals (inr (inr (is, full))) = inr (inr (is, full))

pub left-bounded : (left whole : List Slot) → Pruned 0 0 left whole → AreBounded whole → AreBounded left
left-bounded left whole pruned bounds before there rest same =
    let it = among 0 0 left whole pruned 0 0 before there rest same in
    let brackets = it.brackets in
    let bound = bounds it.front there it.rest it.is in
    record {
      short = bound.short;
      shallow = λ (opens, deep). bound.shallow (opens, omega (arith, brackets, deep));
      few = λ full. bound.few (many-among before it.front there it.functions it.locals full);
    }
