-- Going on behind some items, and then behind more.
use Rattle.std.proofs.Common.{◌≡◌, ℕ, ◌+◌, List, [], ◌∷◌, ◌++◌, length, Option, Some, None, refl, ap, ◌∙◌, arith, length-append}
use Rattle.ext_mean.specs.Items.{noted, first_fault}
use Rattle.ext_mean.specs.declared.progress.Progress.{Progress}
use Rattle.ext_mean.specs.Progress.{after, behind, first_found, joined}

pub first_fault-append : {C : Type 0} (found : Option (ℕ × C)) (item : ℕ) (first second : List (Option C)) → first_fault found item (first ++ second) ≡ first_fault (first_fault found item first) (item + length first) second
first_fault-append found item [] second =
    let e : item ≡ item + 0 = omega arith in ap (λ n. first_fault found n second) e
first_fault-append {C} found item (code ∷ first) second =
    let e : (item + 1) + length first ≡ item + length (code ∷ first) = omega arith in
    first_fault-append (noted found item code) (item + 1) first second
    ∙ ap (λ n. first_fault (first_fault (noted found item code) (item + 1) first) n second) e

pub after-append : {C : Type 0} (progress : Progress C) (first second : List (Option C)) → after progress (first ++ second) ≡ after (after progress first) second
after-append progress first second =
    let e : progress.item + length (first ++ second) ≡ (progress.item + length first) + length second = omega (arith, length-append first second) in
    let f = first_fault-append progress.found progress.item first second in
    cc

-- the same for the first of some items
pub after-step : {C : Type 0} (progress : Progress C) (code : Option C) (codes : List (Option C)) → after progress (code ∷ codes) ≡ after (after progress (code ∷ [])) codes
after-step progress code codes = after-append progress (code ∷ []) codes

-- the items behind one, gone through apart
found-first : {C : Type 0} (found : Option (ℕ × C)) (item : ℕ) (codes : List (Option C)) → first_fault found item codes ≡ first_found found (first_fault None item codes)
found-first None item codes = refl
found-first (Some fault) item [] = refl
found-first (Some fault) item (code ∷ codes) = found-first (Some fault) (item + 1) codes ∙ refl

pub joined-after : {C : Type 0} (progress noted inner : Progress C) (own : Option C) (codes : List (Option C)) → noted ≡ after progress (own ∷ []) → inner ≡ after (behind progress) codes → joined noted inner ≡ after progress (own ∷ codes)
joined-after progress noted inner own codes noted-is inner-is =
    let e : (progress.item + 1) + length codes ≡ progress.item + length (own ∷ codes) = omega arith in
    let f = found-first (after progress (own ∷ [])).found (progress.item + 1) codes in
    rw (noted-is, inner-is) cc

pub ruleset progress_lemmas = (after-append, after-step)
