-- Turns one after another, and how many of them are left.
use Rattle.std.proofs.Common.{◌≡◌, ℕ, zero, suc, ◌+◌, ◌<◌, refl, ap, sym, ◌∙◌, subst, arith}
use Rattle.ext_mean.specs.declared.run.Run.{Run}
use Rattle.ext_mean.specs.Work.{World}
use Rattle.gen_code.specs.declared.code.Code.{Code}
use Rattle.gen_code.specs.Machine.{Config, Progress, Going, Over, once, steps}
use Rattle.gen_vm.specs.Going.{IsOver, turns_left, Path, stays, turns}

module _ (code : Code) (world : World) where
  -- what is over stays so
  pub steps-over : (count : ℕ) (run : Run) → steps code world count (Over run) ≡ Over run
  steps-over zero run = refl
  steps-over (suc count) run = steps-over count run

  pub steps-add : (first more : ℕ) (progress : Progress) → steps code world (first + more) progress ≡ steps code world more (steps code world first progress)
  steps-add zero more progress =
      let e : zero + more ≡ more = omega arith in
      ap (λ (n : ℕ). steps code world n progress) e
  steps-add (suc first) more progress =
      let e : suc first + more ≡ suc (first + more) = omega arith in
      ap (λ (n : ℕ). steps code world n progress) e ∙ steps-add first more (once code world progress)

  pub steps-swap : (first more : ℕ) (progress : Progress) → steps code world more (steps code world first progress) ≡ steps code world first (steps code world more progress)
  steps-swap first more progress =
      let e : first + more ≡ more + first = omega arith in
      sym (steps-add first more progress) ∙ ap (λ (n : ℕ). steps code world n progress) e ∙ steps-add more first progress

  -- one turn more
  pub one-more : (count : ℕ) (progress : Progress) → steps code world (count + 1) progress ≡ once code world (steps code world count progress)
  one-more count progress = steps-add count 1 progress

  -- it is over once
  pub over-alike : (first more : ℕ) (progress : Progress) (run other : Run)
      → steps code world first progress ≡ Over run → steps code world more progress ≡ Over other → Over run ≡ Over other
  over-alike first more progress run other one two =
      sym (ap (steps code world more) one ∙ steps-over more run) ∙ steps-swap first more progress ∙ ap (steps code world first) two ∙ steps-over first other

  -- what is over after some turns from a place on the way is over after as many from there
  pub over-from : (count turn_count : ℕ) (progress : Progress) (here : Config) (run : Run)
      → steps code world turn_count progress ≡ Going here → steps code world count progress ≡ Over run
      → steps code world count (Going here) ≡ Over run
  over-from count turn_count progress here run way over =
      ap (steps code world count) (sym way) ∙ steps-swap turn_count count progress ∙ ap (steps code world turn_count) over ∙ steps-over turn_count run

  pub over-on : (count : ℕ) (progress : Progress) → IsOver (steps code world count progress) → IsOver (steps code world count (once code world progress))
  over-on zero (Going here) over = absurd over
  over-on zero (Over run) over = tt
  over-on (suc count) progress over = over-on count (once code world progress) over

  -- a bound that suffices tells how many turns are left
  left-enough : (count : ℕ) (progress : Progress) → IsOver (steps code world count progress) → turns_left code world (suc count) progress ≡ turns_left code world count progress
  left-enough zero (Going here) over = absurd over
  left-enough zero (Over run) over = refl
  left-enough (suc count) (Over run) over = refl
  left-enough (suc count) (Going here) over = ap (λ (n : ℕ). suc n) (left-enough count (once code world (Going here)) over)

  left-falls : (count : ℕ) (here : Config) → IsOver (steps code world count (Going here))
      → suc (turns_left code world count (once code world (Going here))) ≡ turns_left code world count (Going here)
  left-falls zero here over = absurd over
  left-falls (suc count) here over = ap (λ (n : ℕ). suc n) (left-enough count (once code world (Going here)) over)

  -- each turn leaves fewer
  pub fewer-left : (count : ℕ) (here there : Config) → IsOver (steps code world count (Going here)) → once code world (Going here) ≡ Going there
      → turns_left code world count (Going there) < turns_left code world count (Going here)
  fewer-left count here there over turn =
      let e = left-falls count here over in
      let f : turns_left code world count (once code world (Going here)) ≡ turns_left code world count (Going there) = ap (turns_left code world count) turn in
      omega arith

  pub over-next : (count : ℕ) (here there : Config) → IsOver (steps code world count (Going here)) → once code world (Going here) ≡ Going there
      → IsOver (steps code world count (Going there))
  over-next count here there over turn = subst (λ (p : Progress). IsOver (steps code world count p)) turn (over-on count (Going here) over)

  -- the turns of a path
  pub path-counts : (start there : Config) → Path code world start there → (count : ℕ) × (steps code world count (Going start) ≡ Going there)
  path-counts start there stays = (0, refl)
  path-counts start there (turns middle next path turn grows) =
      let earlier = path-counts start middle path in
      (earlier.0 + 1, one-more earlier.0 (Going start) ∙ ap (once code world) earlier.1 ∙ turn)
