-- The steps on the load word keep the rule.
use Rattle.std.proofs.Common.{◌≡◌, ℕ, ◌+◌, ◌-◌, ◌%◌, ◌^◌, cond, true, false, Bool, List, set, refl, ap, arith, Option, Some}
use mathlib.Core.Option.{some, none}
use lib.ListN.{get_elem?}
use Rattle.atomic_table.specs.Table.{State, step, keeps, Allows}
use Rattle.hub.specs.Histories.{total}
use Rattle.hub.specs.declared.sight.Origin.{Origin}
use Rattle.hub.specs.declared.sight.Sight.{Sight}
use Rattle.hub.specs.Rule.{IsFresh, counts_inside, Kept}
use Rattle.hub.specs.Steps.{Seated, capped, entered, left, weighed}
use Rattle.hub.proofs.Counting.{total_set}
use Rattle.hub.proofs.Owing.{allowed, quiet, calm}

-- how many are inside, where one more is, or one less
counted : {B E : Type 0} (views : List (Sight B E)) (id : ℕ) (v w : Sight B E) (was is : Bool) → get_elem? views id ≡ some v → v.inside ≡ was → w.inside ≡ is
    → total counts_inside (set views id w) + cond was 1 0 ≡ total counts_inside views + cond is 1 0
counted {B} {E} views id v w was is at before after =
    let f : Sight B E → ℕ = counts_inside in
    let p : total f (set views id w) + f v ≡ total f views + f w = total_set f views id v w at in
    let a : f v ≡ cond was 1 0 = ap (λ (b : Bool). cond b 1 0) before in
    let b : f w ≡ cond is 1 0 = ap (λ (b : Bool). cond b 1 0) after in omega arith

module _ {B E F : Type 0} (stands : B → List E → Type 0) (fixed : B → F) (origin : Origin B) where
  abbrev Rules : State (Option B) (Sight B E) → Type 0
  Rules = Kept stands fixed origin

  pub enters : (slots id : ℕ) (me : Seated B E) → (IsFresh me.0.role → ⊥) → me.0.inside ≡ false
      → Allows Rules slots id me 3 (λ n. (n + 1) % 2 ^ 64) (entered (step slots 3 1 0 none) me)
  enters slots id me stale outside = allowed stands fixed origin slots id me 3 (λ n. (n + 1) % 2 ^ 64) (entered (step slots 3 1 0 none) me) (λ s r at _.
      let v : Sight B E = me.0 in let k = r.each id v at in let load : ℕ = (r.load + 1) % 18446744073709551616 in
      let w : Sight B E = record v { inside = true; met = load } in
      let f : Sight B E → ℕ = counts_inside in
      let more : total f (set s.views id w) + 0 ≡ total f s.views + 1 = counted s.views id v w false true at outside refl in
      let was : r.load ≡ total f s.views % 18446744073709551616 = r.inside in
      let now : load ≡ total f (set s.views id w) % 18446744073709551616 = omega arith in (
        w,
        keeps,
        tt,
        quiet stands fixed origin s r id v at w load (λ t h. h) (λ h. h) (λ h. h)
            record { origin_is = k.origin_is; seen = k.seen; told = k.told; in_line = k.in_line } stale refl now,
        refl,
      ))

  pub leaves : (slots id : ℕ) (me : Seated B E) → (IsFresh me.0.role → ⊥) → me.0.inside ≡ true
      → Allows Rules slots id me 3 (λ n. (n + (2 ^ 64 - 1)) % 2 ^ 64) (left (step slots 3 1 0 none) me)
  leaves slots id me stale is_in = allowed stands fixed origin slots id me 3 (λ n. (n + (2 ^ 64 - 1)) % 2 ^ 64) (left (step slots 3 1 0 none) me) (λ s r at _.
      let v : Sight B E = me.0 in let k = r.each id v at in let load : ℕ = (r.load + 18446744073709551615) % 18446744073709551616 in
      let w : Sight B E = record v { inside = false; met = load } in
      let f : Sight B E → ℕ = counts_inside in
      let less : total f (set s.views id w) + 1 ≡ total f s.views + 0 = counted s.views id v w true false at is_in refl in
      let was : r.load ≡ total f s.views % 18446744073709551616 = r.inside in
      let now : load ≡ total f (set s.views id w) % 18446744073709551616 = omega arith in (
        w,
        keeps,
        tt,
        quiet stands fixed origin s r id v at w load (λ t h. h) (λ h. h) (λ h. h)
            record { origin_is = k.origin_is; seen = k.seen; told = k.told; in_line = k.in_line } stale refl now,
        refl,
      ))

  pub weighs : (slots id : ℕ) (me : Seated B E) → (IsFresh me.0.role → ⊥) → Allows Rules slots id me 3 (λ n. n) (weighed (step slots 3 0 0 none) me)
  weighs slots id me stale = allowed stands fixed origin slots id me 3 (λ n. n) (weighed (step slots 3 0 0 none) me) (λ s r at _.
      let v : Sight B E = me.0 in let k = r.each id v at in let w : Sight B E = record v { shown = Some (capped r.load) } in (
        w,
        keeps,
        tt,
        calm stands fixed origin s r id v at w (λ t h. h) (λ h. h) (λ h. h)
            record { origin_is = k.origin_is; seen = k.seen; told = k.told; in_line = k.in_line } stale refl refl,
        refl,
      ))
