-- A hub is founded, and seats are split and joined, within the rule.
use Rattle.std.proofs.Common.{◌≡◌, ℕ, zero, suc, ◌+◌, ◌%◌, ◌^◌, ◌<◌, ◌≤◌, cond, false, Bool, List, [], ◌∷◌, ◌++◌, length, set, sym, refl, ap, ◌∙◌, subst, ⊎_elim, inl, inr, arith, Option, Some, None}
use mathlib.Core.Option.{some, some-injective, some-ne-none, none}
use lib.ListN.{get_elem?}
use Rattle.atomic_table.specs.Table.{State, Splits, Joins, opening}
use Rattle.atomic_table.proofs.Lists.{at_snoc, at_longer, set_again, set_else}
use Rattle.hub.specs.Histories.{times, total}
use Rattle.hub.specs.declared.sight.Origin.{Origin}
use Rattle.hub.specs.declared.sight.Sight.{Sight}
use Rattle.hub.specs.declared.sight.Role.{Role}
use Rattle.hub.specs.declared.sight.Role.TheVariants.{Idle}
use Rattle.hub.specs.Rule.{HasTicket, HasTurn, IsFresh, counts_inside, NoneHasTurn, SomeHasTurn, Serves, Knows, Kept, founding_sight}
use Rattle.hub.specs.Steps.{split_off, joined, spent}
use Rattle.hub.proofs.Counting.{at_bound, total_set, total_snoc, begins_all, times_append}
use Rattle.hub.proofs.Kept.{each_set, still_alone, one_each_set, none_fresh_set, slot_set}

abbrev origin_or : {B : Type 0} → Origin B → Option (Origin B) → Origin B
origin_or d None = d
origin_or d (Some o) = o

module _ {B E F : Type 0} (stands : B → List E → Type 0) (fixed : B → F) (origin : Origin B) where
  abbrev Rules : State (Option B) (Sight B E) → Type 0
  Rules = Kept stands fixed origin

  alone_at : (v u : Sight B E) (j : ℕ) → get_elem? (v ∷ []) j ≡ some u → v ≡ u
  alone_at v u zero e = some-injective v u e
  alone_at v u (suc j) e = absurd (some-ne-none u (sym e))

  founded : (value : B) (history : List E) → stands value history → length history + 1 < 2 ^ 64 → origin.value.value ≡ value → origin.length ≡ length history
      → Rules (opening (0 ∷ 0 ∷ length history ∷ 0 ∷ []) (Some value ∷ []) (founding_sight origin))
  founded value history can short same long =
      let v : Sight B E = founding_sight origin in let can' : stands origin.value.value history = subst (λ (z : B). stands z history) (sym same) can in record {
        tickets = 0;
        serving = 0;
        load = 0;
        history = history;
        founding = history;
        words = refl;
        founder = (can', sym long);
        grown = begins_all history;
        short = short;
        order = (omega arith, omega arith);
        each = λ j u e. subst (Knows stands fixed origin history 0 0) (alone_at v u j e) record { origin_is = λ o knows. ap (origin_or o) (sym knows); seen = (history, refl); told = (history, refl); in_line = tt };
        one_each = λ t i j a b ei ej ha hb. absurd (subst (λ (z : Sight B E). HasTicket t z.role → ⊥) (alone_at v a i ei) (λ h. h) ha);
        slot = inl (value, refl, (can, ap fixed (sym same)), λ j u e. subst (λ (z : Sight B E). HasTurn z.role → ⊥) (alone_at v u j e) (λ h. h));
        own = λ n. (omega arith, (λ _. refl), λ _. refl);
        inside = refl;
        fresh = λ j u e f. (refl, refl);
      }

  pub opens : (value : B) (history : List E) (now : ℕ) (slots : List (Option B)) → stands value history → length history + 1 < 2 ^ 64 → origin.value.value ≡ value
      → origin.length ≡ now → now ≡ length history → slots ≡ Some value ∷ []
      → Rules (opening (0 ∷ 0 ∷ now ∷ 0 ∷ []) slots (founding_sight origin))
  opens value history now slots can short same named long at_home =
      subst (λ (t : ℕ × List (Option B)). Rules (opening (0 ∷ 0 ∷ t.0 ∷ 0 ∷ []) t.1 (founding_sight origin))) (λ i. (sym long i, sym at_home i))
      (founded value history can short same (named ∙ long))

  pub splits : (id : ℕ) (v : Sight B E) → (IsFresh v.role → ⊥) → Splits Rules id v v (split_off v)
  splits id v stale s r at =
      let o : Sight B E = split_off v in
      subst (λ (vs : List (Sight B E)). Rules record { words = s.words; homes = s.homes; views = vs ++ o ∷ [] }) (sym (set_again s.views id v at)) record {
        tickets = r.tickets;
        serving = r.serving;
        load = r.load;
        history = r.history;
        founding = r.founding;
        words = r.words;
        founder = r.founder;
        grown = r.grown;
        short = r.short;
        order = r.order;
        each = λ j u e. ⊎_elim (r.each j u) (λ (t : o ≡ u). subst (Knows stands fixed origin r.history r.tickets r.serving) t
            (let k = r.each id v at in record { origin_is = k.origin_is; seen = k.seen; told = (r.history, refl); in_line = tt })) (at_snoc s.views o u j e);
        one_each = λ t i j a b ei ej ha hb.
            ⊎_elim (λ (x : get_elem? s.views i ≡ some a). ⊎_elim (λ (y : get_elem? s.views j ≡ some b). r.one_each t i j a b x y ha hb) (λ (y : o ≡ b). absurd (none_has t b y hb)) (at_snoc s.views o b j ej))
            (λ (x : o ≡ a). absurd (none_has t a x ha)) (at_snoc s.views o a i ei);
        slot = ⊎_elim
            (λ (t : (value : B) × (s.homes ≡ some (Some value) ∷ []) × Serves stands fixed origin r.history value × NoneHasTurn s.views).
            inl (t.0, t.1, t.2, λ j u e. ⊎_elim (t.3 j u) (λ (y : o ≡ u). subst (λ (z : Sight B E). HasTurn z.role → ⊥) y (λ h. h)) (at_snoc s.views o u j e)))
            (λ (t : (s.homes ≡ none ∷ []) × SomeHasTurn s.views). inr (t.0, (t.1.0, t.1.1, at_longer s.views (o ∷ []) t.1.0 t.1.1 t.1.2, t.1.3))) r.slot;
        own = λ n. let f : Sight B E → ℕ = λ u. times n u.own in let e : total f (s.views ++ o ∷ []) ≡ total f s.views + 0 = total_snoc f s.views o in
            let e' : total f (s.views ++ o ∷ []) ≡ total f s.views = omega arith in subst (λ (k : ℕ). (k ≤ 1) × (n < origin.length → k ≡ 0) × (length r.history ≤ n → k ≡ 0)) (sym e') (r.own n);
        inside = let e : total counts_inside (s.views ++ o ∷ []) ≡ total counts_inside s.views + 0 = total_snoc counts_inside s.views o in
            let e' : total counts_inside (s.views ++ o ∷ []) ≡ total counts_inside s.views = omega arith in r.inside ∙ ap (λ (k : ℕ). k % 2 ^ 64) (sym e');
        fresh = λ j u e f. absurd (⊎_elim
            (λ (y : get_elem? s.views j ≡ some u). let one = (r.fresh j u y f).0 in let a = at_bound s.views j u y in let b = at_bound s.views id v at in let here : j ≡ id = omega arith in
            let is : u ≡ v = some-injective _ _ (sym y ∙ (ap (λ (z : ℕ). get_elem? s.views z) here ∙ at)) in stale (subst (λ (z : Sight B E). IsFresh z.role) is f))
            (λ (y : o ≡ u). subst (λ (z : Sight B E). IsFresh z.role → ⊥) y (λ h. h) f) (at_snoc s.views o u j e));
      }
    where
      none_has : (t : ℕ) (u : Sight B E) → split_off v ≡ u → HasTicket t u.role → ⊥
      none_has t u e = subst (λ (z : Sight B E). HasTicket t z.role → ⊥) e (λ h. h)

  pub joins : (id : ℕ) (v : Sight B E) (other : ℕ) (w : Sight B E) → (IsFresh v.role → ⊥) → w.role ≡ Idle → w.inside ≡ false
      → Joins Rules id v other w (joined v w) spent
  joins id v other w stale idle outside s r at apart there =
      let x : Sight B E = joined v w in let vs : List (Sight B E) = set s.views id x in
      let there' : get_elem? s.views other ≡ some w = sym (set_else s.views id other x apart) ∙ there in
      let kv = r.each id v at in let kw = r.each other w there' in
      let K : Sight B E → Type 0 = Knows stands fixed origin r.history r.tickets r.serving in
      let no_turn : HasTurn w.role → ⊥ = subst (λ (z : Role B). HasTurn z → ⊥) (sym idle) (λ h. h) in
      let not_fresh : (j : ℕ) (u : Sight B E) → get_elem? vs j ≡ some u → IsFresh u.role → ⊥ = none_fresh_set s.views id v x at stale (λ j u y f. (r.fresh j u y f).0) in record {
        tickets = r.tickets;
        serving = r.serving;
        load = r.load;
        history = r.history;
        founding = r.founding;
        words = r.words;
        founder = r.founder;
        grown = r.grown;
        short = r.short;
        order = r.order;
        each = each_set K vs other spent record { origin_is = λ o knows. absurd (no_origin o knows); seen = (r.history, refl); told = (r.history, refl); in_line = tt }
            (λ j u _. each_set K s.views id x record { origin_is = kv.origin_is; seen = kv.seen; told = kw.seen; in_line = kv.in_line } (λ i y _. r.each i y) j u);
        one_each = one_each_set vs other spent (one_each_set s.views id x r.one_each (still_alone s.views id v x at r.one_each (λ t h. h))) (λ t j u _ _ h _. h);
        slot = slot_set stands fixed origin s.homes r.history vs other w spent there (λ h. absurd h) no_turn
            (slot_set stands fixed origin s.homes r.history s.views id v x at (λ h. h) (λ h. h) r.slot);
        own = λ n. let f : Sight B E → ℕ = λ u. times n u.own in
            let a : total f vs + times n v.own ≡ total f s.views + times n x.own = total_set f s.views id v x at in
            let b : total f (set vs other spent) + times n w.own ≡ total f vs + 0 = total_set f vs other w spent there in
            let c : times n x.own ≡ times n v.own + times n w.own = times_append n v.own w.own in
            let e : total f (set vs other spent) ≡ total f s.views = omega arith in
            subst (λ (k : ℕ). (k ≤ 1) × (n < origin.length → k ≡ 0) × (length r.history ≤ n → k ≡ 0)) (sym e) (r.own n);
        inside = let f : Sight B E → ℕ = counts_inside in
            let a : total f vs + f v ≡ total f s.views + f v = total_set f s.views id v x at in
            let b : total f (set vs other spent) + f w ≡ total f vs + 0 = total_set f vs other w spent there in
            let c : f w ≡ 0 = ap (λ (y : Bool). cond y 1 0) outside in
            let e : total f (set vs other spent) ≡ total f s.views = omega arith in r.inside ∙ ap (λ (k : ℕ). k % 2 ^ 64) (sym e);
        fresh = λ j u e f. absurd (each_set (λ u. IsFresh u.role → ⊥) vs other spent (λ h. h) (λ i y _. not_fresh i y) j u e f);
      }
    where
      no_origin : (o : Origin B) → None ≡ Some o → ⊥
      no_origin o e = cc
