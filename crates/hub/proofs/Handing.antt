-- The steps of whoever has the turn keep the rule: append, and hand on. And the look after a join.
use Rattle.std.proofs.Common.{◌≡◌, ◌≢◌, ◌⊎◌, ℕ, ◌+◌, ◌%◌, ◌^◌, ◌<◌, ◌≤◌, eqb, eq-eqb, ne_eqb, cond, true, false, Bool, List, [], ◌∷◌, ◌++◌, length, ltb, set, sym, refl, ap, ◌∙◌, subst, ⊎_elim, inl, inr, arith, Option, Some, None, length-append}
use borrow.Author.Tests.{ltb-true, ltb-false}
use mathlib.Core.Logic.{dite}
use mathlib.Core.Option.{some, none}
use mathlib.Core.Option as maybe
use native.Mathlib.Decide.{ℕ_discrete}
use lib.ListN.{get_elem?}
use Rattle.atomic_table.specs.Table.{State, step, keeps, gives, Allows, put_back}
use Rattle.atomic_table.proofs.Lists.{set_here}
use Rattle.hub.specs.Histories.{Begins, longer, times, total, AreOwn}
use Rattle.hub.specs.declared.sight.Origin.{Origin}
use Rattle.hub.specs.declared.sight.Sight.{Sight}
use Rattle.hub.specs.declared.sight.Role.{Role}
use Rattle.hub.specs.declared.sight.Role.TheVariants.{Fresh, Idle, Waits, Took, Looked}
use Rattle.hub.specs.Rule.{HasTicket, HasTurn, IsFresh, OwnOnce, InLine, Kept}
use Rattle.hub.specs.Steps.{Seated, with_role, appended, handed_on, settled}
use Rattle.hub.proofs.Counting.{at_bound, total_set, begins_all, begins_along, begins_length, begins_both, begins_whole, times_append}
use Rattle.hub.proofs.Kept.{each_set, still_alone, own_set, inside_set, turn_serves, behind, words_of, step_of}
use Rattle.hub.proofs.Owing.{allowed, line_is, others_wait, away, own_now, calm}

abbrev value_or : {B : Type 0} → B → Option B → B
value_or d None = d
value_or d (Some value) = value

abbrev held_or : {B : Type 0} → B → List (ℕ × Option B) → B
held_or d [] = d
held_or d (x ∷ xs) = value_or d x.1

abbrev one_if : Bool → ℕ
one_if b = cond b 1 0

hit_or : (a n : ℕ) → ((a ≡ n) × (one_if (eqb a n) ≡ 1)) ⊎ ((a ≢ n) × (one_if (eqb a n) ≡ 0))
hit_or a n = dite (ℕ_discrete a n) (λ (e : a ≡ n). inl (e, ap one_if (eq-eqb a n e))) (λ (e : a ≢ n). inr (e, ap one_if (ne_eqb a n e)))

-- what is known of the longer of two beginnings of one list
record IsLonger {E : Type 0} (first second whole result : List E) : Type 0 where
  pub first_begins : Begins first result
  pub second_begins : Begins second result
  pub begins : Begins result whole
  pub all : first ≡ whole → result ≡ whole

longer_is : {E : Type 0} (first second whole : List E) → Begins first whole → Begins second whole → IsLonger first second whole (longer first second)
longer_is first second whole p q = by_test (ltb (length first) (length second)) refl
  where
    by_test : (b : Bool) → ltb (length first) (length second) ≡ b → IsLonger first second whole (cond b second first)
    by_test true e = let l = ltb-true (length first) (length second) e in let a = begins_length second whole q in record {
      first_begins = begins_both first second whole p q (omega arith);
      second_begins = begins_all second;
      begins = q;
      all = λ same. let c : length first ≡ length whole = ap length same in begins_whole second whole q (omega arith);
    }
    by_test false e = let l = ltb-false (length first) (length second) e in record {
      first_begins = begins_all first;
      second_begins = begins_both second first whole q p l;
      begins = p;
      all = λ same. same;
    }

module _ {B E F : Type 0} (stands : B → List E → Type 0) (fixed : B → F) (origin : Origin B) where
  abbrev Table : Type 0
  Table = State (Option B) (Sight B E)

  abbrev Rules : Table → Type 0
  Rules = Kept stands fixed origin

  longer_line : (history : List E) (tickets serving : ℕ) (seen more : List E) (role : Role B) → (seen ≡ history → more ≡ history)
      → InLine stands fixed origin history tickets serving seen role → InLine stands fixed origin history tickets serving more role
  longer_line history tickets serving seen more Fresh all line = tt
  longer_line history tickets serving seen more Idle all line = tt
  longer_line history tickets serving seen more (Waits t) all line = line
  longer_line history tickets serving seen more (Took t value) all line = line
  longer_line history tickets serving seen more (Looked t) all line = (line.0, line.1, all line.2)

  own_more : (s : Table) (r : Rules s) (id : ℕ) (v w : Sight B E) → get_elem? s.views id ≡ some v → (now : ℕ) → now ≡ length r.history → w.own ≡ v.own ++ now ∷ []
      → OwnOnce origin.length (now + 1) (set s.views id w)
  own_more s r id v w at now is grows n =
      let f : Sight B E → ℕ = λ u. times n u.own in
      let p : total f (set s.views id w) + times n v.own ≡ total f s.views + times n w.own = total_set f s.views id v w at in
      let q : times n w.own ≡ times n v.own + times n (now ∷ []) = ap (times n) grows ∙ times_append n v.own (now ∷ []) in
      let c : ℕ = one_if (eqb now n) in let one : times n (now ∷ []) ≡ c = omega arith in
      let e : total f (set s.views id w) ≡ total f s.views + c = omega arith in
      let o = r.own n in let o₀ : total f s.views ≤ 1 = o.0 in
      let first : origin.length ≤ length r.history = let a = begins_length r.founding r.history r.grown in let b = r.founder.1 in omega arith in
      ⊎_elim
      (λ (h : (now ≡ n) × (c ≡ 1)).
      let a = h.0 in let b = h.1 in let z : total f s.views ≡ 0 = o.2 (omega arith) in (omega arith, (λ l. absurd (omega arith)), λ l. absurd (omega arith)))
      (λ (h : (now ≢ n) × (c ≡ 0)).
      let b = h.1 in (omega arith, (λ l. let z : total f s.views ≡ 0 = o.1 l in omega arith), (λ l. let z : total f s.views ≡ 0 = o.2 (omega arith) in omega arith)))
      (hit_or now n)

  pub appends : (slots id : ℕ) (me : Seated B E) (t : ℕ) (value : B) (e : E) → me.0.role ≡ Looked t → me.1 ≡ (0, Some value) ∷ []
      → stands value (me.0.seen ++ e ∷ []) → length me.0.seen + 2 < 2 ^ 64
      → Allows Rules slots id me 2 (λ n. (n + 1) % 2 ^ 64) (appended stands (step slots 2 1 0 none) me)
  appends slots id me t value e has held can room =
      allowed stands fixed origin slots id me 2 (λ n. (n + 1) % 2 ^ 64) (appended stands (step slots 2 1 0 none) me) (λ s r at _.
      let v : Sight B E = me.0 in let k = r.each id v at in let line = line_is stands fixed origin s r id v at (Looked t) has in
      let h : List E = v.seen ++ e ∷ [] in let w : Sight B E = record v { seen = h; own = v.own ++ length v.seen ∷ [] } in
      let mine : HasTicket r.serving v.role = subst (λ (z : Role B). HasTicket r.serving z) (sym has) line.0 in
      let turn : HasTurn v.role = subst HasTurn (sym has) tt in
      let up : Begins r.history h = (e ∷ [], ap (λ (z : List E). z ++ e ∷ []) line.2) in
      let long : length h ≡ length v.seen + 1 = length-append v.seen (e ∷ []) in
      let same : length v.seen ≡ length r.history = ap length line.2 in
      let counted : length h ≡ (length r.history + 1) % 18446744073709551616 = omega arith in (
        w,
        keeps,
        tt,
        subst (λ (n : ℕ). Rules record { words = r.tickets ∷ r.serving ∷ n ∷ r.load ∷ []; homes = s.homes; views = set s.views id w }) counted
            (step_of stands fixed origin s r id v w r.tickets r.serving r.load h s.homes at up (omega arith) r.order
            (inr (away stands fixed origin s r id v at turn, (id, w, set_here s.views id w (at_bound s.views id v at), turn)))
            record { origin_is = k.origin_is; seen = begins_all h; told = begins_along v.told r.history h k.told up; in_line = subst (InLine stands fixed origin h r.tickets r.serving h) (sym has) (line.0, line.1, refl) }
            (λ j u other there. behind stands fixed origin r.history h r.tickets r.tickets r.serving r.serving u.seen u.role (omega arith) (omega arith)
            (others_wait stands fixed origin s r id v at mine j u other there) (r.each j u there).in_line)
            (still_alone s.views id v w at r.one_each (λ z f. f)) (subst (λ (z : Role B). IsFresh z → ⊥) (sym has) (λ f. f))
            (subst (λ (n : ℕ). OwnOnce origin.length n (set s.views id w)) (sym long) (own_more s r id v w at (length v.seen) same refl))
            (r.inside ∙ ap (λ (z : ℕ). z % 2 ^ 64) (sym (inside_set s.views id v w at refl)))),
        (e, refl, λ other is. subst (λ (x : B). stands x (v.seen ++ e ∷ [])) (ap (held_or value) (sym held ∙ is)) can),
      ))

  pub hands_on : (slots id : ℕ) (me : Seated B E) (t : ℕ) (value : B) → me.0.role ≡ Looked t → me.1 ≡ (0, Some value) ∷ []
      → stands value me.0.seen → fixed value ≡ fixed origin.value.value
      → Allows Rules slots id me 1 (λ n. (n + 1) % 2 ^ 64) (handed_on (step slots 1 1 0 none) me)
  hands_on slots id me t value has held can same_part =
      allowed stands fixed origin slots id me 1 (λ n. (n + 1) % 2 ^ 64) (handed_on (step slots 1 1 0 none) me) (λ s r at _.
      let v : Sight B E = me.0 in let k = r.each id v at in let line = line_is stands fixed origin s r id v at (Looked t) has in
      let w : Sight B E = with_role Idle v in
      let mine : HasTicket r.serving v.role = subst (λ (z : Role B). HasTicket r.serving z) (sym has) line.0 in
      let turn : HasTurn v.role = subst HasTurn (sym has) tt in
      let wait = others_wait stands fixed origin s r id v at mine in
      let is : t ≡ r.serving = line.0 in let below : t < r.tickets = line.1 in let high = r.order.1 in
      let next : r.serving + 1 ≡ (r.serving + 1) % 18446744073709551616 = omega arith in
      let homes : List (maybe.Option (Option B)) = set s.homes 0 (some (Some value)) in (
        w,
        gives,
        tt,
        subst (λ (c : List (ℕ × Option B)). Rules record { words = set (words_of stands fixed origin s r) 1 ((r.serving + 1) % 2 ^ 64); homes = put_back s.homes c; views = set s.views id w }) (sym held)
            (subst (λ (n : ℕ). Rules record { words = r.tickets ∷ n ∷ length r.history ∷ r.load ∷ []; homes = homes; views = set s.views id w }) next
            (step_of stands fixed origin s r id v w r.tickets (r.serving + 1) r.load r.history homes at (begins_all r.history) r.short (omega arith, high)
            (inl (
              value,
              ap (λ (z : List (maybe.Option (Option B))). set z 0 (some (Some value))) (away stands fixed origin s r id v at turn),
              (subst (stands value) line.2 can, same_part),
              each_set (λ u. HasTurn u.role → ⊥) s.views id w (λ f. f)
                  (λ j u other there f. wait j u other there (turn_serves stands fixed origin r.history r.tickets r.serving u.seen u.role (r.each j u there).in_line f)),
            ))
            record { origin_is = k.origin_is; seen = k.seen; told = k.told; in_line = tt }
            (λ j u other there. behind stands fixed origin r.history r.history r.tickets r.tickets r.serving (r.serving + 1) u.seen u.role (omega arith) (omega arith)
            (wait j u other there) (r.each j u there).in_line)
            (λ z j u other there f _. f) (λ f. f)
            (own_set origin.length (length r.history) (length r.history) s.views id v w at (omega arith) (λ n. refl) r.own)
            (r.inside ∙ ap (λ (z : ℕ). z % 2 ^ 64) (sym (inside_set s.views id v w at refl))))),
        (
          refl,
          λ o knows. let same : o ≡ origin = k.origin_is o knows in
              subst (λ (z : Origin B). AreOwn z.length v.own) (sym same) (own_now stands fixed origin s r id v at r.own),
        ),
      ))

  pub settles : (slots id : ℕ) (me : Seated B E) → (IsFresh me.0.role → ⊥)
      → Allows Rules slots id me 2 (λ n. n) (settled (step slots 2 0 0 none) me)
  settles slots id me stale = allowed stands fixed origin slots id me 2 (λ n. n) (settled (step slots 2 0 0 none) me) (λ s r at _.
      let v : Sight B E = me.0 in let k = r.each id v at in let more = longer_is v.seen v.told r.history k.seen k.told in
      let w : Sight B E = record v { seen = longer v.seen v.told; told = [] } in (
        w,
        keeps,
        tt,
        calm stands fixed origin s r id v at w (λ t h. h) (λ h. h) (λ h. h)
            record {
              origin_is = k.origin_is;
              seen = more.begins;
              told = (r.history, refl);
              in_line = longer_line r.history r.tickets r.serving v.seen (longer v.seen v.told) v.role more.all k.in_line;
            }
            stale refl refl,
        (
          refl,
          more.first_begins,
          more.second_begins,
          λ o knows. let same : o ≡ origin = k.origin_is o knows in
              subst (λ (z : Origin B). AreOwn z.length v.own) (sym same) (own_now stands fixed origin s r id v at r.own),
        ),
      ))
