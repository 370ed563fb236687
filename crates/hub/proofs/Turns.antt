-- Each kind of step of one seat keeps the rule.
use Rattle.std.proofs.Common.{◌≡◌, ◌≢◌, ℕ, ◌+◌, ◌%◌, ◌^◌, ◌<◌, eqb, List, [], ◌∷◌, length, set, sym, refl, ap, ◌∙◌, subst, ⊎_elim, inr, arith, Option, Some}
use mathlib.Core.Logic.{dite}
use mathlib.Core.Option.{some, some-injective, none}
use mathlib.Core.Option as maybe
use native.Mathlib.Decide.{ℕ_discrete}
use lib.ListN.{get_elem?}
use prog.Atomic.{either}
use Rattle.atomic_table.specs.Table.{State, step, Act, keeps, takes, Allows, Valid, homes_after, carried_after}
use Rattle.atomic_table.proofs.Lists.{set_here, exchanged}
use Rattle.hub.specs.declared.sight.Origin.{Origin}
use Rattle.hub.specs.declared.sight.Sight.{Sight}
use Rattle.hub.specs.declared.sight.Role.{Role}
use Rattle.hub.specs.declared.sight.Role.TheVariants.{Fresh, Idle, Waits, Took, Looked}
use Rattle.hub.specs.Rule.{HasTicket, HasTurn, IsFresh, NoneHasTurn, SomeHasTurn, Serves, InLine, Kept}
use Rattle.hub.specs.Steps.{Seated, with_role, drawn, called, after_look, looked}
use Rattle.hub.proofs.Counting.{at_bound, begins_all}
use Rattle.hub.proofs.Kept.{still_alone, own_set, inside_set, turn_serves, lengthens, slot_set, step_of, stays}
use Rattle.hub.proofs.Owing.{allowed, line_is, calm}

abbrev ticket_or : {B : Type 0} → ℕ → Role B → ℕ
ticket_or d (Waits t) = t
ticket_or d (Took t value) = t
ticket_or d (Looked t) = t
ticket_or d _ = d

look_line : {B E F : Type 0} (stands : B → List E → Type 0) (fixed : B → F) (origin : Origin B) (history : List E) (tickets serving : ℕ) (seen : List E) (role : Role B)
    → InLine stands fixed origin history tickets serving seen role → InLine stands fixed origin history tickets serving history (after_look role)
look_line stands fixed origin history tickets serving seen Fresh line = tt
look_line stands fixed origin history tickets serving seen Idle line = tt
look_line stands fixed origin history tickets serving seen (Waits t) line = line
look_line stands fixed origin history tickets serving seen (Took t value) line = (line.0, line.1, refl)
look_line stands fixed origin history tickets serving seen (Looked t) line = (line.0, line.1, refl)

module _ {B : Type 0} where
  same_ticket_after : (role : Role B) (t : ℕ) → HasTicket t (after_look role) → HasTicket t role
  same_ticket_after Fresh t h = h
  same_ticket_after Idle t h = h
  same_ticket_after (Waits k) t h = h
  same_ticket_after (Took k value) t h = h
  same_ticket_after (Looked k) t h = h

  turn_back : (role : Role B) → HasTurn (after_look role) → HasTurn role
  turn_back Fresh h = h
  turn_back Idle h = h
  turn_back (Waits k) h = h
  turn_back (Took k value) h = h
  turn_back (Looked k) h = h

  turn_forth : (role : Role B) → HasTurn role → HasTurn (after_look role)
  turn_forth Fresh h = h
  turn_forth Idle h = h
  turn_forth (Waits k) h = h
  turn_forth (Took k value) h = h
  turn_forth (Looked k) h = h

  never_fresh : (role : Role B) → IsFresh (after_look role) → ⊥
  never_fresh Fresh h = h
  never_fresh Idle h = h
  never_fresh (Waits k) h = h
  never_fresh (Took k value) h = h
  never_fresh (Looked k) h = h

module _ {B E F : Type 0} (stands : B → List E → Type 0) (fixed : B → F) (origin : Origin B) where
  abbrev Table : Type 0
  Table = State (Option B) (Sight B E)

  abbrev Rules : Table → Type 0
  Rules = Kept stands fixed origin

  pub draws : (slots id : ℕ) (me : Seated B E) (next : ℕ) → me.0.role ≡ Idle → next + 1 < 2 ^ 64
      → Allows Rules slots id me 0 (λ n. either (eqb n next) (next + 1) n) (drawn (step slots 0 next (next + 1) none) me)
  draws slots id me next idle room = allowed stands fixed origin slots id me 0 (λ n. either (eqb n next) (next + 1) n) (drawn (step slots 0 next (next + 1) none) me) (λ s r at _.
      exchanged r.tickets next (next + 1) (λ (n : ℕ).
      (w : Sight B E) × (a : Act (Option B)) × Valid s.homes me.1 a
      × Rules record { words = n ∷ r.serving ∷ length r.history ∷ r.load ∷ []; homes = homes_after s.homes me.1 a; views = set s.views id w }
      × drawn (step slots 0 next (next + 1) none) me r.tickets (w, carried_after me.1 a))
      (λ (hit : r.tickets ≡ next).
      let v : Sight B E = me.0 in let w : Sight B E = with_role (Waits r.tickets) v in let k = r.each id v at in let o = r.order.0 in let up : next + 1 ≡ r.tickets + 1 = omega arith in (
        w,
        keeps,
        tt,
        step_of stands fixed origin s r id v w (next + 1) r.serving r.load r.history s.homes at (begins_all r.history) r.short (omega arith, room)
            (slot_set stands fixed origin s.homes r.history s.views id v w at (λ t. absurd t) (subst (λ (z : Role B). HasTurn z → ⊥) (sym idle) (λ t. t)) r.slot)
            record { origin_is = k.origin_is; seen = k.seen; told = k.told; in_line = (o, omega arith) }
            (λ j u other there. lengthens stands fixed origin r.history r.tickets (next + 1) r.serving u.seen u.role (omega arith) (r.each j u there).in_line)
            (λ t j u other there mine theirs. absurd (below s r j u there t mine theirs)) (λ t. t)
            (own_set origin.length (length r.history) (length r.history) s.views id v w at (omega arith) (λ n. refl) r.own)
            (r.inside ∙ ap (λ (z : ℕ). z % 2 ^ 64) (sym (inside_set s.views id v w at refl))),
        ((λ _. refl), (λ miss. absurd (miss hit))),
      ))
      (λ (miss : r.tickets ≢ next). (me.0, keeps, tt, stays stands fixed origin s r id me.0 at, ((λ hit. absurd (miss hit)), λ _. refl))))
    where
      -- no view has the next ticket
      below_line : (history : List E) (tickets serving : ℕ) (seen : List E) (role : Role B) → InLine stands fixed origin history tickets serving seen role → HasTicket tickets role → ⊥
      below_line history tickets serving seen Fresh line has = has
      below_line history tickets serving seen Idle line has = has
      below_line history tickets serving seen (Waits t) line has = let b = line.1 in omega arith
      below_line history tickets serving seen (Took t value) line has = let b = line.1 in omega arith
      below_line history tickets serving seen (Looked t) line has = let b = line.1 in omega arith

      below : (s : Table) (r : Rules s) (j : ℕ) (u : Sight B E) → get_elem? s.views j ≡ some u → (t : ℕ) → r.tickets ≡ t → HasTicket t u.role → ⊥
      below s r j u there t is has = below_line r.history r.tickets r.serving u.seen u.role (r.each j u there).in_line (subst (λ (z : ℕ). HasTicket z u.role) (sym is) has)

  pub calls : (slots id : ℕ) (me : Seated B E) (t : ℕ) → me.0.role ≡ Waits t → Allows Rules slots id me 1 (λ n. n) (called fixed (step slots 1 0 0 none) me)
  calls slots id me t waits = allowed stands fixed origin slots id me 1 (λ n. n) (called fixed (step slots 1 0 0 none) me) (λ s r at _.
      let v : Sight B E = me.0 in let k = r.each id v at in let line = line_is stands fixed origin s r id v at (Waits t) waits in
      dite (ℕ_discrete r.serving t)
      (λ (hit : r.serving ≡ t).
      let mine : HasTicket r.serving v.role = subst (λ (z : Role B). HasTicket r.serving z) (sym waits) (sym hit) in
      let h = at_home s r id v at t waits mine in let w : Sight B E = with_role (Took t h.0) v in (
        w,
        takes 0 (Some h.0),
        ap (λ (z : List (maybe.Option (Option B))). get_elem? z 0) h.1,
        step_of stands fixed origin s r id v w r.tickets r.serving r.load r.history (set s.homes 0 none) at (begins_all r.history) r.short r.order
            (inr (ap (λ (z : List (maybe.Option (Option B))). set z 0 none) h.1, (id, w, set_here s.views id w (at_bound s.views id v at), tt)))
            record { origin_is = k.origin_is; seen = k.seen; told = k.told; in_line = (sym hit, line.1, h.2) }
            (λ j u other there. (r.each j u there).in_line)
            (still_alone s.views id v w at r.one_each (λ (z : ℕ) (e : t ≡ z). subst (λ (y : Role B). HasTicket z y) (sym waits) e)) (λ f. f)
            (own_set origin.length (length r.history) (length r.history) s.views id v w at (omega arith) (λ n. refl) r.own)
            (r.inside ∙ ap (λ (z : ℕ). z % 2 ^ 64) (sym (inside_set s.views id v w at refl))),
        λ t' is. let same : t ≡ t' = ap (ticket_or 0) (sym waits ∙ is) in (
          (λ _. (h.0, (λ i. (with_role (Took (same i) h.0) v, (0, Some h.0) ∷ me.1)), λ o knows. h.2.1 ∙ ap (λ (z : Origin B). fixed z.value.value) (sym (k.origin_is o knows)))),
          λ miss. absurd (miss (hit ∙ same)),
        ),
      ))
      (λ (miss : r.serving ≢ t). (
        v,
        keeps,
        tt,
        stays stands fixed origin s r id v at,
        λ t' is. let same : t ≡ t' = ap (ticket_or 0) (sym waits ∙ is) in ((λ hit. absurd (miss (hit ∙ sym same))), λ _. refl),
      )))
    where
      -- the value is at home where the ticket that is served is that of a view that waits
      at_home : (s : Table) (r : Rules s) (id : ℕ) (v : Sight B E) → get_elem? s.views id ≡ some v → (t : ℕ) → v.role ≡ Waits t → HasTicket r.serving v.role
          → (value : B) × (s.homes ≡ some (Some value) ∷ []) × Serves stands fixed origin r.history value
      at_home s r id v at t waits mine =
          ⊎_elim (λ (h : (value : B) × (s.homes ≡ some (Some value) ∷ []) × Serves stands fixed origin r.history value × NoneHasTurn s.views). (h.0, h.1, h.2))
          (λ (h : (s.homes ≡ none ∷ []) × SomeHasTurn s.views).
          let j = h.1.0 in let u = h.1.1 in
          let theirs = turn_serves stands fixed origin r.history r.tickets r.serving u.seen u.role (r.each j u h.1.2).in_line h.1.3 in
          let same : j ≡ id = r.one_each r.serving j id u v h.1.2 at theirs mine in
          let is : u ≡ v = some-injective _ _ (sym h.1.2 ∙ (ap (λ (z : ℕ). get_elem? s.views z) same ∙ at)) in
          absurd (subst HasTurn (ap (λ (z : Sight B E). z.role) is ∙ waits) h.1.3)) r.slot

  pub looks : (slots id : ℕ) (me : Seated B E) → Allows Rules slots id me 2 (λ n. n) (looked stands (step slots 2 0 0 none) me)
  looks slots id me = allowed stands fixed origin slots id me 2 (λ n. n) (looked stands (step slots 2 0 0 none) me) (λ s r at _.
      let v : Sight B E = me.0 in let k = r.each id v at in let w : Sight B E = record v { seen = r.history; role = after_look v.role } in (
        w,
        keeps,
        tt,
        calm stands fixed origin s r id v at w (same_ticket_after v.role) (turn_back v.role) (turn_forth v.role)
            record { origin_is = k.origin_is; seen = begins_all r.history; told = k.told; in_line = look_line stands fixed origin r.history r.tickets r.serving v.seen v.role k.in_line }
            (never_fresh v.role) refl refl,
        (
          r.history,
          refl,
          k.seen,
          refl,
          r.short,
          (λ t value is. (line_is stands fixed origin s r id v at (Took t value) is).2.0),
          (λ t is. sym (line_is stands fixed origin s r id v at (Looked t) is).2),
          (λ is o knows.
              let f = r.fresh id v at (subst IsFresh (sym is) tt) in let same : o ≡ origin = k.origin_is o knows in
              (subst (λ (z : Origin B × List E). stands z.0.value.value z.1) (λ i. (sym same i, sym f.1 i)) r.founder.0, ap length f.1 ∙ (r.founder.1 ∙ ap (λ (z : Origin B). z.length) (sym same)))),
        ),
      ))
