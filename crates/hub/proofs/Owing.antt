-- What a step of one seat owes.
use Rattle.std.proofs.Common.{◌≡◌, ◌≢◌, ℕ, ◌%◌, ◌^◌, ◌<◌, ◌≤◌, List, [], ◌∷◌, length, set, get_or, sym, ap, ◌∙◌, subst, ⊎_elim, arith, Option, Some}
use mathlib.Core.Option.{some, none}
use lib.ListN.{get_elem?}
use Rattle.atomic_table.specs.Table.{State, Act, Allows, Valid, homes_after, carried_after}
use Rattle.hub.specs.Histories.{times, total, AreOwn}
use Rattle.hub.specs.declared.sight.Origin.{Origin}
use Rattle.hub.specs.declared.sight.Sight.{Sight}
use Rattle.hub.specs.declared.sight.Role.{Role}
use Rattle.hub.specs.Rule.{HasTicket, HasTurn, IsFresh, counts_inside, NoneHasTurn, SomeHasTurn, OwnOnce, Serves, InLine, Knows, Kept}
use Rattle.hub.specs.Steps.{Seated}
use Rattle.hub.proofs.Counting.{part_of, begins_all}
use Rattle.hub.proofs.Kept.{still_alone, own_set, inside_set, slot_set, words_of, step_of}

module _ {B E F : Type 0} (stands : B → List E → Type 0) (fixed : B → F) (origin : Origin B) where
  abbrev pub V : Type 0
  V = Sight B E

  abbrev pub M : Type 0
  M = Seated B E

  abbrev pub St : Type 0
  St = State (Option B) V

  abbrev pub Law : St → Type 0
  Law = Kept stands fixed origin

  -- what a step owes, with the words written out
  abbrev pub Owed : St → List ℕ → ℕ → M → ℕ → (ℕ → ℕ) → (ℕ → M → Type 0) → Type 0
  Owed s words id me i f says =
      (w : V) × (a : Act (Option B)) × Valid s.homes me.1 a
      × Law record { words = set words i (f (get_or words i 0)); homes = homes_after s.homes me.1 a; views = set s.views id w }
      × says (get_or words i 0) (w, carried_after me.1 a)

  pub allowed : (slots id : ℕ) (me : M) (i : ℕ) (f : ℕ → ℕ) (says : ℕ → M → Type 0)
      → ((s : St) (r : Law s) → get_elem? s.views id ≡ some me.0 → get_or (words_of stands fixed origin s r) i 0 < 18446744073709551616
      → Owed s (words_of stands fixed origin s r) id me i f says)
      → Allows Law slots id me i f says
  allowed slots id me i f says owes s r deep at small =
      subst (λ (words : List ℕ). Owed s words id me i f says) (sym r.words) (owes s r at (subst (λ (words : List ℕ). get_or words i 0 < 18446744073709551616) r.words small))

  module _ (s : St) (r : Law s) (id : ℕ) (v : V) (at : get_elem? s.views id ≡ some v) where
    pub line_is : (role : Role B) → v.role ≡ role → InLine stands fixed origin r.history r.tickets r.serving v.seen role
    line_is role is = subst (InLine stands fixed origin r.history r.tickets r.serving v.seen) is (r.each id v at).in_line

    -- nobody else has the ticket that this view has
    pub others_wait : HasTicket r.serving v.role → (j : ℕ) (u : V) → j ≢ id → get_elem? s.views j ≡ some u → HasTicket r.serving u.role → ⊥
    others_wait mine j u other there theirs = other (r.one_each r.serving j id u v there at theirs mine)

    -- the slot is away while this view has the turn
    pub away : HasTurn v.role → s.homes ≡ none ∷ []
    away turn =
        ⊎_elim (λ (t : (value : B) × (s.homes ≡ some (Some value) ∷ []) × Serves stands fixed origin r.history value × NoneHasTurn s.views). absurd (t.3 id v at turn))
        (λ (t : (s.homes ≡ none ∷ []) × SomeHasTurn s.views). t.0) r.slot

    pub own_now : OwnOnce origin.length (length r.history) s.views → AreOwn origin.length v.own
    own_now all n = let f : V → ℕ = λ u. times n u.own in let p : times n v.own ≤ total f s.views = part_of f s.views id v at in
        let o = all n in let o₀ : total f s.views ≤ 1 = o.0 in (omega arith, (λ l. let o₁ : total f s.views ≡ 0 = o.1 l in omega arith))

    -- a step that leaves the words but for the load, the slot and whose turn it is
    pub quiet : (w : V) (load : ℕ) → ((t : ℕ) → HasTicket t w.role → HasTicket t v.role) → (HasTurn w.role → HasTurn v.role) → (HasTurn v.role → HasTurn w.role)
        → Knows stands fixed origin r.history r.tickets r.serving w → (IsFresh w.role → ⊥) → w.own ≡ v.own
        → load ≡ total counts_inside (set s.views id w) % 2 ^ 64
        → Law record { words = r.tickets ∷ r.serving ∷ length r.history ∷ load ∷ []; homes = s.homes; views = set s.views id w }
    quiet w load ticket back forth known stale own inside =
        step_of stands fixed origin s r id v w r.tickets r.serving load r.history s.homes at (begins_all r.history) r.short r.order
        (slot_set stands fixed origin s.homes r.history s.views id v w at back forth r.slot) known (λ j u other there. (r.each j u there).in_line)
        (still_alone s.views id v w at r.one_each ticket) stale
        (let same : (n : ℕ) → times n w.own ≡ times n v.own = λ n. ap (times n) own in
        own_set origin.length (length r.history) (length r.history) s.views id v w at (omega arith) same r.own)
        inside

    -- the same, where the load stays too
    pub calm : (w : V) → ((t : ℕ) → HasTicket t w.role → HasTicket t v.role) → (HasTurn w.role → HasTurn v.role) → (HasTurn v.role → HasTurn w.role)
        → Knows stands fixed origin r.history r.tickets r.serving w → (IsFresh w.role → ⊥) → w.own ≡ v.own → w.inside ≡ v.inside
        → Law record { words = words_of stands fixed origin s r; homes = s.homes; views = set s.views id w }
    calm w ticket back forth known stale own inside =
        quiet w r.load ticket back forth known stale own (r.inside ∙ ap (λ (k : ℕ). k % 2 ^ 64) (sym (inside_set s.views id v w at inside)))
