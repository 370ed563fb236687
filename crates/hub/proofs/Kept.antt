-- Lemmas on the parts of the rule, at a step of one view.
use Rattle.std.proofs.Common.{◌≡◌, ◌≢◌, ◌⊎◌, ℕ, ◌+◌, ◌%◌, ◌^◌, ◌<◌, ◌≤◌, List, [], ◌∷◌, ◌++◌, length, set, sym, refl, ap, ◌∙◌, subst, ⊎_elim, inl, inr, arith, Option, Some, None}
use mathlib.Core.Logic.{dite}
use mathlib.Core.Option.{some, some-injective, none}
use mathlib.Core.Option as maybe
use native.Mathlib.Decide.{ℕ_discrete}
use lib.ListN.{get_elem?}
use Rattle.atomic_table.specs.Table.{State}
use Rattle.atomic_table.proofs.Lists.{at_set, set_here, set_else, set_again}
use Rattle.hub.specs.Histories.{Begins, times, total}
use Rattle.hub.specs.declared.sight.Origin.{Origin}
use Rattle.hub.specs.declared.sight.Sight.{Sight}
use Rattle.hub.specs.declared.sight.Role.{Role}
use Rattle.hub.specs.declared.sight.Role.TheVariants.{Fresh, Idle, Waits, Took, Looked}
use Rattle.hub.specs.Rule.{HasTicket, HasTurn, IsFresh, counts_inside, OneEach, NoneHasTurn, SomeHasTurn, OwnOnce, Serves, InLine, IsHomeOrAway, Knows, Kept}
use Rattle.hub.proofs.Counting.{at_bound, total_set, begins_along}

module _ {B E : Type 0} where
  pub each_set : (K : Sight B E → Type 0) (vs : List (Sight B E)) (id : ℕ) (w : Sight B E) → K w
      → ((j : ℕ) (u : Sight B E) → j ≢ id → get_elem? vs j ≡ some u → K u) → (j : ℕ) (u : Sight B E) → get_elem? (set vs id w) j ≡ some u → K u
  each_set K vs id w mine others j u e =
      ⊎_elim (λ (t : (j ≡ id) × (w ≡ u)). subst K t.1 mine) (λ (t : (j ≢ id) × (get_elem? vs j ≡ some u)). others j u t.0 t.1) (at_set vs id j w u e)

  -- nobody else has the ticket of w
  abbrev pub HasItAlone : List (Sight B E) → ℕ → Sight B E → Type 0
  HasItAlone vs id w = (t j : ℕ) (u : Sight B E) → j ≢ id → get_elem? vs j ≡ some u → HasTicket t w.role → HasTicket t u.role → ⊥

  pub one_each_set : (vs : List (Sight B E)) (id : ℕ) (w : Sight B E) → OneEach vs → HasItAlone vs id w → OneEach (set vs id w)
  one_each_set vs id w old mine t i j a b ei ej ha hb =
      ⊎_elim
      (λ (p : (i ≡ id) × (w ≡ a)).
      ⊎_elim (λ (q : (j ≡ id) × (w ≡ b)). p.0 ∙ sym q.0)
      (λ (q : (j ≢ id) × (get_elem? vs j ≡ some b)). absurd (mine t j b q.0 q.1 (subst (λ (z : Sight B E). HasTicket t z.role) (sym p.1) ha) hb)) (at_set vs id j w b ej))
      (λ (p : (i ≢ id) × (get_elem? vs i ≡ some a)).
      ⊎_elim (λ (q : (j ≡ id) × (w ≡ b)). absurd (mine t i a p.0 p.1 (subst (λ (z : Sight B E). HasTicket t z.role) (sym q.1) hb) ha))
      (λ (q : (j ≢ id) × (get_elem? vs j ≡ some b)). old t i j a b p.1 q.1 ha hb) (at_set vs id j w b ej))
      (at_set vs id i w a ei)

  -- who keeps the ticket that it had has it alone
  pub still_alone : (vs : List (Sight B E)) (id : ℕ) (v w : Sight B E) → get_elem? vs id ≡ some v → OneEach vs
      → ((t : ℕ) → HasTicket t w.role → HasTicket t v.role) → HasItAlone vs id w
  still_alone vs id v w at old same t j u other there hw hu = other (old t j id u v there at hu (same t hw))

  pub none_fresh_set : (vs : List (Sight B E)) (id : ℕ) (v w : Sight B E) → get_elem? vs id ≡ some v → (IsFresh w.role → ⊥)
      → ((j : ℕ) (u : Sight B E) → get_elem? vs j ≡ some u → IsFresh u.role → length vs ≡ 1)
      → (j : ℕ) (u : Sight B E) → get_elem? (set vs id w) j ≡ some u → IsFresh u.role → ⊥
  none_fresh_set vs id v w at stale lonely =
      each_set (λ u. IsFresh u.role → ⊥) vs id w stale
      (λ j u other there fresh. let one = lonely j u there fresh in let a = at_bound vs j u there in let b = at_bound vs id v at in other (omega arith))

  pub own_set : (founding now later : ℕ) (vs : List (Sight B E)) (id : ℕ) (v w : Sight B E) → get_elem? vs id ≡ some v → now ≤ later
      → ((n : ℕ) → times n w.own ≡ times n v.own) → OwnOnce founding now vs → OwnOnce founding later (set vs id w)
  own_set founding now later vs id v w at up same old n =
      let f : Sight B E → ℕ = λ u. times n u.own in
      let p : total f (set vs id w) + times n v.own ≡ total f vs + times n w.own = total_set f vs id v w at in
      let q = same n in
      let e : total f (set vs id w) ≡ total f vs = omega arith in
      let o = old n in
      (subst (λ (k : ℕ). k ≤ 1) (sym e) o.0, (λ l. e ∙ o.1 l), (λ l. e ∙ o.2 (omega arith)))

  pub inside_set : (vs : List (Sight B E)) (id : ℕ) (v w : Sight B E) → get_elem? vs id ≡ some v → w.inside ≡ v.inside
      → total counts_inside (set vs id w) ≡ total counts_inside vs
  inside_set vs id v w at same =
      let p = total_set counts_inside vs id v w at in let q : counts_inside w ≡ counts_inside v = ap (λ b. Rattle.std.proofs.Common.cond b 1 0) same in
      let p' : total counts_inside (set vs id w) + counts_inside v ≡ total counts_inside vs + counts_inside w = p in omega arith

module _ {B E F : Type 0} (stands : B → List E → Type 0) (fixed : B → F) (origin : Origin B) where
  abbrev pub S : Type 0
  S = Sight B E

  abbrev pub Homes : Type 0
  Homes = List (maybe.Option (Option B))

  abbrev pub Rule : State (Option B) S → Type 0
  Rule = Kept stands fixed origin

  abbrev pub Line : List E → ℕ → ℕ → List E → Role B → Type 0
  Line = InLine stands fixed origin

  abbrev pub Slot : Homes → List E → List S → Type 0
  Slot = IsHomeOrAway stands fixed origin

  -- whoever has the turn has the ticket that serving names
  pub turn_serves : (history : List E) (tickets serving : ℕ) (seen : List E) (role : Role B) → Line history tickets serving seen role → HasTurn role → HasTicket serving role
  turn_serves history tickets serving seen Fresh line turn = absurd turn
  turn_serves history tickets serving seen Idle line turn = absurd turn
  turn_serves history tickets serving seen (Waits t) line turn = absurd turn
  turn_serves history tickets serving seen (Took t value) line turn = line.0
  turn_serves history tickets serving seen (Looked t) line turn = line.0

  -- the line of a view behind the turn, after a step of whoever has the turn
  pub behind : (history later : List E) (tickets more serving next : ℕ) (seen : List E) (role : Role B) → tickets ≤ more → next ≤ serving + 1
      → (HasTicket serving role → ⊥) → Line history tickets serving seen role → Line later more next seen role
  behind history later tickets more serving next seen Fresh up by other line = tt
  behind history later tickets more serving next seen Idle up by other line = tt
  behind history later tickets more serving next seen (Waits t) up by other line =
      let a = line.0 in let b = line.1 in (dite (ℕ_discrete t serving) (λ (e : t ≡ serving). absurd (other e)) (λ (e : t ≢ serving). let c : next ≤ t = omega arith in c), omega arith)
  behind history later tickets more serving next seen (Took t value) up by other line = absurd (other line.0)
  behind history later tickets more serving next seen (Looked t) up by other line = absurd (other line.0)

  -- the line of a view when one more ticket is drawn
  pub lengthens : (history : List E) (tickets more serving : ℕ) (seen : List E) (role : Role B) → tickets ≤ more
      → Line history tickets serving seen role → Line history more serving seen role
  lengthens history tickets more serving seen Fresh up line = tt
  lengthens history tickets more serving seen Idle up line = tt
  lengthens history tickets more serving seen (Waits t) up line = let a = line.0 in let b = line.1 in (a, omega arith)
  lengthens history tickets more serving seen (Took t value) up line = let b = line.1 in (line.0, omega arith, line.2)
  lengthens history tickets more serving seen (Looked t) up line = let b = line.1 in (line.0, omega arith, line.2)

  -- the slot, at a step of a view that neither takes nor gives back the turn
  pub slot_set : (homes : Homes) (history : List E) (vs : List S) (id : ℕ) (v w : S) → get_elem? vs id ≡ some v → (HasTurn w.role → HasTurn v.role) → (HasTurn v.role → HasTurn w.role)
      → Slot homes history vs → Slot homes history (set vs id w)
  slot_set homes history vs id v w at back forth =
      ⊎_elim
      (λ (t : (value : B) × (homes ≡ some (Some value) ∷ []) × Serves stands fixed origin history value × NoneHasTurn vs).
      inl (t.0, t.1, t.2, each_set (λ u. HasTurn u.role → ⊥) vs id w (λ turn. t.3 id v at (back turn)) (λ j u _ there. t.3 j u there)))
      (λ (t : (homes ≡ none ∷ []) × SomeHasTurn vs). inr (
        t.0,
        dite (ℕ_discrete t.1.0 id)
            (λ (e : t.1.0 ≡ id).
            let same : t.1.1 ≡ v = some-injective _ _ (sym t.1.2 ∙ (ap (λ (k : ℕ). get_elem? vs k) e ∙ at)) in
            (id, w, set_here vs id w (at_bound vs id v at), forth (subst (λ (z : S). HasTurn z.role) same t.1.3)))
            (λ (e : t.1.0 ≢ id). (t.1.0, t.1.1, set_else vs id t.1.0 w e ∙ t.1.2, t.1.3)),
      ))

  module _ (s : State (Option B) S) (r : Rule s) where
    abbrev pub words_of : List ℕ
    words_of = r.tickets ∷ r.serving ∷ length r.history ∷ r.load ∷ []

    -- a step of the view v at id, which becomes w
    pub step_of : (id : ℕ) (v w : S) (tickets serving load : ℕ) (history : List E) (homes : Homes) → get_elem? s.views id ≡ some v
        → Begins r.history history → length history + 1 < 2 ^ 64 → (serving ≤ tickets) × (tickets < 2 ^ 64)
        → Slot homes history (set s.views id w) → Knows stands fixed origin history tickets serving w
        → ((j : ℕ) (u : S) → j ≢ id → get_elem? s.views j ≡ some u → Line history tickets serving u.seen u.role)
        → HasItAlone s.views id w → (IsFresh w.role → ⊥) → OwnOnce origin.length (length history) (set s.views id w)
        → load ≡ total counts_inside (set s.views id w) % 2 ^ 64
        → Rule record { words = tickets ∷ serving ∷ length history ∷ load ∷ []; homes = homes; views = set s.views id w }
    step_of id v w tickets serving load history homes at up short order slot known others alone stale own inside = record {
      tickets = tickets;
      serving = serving;
      load = load;
      history = history;
      founding = r.founding;
      words = refl;
      founder = r.founder;
      grown = begins_along r.founding r.history history r.grown up;
      short = short;
      order = order;
      each = each_set (Knows stands fixed origin history tickets serving) s.views id w known (λ j u other there. let k = r.each j u there in record {
        origin_is = k.origin_is;
        seen = begins_along u.seen r.history history k.seen up;
        told = begins_along u.told r.history history k.told up;
        in_line = others j u other there;
      });
      one_each = one_each_set s.views id w r.one_each alone;
      slot = slot;
      own = own;
      inside = inside;
      fresh = λ j u e fresh. absurd (none_fresh_set s.views id v w at stale (λ i x there f. (r.fresh i x there f).0) j u e fresh);
    }

    -- nothing changes
    pub stays : (id : ℕ) (v : S) → get_elem? s.views id ≡ some v → Rule record { words = words_of; homes = s.homes; views = set s.views id v }
    stays id v at = subst (λ (t : List ℕ × List S). Rule record { words = t.0; homes = s.homes; views = t.1 }) (λ i. (r.words i, sym (set_again s.views id v at) i)) r
