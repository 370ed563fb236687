-- The rule of the hub: what holds of its words, its slot and all views between any two steps.
-- The words are the ticket word (the next ticket), serving (the ticket that has the turn), the length, and the load.
-- Its seven parts:
--   the history: the length word counts one history, which begins with the founding one, and each view's with it;
--   the tickets: serving is at most the ticket word, each ticket is from serving on and below that word, in one view alone;
--   the turn: who has it has the ticket that serving names;
--   the slot: it is away exactly while a view has the turn, and at home it has a value that stands for the history;
--   the look: who has the turn and has looked at the length since has seen all of the history;
--   the numbers: each is own once in all views together, from the founding length on and below the length word;
--   the load: the load word is the number of views inside, modulo 2^64.
use Rattle.std.specs.Prelude.{◌≡◌, ◌⊎◌, ℕ, ◌+◌, ◌%◌, ◌^◌, ◌<◌, ◌≤◌, List, [], ◌∷◌, length, Option, Some, None, false, cond}
use mathlib.Core.Option.{some, none}
use mathlib.Core.Option as maybe
use lib.ListN.{get_elem?}
use Rattle.atomic_table.specs.Table.{State}
use Rattle.hub.specs.Histories.{Begins, times, total}
use Rattle.hub.specs.declared.sight.Origin.{Origin}
use Rattle.hub.specs.declared.sight.Sight.{Sight}
use Rattle.hub.specs.declared.sight.Role.{Role}
use Rattle.hub.specs.declared.sight.Role.TheVariants.{Fresh, Idle, Waits, Took, Looked}

module _ {B : Type 0} where
  abbrev pub HasTicket : ℕ → Role B → Type 0
  HasTicket t Fresh = ⊥
  HasTicket t Idle = ⊥
  HasTicket t (Waits ticket) = ticket ≡ t
  HasTicket t (Took ticket value) = ticket ≡ t
  HasTicket t (Looked ticket) = ticket ≡ t

  abbrev pub HasTurn : Role B → Type 0
  HasTurn Fresh = ⊥
  HasTurn Idle = ⊥
  HasTurn (Waits ticket) = ⊥
  HasTurn (Took ticket value) = Unit {0}
  HasTurn (Looked ticket) = Unit {0}

  abbrev pub IsFresh : Role B → Type 0
  IsFresh Fresh = Unit {0}
  IsFresh Idle = ⊥
  IsFresh (Waits ticket) = ⊥
  IsFresh (Took ticket value) = ⊥
  IsFresh (Looked ticket) = ⊥

module _ {B E : Type 0} where
  -- 1 for a view that is inside, and 0 for another
  abbrev pub counts_inside : Sight B E → ℕ
  counts_inside v = cond v.inside 1 0

  -- No ticket stands in two views
  abbrev pub OneEach : List (Sight B E) → Type 0
  OneEach views =
      (t i j : ℕ) (v w : Sight B E) → get_elem? views i ≡ some v → get_elem? views j ≡ some w
      → HasTicket t v.role → HasTicket t w.role → i ≡ j

  abbrev pub NoneHasTurn : List (Sight B E) → Type 0
  NoneHasTurn views = (i : ℕ) (v : Sight B E) → get_elem? views i ≡ some v → HasTurn v.role → ⊥

  abbrev pub SomeHasTurn : List (Sight B E) → Type 0
  SomeHasTurn views = (i : ℕ) × (v : Sight B E) × (get_elem? views i ≡ some v) × HasTurn v.role

  -- Each number is own at most once in all views together; none is below the founding length, and none from the length now on
  abbrev pub OwnOnce : ℕ → ℕ → List (Sight B E) → Type 0
  OwnOnce founding now views =
      (n : ℕ) → (total (λ v. times n v.own) views ≤ 1)
      × (n < founding → total (λ v. times n v.own) views ≡ 0)
      × (now ≤ n → total (λ v. times n v.own) views ≡ 0)

module _ {B E F : Type 0} (stands : B → List E → Type 0) (fixed : B → F) (origin : Origin B) where
  -- the value stands for the history and has the founder's fixed part
  abbrev pub Serves : List E → B → Type 0
  Serves history value = stands value history × (fixed value ≡ fixed origin.value.value)

  -- What a view's place in the line says. Who has the turn has the ticket that serving names;
  -- who has looked at the length since has seen all of the history
  abbrev pub InLine : List E → ℕ → ℕ → List E → Role B → Type 0
  InLine history tickets serving seen Fresh = Unit {0}
  InLine history tickets serving seen Idle = Unit {0}
  InLine history tickets serving seen (Waits t) = (serving ≤ t) × (t < tickets)
  InLine history tickets serving seen (Took t value) = (t ≡ serving) × (t < tickets) × Serves history value
  InLine history tickets serving seen (Looked t) = (t ≡ serving) × (t < tickets) × (seen ≡ history)

  -- The slot is at home with a value that stands for the history, or it is away, exactly while some view has the turn
  abbrev pub IsHomeOrAway : List (maybe.Option (Option B)) → List E → List (Sight B E) → Type 0
  IsHomeOrAway homes history views =
      ((value : B) × (homes ≡ some (Some value) ∷ []) × Serves history value × NoneHasTurn views)
      ⊎ ((homes ≡ none ∷ []) × SomeHasTurn views)

-- What holds of each view: it knows the origin, and what it has seen and was told are beginnings of the history
pub record Knows {B E F : Type 0} (stands : B → List E → Type 0) (fixed : B → F) (origin : Origin B) (history : List E) (tickets serving : ℕ) (v : Sight B E) : Type 0 where
  pub origin_is : (known : Origin B) → v.origin ≡ Some known → known ≡ origin
  pub seen : Begins v.seen history
  pub told : Begins v.told history
  pub in_line : InLine stands fixed origin history tickets serving v.seen v.role

-- The whole rule, where the founder stood for `founding`. The view's side of the history, the tickets, the turn and the look is in `Knows`
pub record Kept {B E F : Type 0} (stands : B → List E → Type 0) (fixed : B → F) (origin : Origin B) (s : State (Option B) (Sight B E)) : Type 0 where
  pub tickets : ℕ
  pub serving : ℕ
  pub load : ℕ
  pub history : List E
  pub founding : List E
  pub words : s.words ≡ tickets ∷ serving ∷ length history ∷ load ∷ []
  pub each : (i : ℕ) (v : Sight B E) → get_elem? s.views i ≡ some v → Knows stands fixed origin history tickets serving v
  -- the history
  pub founder : stands origin.value.value founding × (length founding ≡ origin.length)
  pub grown : Begins founding history
  pub short : length history + 1 < 2 ^ 64
  -- the tickets
  pub order : (serving ≤ tickets) × (tickets < 2 ^ 64)
  pub one_each : OneEach s.views
  -- the slot
  pub slot : IsHomeOrAway stands fixed origin s.homes history s.views
  -- the numbers
  pub own : OwnOnce origin.length (length history) s.views
  -- the load
  pub inside : load ≡ total counts_inside s.views % 2 ^ 64
  -- before its first look the founding view is alone, and nothing was appended
  pub fresh : (i : ℕ) (v : Sight B E) → get_elem? s.views i ≡ some v → IsFresh v.role → (length s.views ≡ 1) × (history ≡ founding)

-- the first view
abbrev pub founding_sight : {B E : Type 0} → Origin B → Sight B E
founding_sight origin = record { origin = Some origin; seen = []; told = []; role = Fresh; own = []; inside = false; shown = None; met = 0 }
