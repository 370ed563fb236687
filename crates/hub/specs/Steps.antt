-- What each step tells the seat that makes it: what its view becomes, and what it then knows. `n` is the number found in the word.
use Rattle.std.specs.Prelude.{◌≡◌, ◌≢◌, ℕ, ◌+◌, ◌-◌, ◌%◌, ◌^◌, ◌<◌, List, [], ◌∷◌, ◌++◌, length, min, Option, Some, None, true, false}
use Rattle.atomic_table.specs.Table.{Me, Step, rest}
use Rattle.hub.specs.Histories.{Begins, longer, AreOwn}
use Rattle.hub.specs.declared.sight.Origin.{Origin}
use Rattle.hub.specs.declared.sight.Sight.{Sight}
use Rattle.hub.specs.declared.sight.Role.{Role}
use Rattle.hub.specs.declared.sight.Role.TheVariants.{Fresh, Idle, Waits, Took, Looked}

abbrev pub Seated : Type 0 → Type 0 → Type 0
Seated B E = Me (Option B) (Sight B E)

-- the load word as a pass shows it: at most 2^32 - 1
abbrev pub capped : ℕ → ℕ
capped load = min load 4294967295

-- whoever took the value out has looked
abbrev pub after_look : {B : Type 0} → Role B → Role B
after_look Fresh = Idle
after_look Idle = Idle
after_look (Waits t) = Waits t
after_look (Took t value) = Looked t
after_look (Looked t) = Looked t

module _ {B E : Type 0} where
  abbrev pub with_role : Role B → Sight B E → Sight B E
  with_role role v = record v { role = role }

  -- draw a ticket
  abbrev pub drawn : Step (Option B) → Seated B E → ℕ → Seated B E → Type 0
  drawn st me n me' = (n ≡ st.first → me' ≡ (with_role (Waits n) me.0, me.1)) × (n ≢ st.first → me' ≡ me)

  -- append: the history seen is one entry longer, and that entry's number is own. The value in hand stands for it
  abbrev pub appended : (B → List E → Type 0) → Step (Option B) → Seated B E → ℕ → Seated B E → Type 0
  appended stands st me n me' =
      (e : E)
      × (let v : Sight B E = me.0 in me' ≡ (record v { seen = v.seen ++ e ∷ []; own = v.own ++ length v.seen ∷ [] }, me.1))
      × ((value : B) → me.1 ≡ (0, Some value) ∷ [] → stands value (me.0.seen ++ e ∷ []))

  -- hand on the turn, with the slot
  abbrev pub handed_on : Step (Option B) → Seated B E → ℕ → Seated B E → Type 0
  handed_on st me n me' =
      (me' ≡ (with_role Idle me.0, rest me.1))
      × ((origin : Origin B) → me.0.origin ≡ Some origin → AreOwn origin.length me.0.own)

  -- a look at the length after a join: the longer of two histories was seen
  abbrev pub settled : Step (Option B) → Seated B E → ℕ → Seated B E → Type 0
  settled st me n me' =
      (let v : Sight B E = me.0 in me' ≡ (record v { seen = longer v.seen v.told; told = [] }, me.1))
      × Begins me.0.seen (longer me.0.seen me.0.told)
      × Begins me.0.told (longer me.0.seen me.0.told)
      × ((origin : Origin B) → me.0.origin ≡ Some origin → AreOwn origin.length me.0.own)

  abbrev pub entered : Step (Option B) → Seated B E → ℕ → Seated B E → Type 0
  entered st me n me' = let v : Sight B E = me.0 in me' ≡ (record v { inside = true; met = (n + 1) % 2 ^ 64 }, me.1)

  abbrev pub left : Step (Option B) → Seated B E → ℕ → Seated B E → Type 0
  left st me n me' = let v : Sight B E = me.0 in me' ≡ (record v { inside = false; met = (n + (2 ^ 64 - 1)) % 2 ^ 64 }, me.1)

  -- a look at the load
  abbrev pub weighed : Step (Option B) → Seated B E → ℕ → Seated B E → Type 0
  weighed st me n me' = let v : Sight B E = me.0 in me' ≡ (record v { shown = Some (capped n) }, me.1)

  -- split: the new view has seen the same, and nothing else
  abbrev pub split_off : Sight B E → Sight B E
  split_off v = record v { told = []; role = Idle; own = []; inside = false; shown = None; met = 0 }

  -- join: the one view was told what the other has seen, and has the own numbers of both
  abbrev pub joined : Sight B E → Sight B E → Sight B E
  joined v w = record v { told = w.seen; own = v.own ++ w.own }

  -- the view of a seat that was joined to another
  abbrev pub spent : Sight B E
  spent = record { origin = None; seen = []; told = []; role = Idle; own = []; inside = false; shown = None; met = 0 }

module _ {B E F : Type 0} (fixed : B → F) where
  -- the value has the fixed part of the founder that the view knows
  abbrev pub HasFixedPart : B → Sight B E → Type 0
  HasFixedPart value v = (origin : Origin B) → v.origin ≡ Some origin → fixed value ≡ fixed origin.value.value

  -- look at serving: with the ticket that is served comes the slot, and a value with the founder's fixed part
  abbrev pub called : Step (Option B) → Seated B E → ℕ → Seated B E → Type 0
  called st me n me' =
      (t : ℕ) → me.0.role ≡ Waits t
      → (n ≡ t →
      (value : B)
      × (me' ≡ (with_role (Took t value) me.0, (0, Some value) ∷ me.1))
      × ((origin : Origin B) → me.0.origin ≡ Some origin → fixed value ≡ fixed origin.value.value))
      × (n ≢ t → me' ≡ me)

module _ {B E : Type 0} (stands : B → List E → Type 0) where
  -- look at the length: the whole history was seen. The value that was taken stands for it; who had looked had seen it all
  abbrev pub looked : Step (Option B) → Seated B E → ℕ → Seated B E → Type 0
  looked st me n me' =
      (history : List E)
      × (let v : Sight B E = me.0 in me' ≡ (record v { seen = history; role = after_look v.role }, me.1))
      × Begins me.0.seen history
      × (n ≡ length history)
      × (length history + 1 < 2 ^ 64)
      × ((t : ℕ) (value : B) → me.0.role ≡ Took t value → stands value history)
      × ((t : ℕ) → me.0.role ≡ Looked t → history ≡ me.0.seen)
      × (me.0.role ≡ Fresh → (origin : Origin B) → me.0.origin ≡ Some origin
      → stands origin.value.value history × (length history ≡ origin.length))
