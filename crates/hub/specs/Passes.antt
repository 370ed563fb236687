-- What clauses see of a hub and of a pass.
use Rattle.std.specs.Prelude.{◌≡◌, ◌⊎◌, ℕ, ◌+◌, ◌^◌, ◌<◌, List, [], ◌∷◌, ◌++◌, length, Option, Some, None, Bool, true, false}
use Rattle.atomic_table.specs.Seated.{TableId}
use Rattle.hub.specs.declared.sight.Origin.{Origin}
use Rattle.hub.specs.declared.sight.Sight.{Sight}
use Rattle.hub.specs.declared.sight.Role.{Role}
use Rattle.hub.specs.declared.sight.Role.TheVariants.{Fresh, Idle, Waits, Took, Looked}
use Rattle.hub.specs.Steps.{Seated}

-- Which hub it is, and what it was founded with
pub record HubView (B : Type 0) : Type 0 where
  pub id : TableId
  pub origin : Origin B

-- A pass of a hub: the history that it has seen, the numbers of the entries that it appended, whether it has the value out,
-- whether it is inside, the load that it shows, and the load word after its last step on that word
pub record PassView (B E : Type 0) : Type 0 where
  pub id : TableId
  pub origin : Option (Origin B)
  pub seen : List E
  pub own : List ℕ
  pub out : Bool
  pub inside : Bool
  pub shown : Option ℕ
  pub met : ℕ

-- a table with the words and the slot of a hub
abbrev pub IsHubTable : TableId → Type 0
IsHubTable table = (table.words ≡ 4) × (table.slots ≡ 1)

-- a seat at such a table
abbrev pub IsAtHub : TableId → TableId → Type 0
IsAtHub seat table = (seat ≡ table) × IsHubTable table

-- the value that the hub was founded with
abbrev pub founder : {B : Type 0} → HubView B → B
founder hub = hub.origin.value.value

abbrev pub IsPassOf : {B E : Type 0} → HubView B → PassView B E → Type 0
IsPassOf hub pass = (pass.id ≡ hub.id) × (pass.origin ≡ Some hub.origin)

abbrev pub is_out : {B : Type 0} → Role B → Bool
is_out Fresh = false
is_out Idle = false
is_out (Waits t) = false
is_out (Took t value) = false
is_out (Looked t) = true

-- Between two calls a seat has no ticket and no slot, or it has the turn and the emptied slot
abbrev pub RestsAs : {B : Type 0} → List (ℕ × Option B) → Role B → Type 0
RestsAs hand Fresh = ⊥
RestsAs hand Idle = hand ≡ []
RestsAs hand (Waits t) = ⊥
RestsAs hand (Took t value) = ⊥
RestsAs hand (Looked t) = hand ≡ (0, None) ∷ []

abbrev pub pass_view : {B E : Type 0} → TableId → Seated B E → PassView B E
pass_view id me = record {
  id = id;
  origin = me.0.origin;
  seen = me.0.seen;
  own = me.0.own;
  out = is_out me.0.role;
  inside = me.0.inside;
  shown = me.0.shown;
  met = me.0.met;
}

-- What may be given back: a value that stands for what was seen, or for that with one more entry, within the length
abbrev pub MayGive : {B E : Type 0} → (B → List E → Type 0) → B → List E → Type 0
MayGive {B} {E} stands value seen =
    (stands value seen × (length seen + 1 < 2 ^ 64))
    ⊎ ((entry : E) × stands value (seen ++ entry ∷ []) × (length seen + 2 < 2 ^ 64))

-- Seen and own numbers are as they were, or both have one more: an entry, and its number
abbrev pub IsGivenBack : {B E : Type 0} → PassView B E → PassView B E → Type 0
IsGivenBack {B} {E} before after =
    ((after.seen ≡ before.seen) × (after.own ≡ before.own))
    ⊎ ((entry : E) × (after.seen ≡ before.seen ++ entry ∷ []) × (after.own ≡ before.own ++ length before.seen ∷ []))

-- A hub that was founded with a value, and its first pass
pub record IsFounded {B E : Type 0} (stands : B → List E → Type 0) (value : B) (hub : HubView B) (pass : PassView B E) : Type 0 where
  pub of : IsPassOf hub pass
  pub founder_is : hub.origin.value.value ≡ value
  pub stands_for : stands value pass.seen
  pub short : length pass.seen + 1 < 2 ^ 64
  pub length_is : length pass.seen ≡ hub.origin.length
  pub is_new : pass ≡ record pass { own = []; out = false; inside = false; shown = None }

-- A seat with the turn that has looked at the length, and its emptied slot
abbrev pub HasOut : {B E : Type 0} → Seated B E → Type 0
HasOut me = (t : ℕ) × (me.0.role ≡ Looked t) × (me.1 ≡ (0, None) ∷ [])

-- The same seat once it has put a value into the slot that stands for all that was seen, which may be one entry longer than before
pub record HasPut {B E : Type 0} (stands : B → List E → Type 0) (value : B) (before after : Seated B E) : Type 0 where
  pub turn : (t : ℕ) × (after.0.role ≡ Looked t)
  pub hand : after.1 ≡ (0, Some value) ∷ []
  pub stands_for : stands value after.0.seen
  pub same : let v : Sight B E = before.0 in after.0 ≡ record v { seen = after.0.seen; own = after.0.own }
  pub given :
      ((after.0.seen ≡ before.0.seen) × (after.0.own ≡ before.0.own))
      ⊎ ((entry : E) × (after.0.seen ≡ before.0.seen ++ entry ∷ []) × (after.0.own ≡ before.0.own ++ length before.0.seen ∷ []))
