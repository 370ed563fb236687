-- What a seat's place in the line is between two calls.
use Rattle.std.proofs.Common.{◌≡◌, ℕ, true, false, List, [], ◌∷◌, refl, Option, None}
use Rattle.hub.specs.declared.sight.Role.{Role}
use Rattle.hub.specs.declared.sight.Role.TheVariants.{Fresh, Idle, Waits, Took, Looked}
use Rattle.hub.specs.Rule.{IsFresh}
use Rattle.hub.specs.Passes.{RestsAs, is_out}

module _ {B : Type 0} where
  pub rests_stale : (hand : List (ℕ × Option B)) (role : Role B) → RestsAs hand role → IsFresh role → ⊥
  rests_stale hand Fresh rests fresh = rests
  rests_stale hand Idle rests fresh = fresh
  rests_stale hand (Waits t) rests fresh = fresh
  rests_stale hand (Took t value) rests fresh = fresh
  rests_stale hand (Looked t) rests fresh = fresh

  -- a pass that has the value out
  pub rests_out : (hand : List (ℕ × Option B)) (role : Role B) → RestsAs hand role → is_out role ≡ true → (t : ℕ) × (role ≡ Looked t) × (hand ≡ (0, None) ∷ [])
  rests_out hand Fresh rests out = absurd rests
  rests_out hand Idle rests out = cc
  rests_out hand (Waits t) rests out = absurd rests
  rests_out hand (Took t value) rests out = absurd rests
  rests_out hand (Looked t) rests out = (t, refl, rests)

  -- a pass that has not
  pub rests_home : (hand : List (ℕ × Option B)) (role : Role B) → RestsAs hand role → is_out role ≡ false → (role ≡ Idle) × (hand ≡ [])
  rests_home hand Fresh rests out = absurd rests
  rests_home hand Idle rests out = (refl, rests)
  rests_home hand (Waits t) rests out = absurd rests
  rests_home hand (Took t value) rests out = absurd rests
  rests_home hand (Looked t) rests out = cc
