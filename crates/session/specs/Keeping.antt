-- The calls that are parked in a session, told apart by their callers.
use Rattle.std.specs.Prelude.{◌≡◌, ◌≢◌, ◌<◌, ℕ, ◌==◌, ◌++◌, Bool, false, List, [], ◌∷◌, length, Option, Some, None, slice_get, if◌then◌else◌}
use Rattle.sp_base.specs.declared.reads.ReadItem.{ReadItem}
use Rattle.task.specs.Parking.{ParkedCall}

abbrev pub is_callers : ℕ → ParkedCall → Bool
is_callers caller parked = parked.call.caller.number == caller

-- the parked call of a caller
abbrev pub call_in : List ParkedCall → ℕ → Option ParkedCall
call_in [] caller = None
call_in (parked ∷ others) caller = if is_callers caller parked then Some parked else call_in others caller

-- at most one call of each caller
abbrev pub IsOfEach : List ParkedCall → Type 0
IsOfEach [] = Unit {0}
IsOfEach (parked ∷ others) = (call_in others parked.call.caller.number ≡ None) × IsOfEach others

-- whether it is a call with this number
abbrev pub has_number : ℕ → Option ParkedCall → Bool
has_number number None = false
has_number number (Some parked) = parked.call.number.0 == number

-- the call of this caller and number is parked
pub record IsParkedAs (parked : List ParkedCall) (caller number : ℕ) (one : ParkedCall) : Type 0 where
  pub found : call_in parked caller ≡ Some one
  pub number_is : one.call.number.0 ≡ number

-- a parked call with one read more
abbrev pub joined : ParkedCall → ReadItem → ParkedCall
joined parked read = record { call = parked.call; ext = parked.ext; reads = parked.reads ++ read ∷ [] }

-- the caller's call stands at this place
pub record StandsAt (parked : List ParkedCall) (caller place : ℕ) : Type 0 where
  pub there : slice_get parked place ≡ call_in parked caller
  pub within : place < length parked

-- this is the caller's parked call then, or none; those of other callers are as they were
pub record Changes (before after : List ParkedCall) (caller : ℕ) (now : Option ParkedCall) : Type 0 where
  pub own : call_in after caller ≡ now
  pub others : (other : ℕ) → other ≢ caller → call_in after other ≡ call_in before other
