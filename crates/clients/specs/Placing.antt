-- How pushed calls are kept: places in their order, of which some are empty, and where each caller's stands.
use Rattle.std.specs.Prelude.{◌≡◌, ◌<◌, ℕ, true, List, [], ◌∷◌, Option, Some, None, slice_get}
use Rattle.sp_base.specs.declared.numbers.Caller.{Caller}
use Rattle.clients.specs.declared.callers.Callers.{Callers}
use Rattle.clients.specs.Numbering.{number_of}
use Rattle.clients.specs.Pushed.{Pushed, is_callers}

-- what stands in the places that are not empty
abbrev pub somes : {A : Type 0} → List (Option A) → List A
somes [] = []
somes (None ∷ places) = somes places
somes (Some x ∷ places) = x ∷ somes places

-- the places before this one are empty
abbrev pub EmptyBelow : List (Option Pushed) → ℕ → Type 0
EmptyBelow places first = (at : ℕ) → at < first → slice_get places at ≡ Some None

-- a call of the caller stands at the place
pub record StandsAt (caller : Caller) (places : List (Option Pushed)) (at : ℕ) : Type 0 where
  pub pushed : Pushed
  pub found : slice_get places at ≡ Some (Some pushed)
  pub own : is_callers caller pushed ≡ true

-- the index tells where each call stands and nothing else, and the places before the first are empty
pub record ArePlaced (places : List (Option Pushed)) (index : Callers) (first : ℕ) : Type 0 where
  pub there : (caller : Caller) (at : ℕ) → number_of index caller ≡ Some at → StandsAt caller places at
  pub known : (at : ℕ) (pushed : Pushed) → slice_get places at ≡ Some (Some pushed)
      → number_of index pushed.call.caller ≡ Some at
  pub empty : EmptyBelow places first

-- the list begins with a call of the caller
pub record BeginsWith (calls : List Pushed) (caller : Caller) : Type 0 where
  pub front : Pushed
  pub rest : List Pushed
  pub is : calls ≡ front ∷ rest
  pub own : caller ≡ front.call.caller
