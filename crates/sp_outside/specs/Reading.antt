-- What reading a whole input gives, by its answer.
use Rattle.std.specs.Prelude.{◌≡◌, ℕ, ◌+◌, ◌<◌, ◌≤◌, Option, Some, List, [], length, drop}
use Rattle.sp_outside.specs.declared.input.Input.{Input}
use Rattle.sp_outside.specs.declared.input.Input.TheVariants.{Whole, Longer, Failed, Memory}

-- some bytes were taken from the front of the input, and no more than this
pub record TookUpTo (most : ℕ) (input : List ℕ) (after : Option (List ℕ)) : Type 0 where
  pub taken : ℕ
  pub few : taken ≤ most
  pub rest : after ≡ Some (drop taken input)

-- the whole input, and nothing is left
pub record IsWholeInput (bytes input : List ℕ) (after : Option (List ℕ)) : Type 0 where
  pub whole : bytes ≡ input
  pub nothing : after ≡ Some []

-- the input has more than `most` bytes, and the first `most + 1` are gone
pub record IsLongerInput (most : ℕ) (input : List ℕ) (after : Option (List ℕ)) : Type 0 where
  pub more : most < length input
  pub rest : after ≡ Some (drop (most + 1) input)

-- what was read of a source that had this input left
abbrev pub Reads : Input → ℕ → List ℕ → Option (List ℕ) → Type 0
Reads (Whole bytes) most input after = IsWholeInput bytes.items input after
Reads Longer most input after = IsLongerInput most input after
Reads Failed most input after = TookUpTo most input after
Reads Memory most input after = TookUpTo (most + 1) input after

-- a whole input has no more bytes than were asked for
abbrev pub IsWithin : Input → ℕ → Type 0
IsWithin (Whole bytes) most = length bytes.items ≤ most
IsWithin Longer most = Unit {0}
IsWithin Failed most = Unit {0}
IsWithin Memory most = Unit {0}
