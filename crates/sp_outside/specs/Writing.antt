-- What writing a whole text does, by its answer.
use Rattle.std.specs.Prelude.{◌≡◌, ℕ, ◌<◌, Option, Some, List, ◌++◌, length, take}
use Rattle.sp_outside.specs.declared.output.Written.{Written}
use Rattle.sp_outside.specs.declared.output.Written.TheVariants.{Whole, Failed}

-- a prefix of the text, and not all of it, stands behind what was held
pub record HoldsPrefix (held text : List ℕ) (after : Option (List ℕ)) : Type 0 where
  pub taken : ℕ
  pub short : taken < length text
  pub prefix : after ≡ Some (held ++ take taken text)

-- what was written to a sink that held these bytes
abbrev pub Writes : Written → List ℕ → List ℕ → Option (List ℕ) → Type 0
Writes Whole held text after = after ≡ Some (held ++ text)
Writes Failed held text after = HoldsPrefix held text after
