-- The values that wait, by their depth.
use Rattle.std.specs.Prelude.{ℕ, List, slice_get, unwrap_or}
use Rattle.ext_mean.specs.declared.state.Value.{Value}
use Rattle.ext_mean.specs.MeaningValues.{nothing}

-- the value so many below the last one
abbrev pub at_depth : ℕ → List Value → Value
at_depth depth stack = unwrap_or (slice_get stack depth) nothing
