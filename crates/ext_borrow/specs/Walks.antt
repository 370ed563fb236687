-- Walks through the items of a function.
use Rattle.std.specs.Prelude.{◌≡◌}
use Rattle.ext_mean.specs.Ownership.{Passed}
use Rattle.ext_borrow.specs.declared.state.Walk.{Walk}
use Rattle.ext_mean.specs.Progress.{after}

-- A walk passed some items: it is behind their codes, and what is gone behind them is gone.
pub record Passes (was is : Walk) (passed : Passed) : Type 0 where
  pub codes : is.progress ≡ after was.progress passed.codes
  pub gone : is.gone.items ≡ passed.gone
