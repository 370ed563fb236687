-- the statements still to come decide as all do
use Rattle.std.proofs.Common.{◌≡◌, false, drop}
use Rattle.ext_mean.specs.Items.{last_is_return}
use Rattle.ext_types.proofs.functions.ends_with_return.Given as goal

abbrev pub invariant-loop-statement : goal.invariant-loop-statement
invariant-loop-statement l = last_is_return l.returns (drop l.statement-index l.statement-items) ≡ last_is_return false l.statement-items
