-- what is left of a block's items leads to where all of them do
use Rattle.std.proofs.Common.{◌≡◌, drop, take, length, map}
use Rattle.ext_mean.specs.Typing.{in_order, checked}
use Rattle.ext_mean.specs.Progress.{after}
use Rattle.ext_types.specs.Places.{setting}
use Rattle.ext_types.proofs.walk.+walk.Given as goal

abbrev pub invariant-check_block-loop-statement : goal.invariant-check_block-loop-statement
invariant-check_block-loop-statement l = record {
  codes : after l.progress (in_order (map (checked (setting l.place)) (drop l.statement-index l.statement-items)) l.scope.items) ≡ after l.fn.progress (in_order (map (checked (setting l.place)) l.statement-items) l.fn.scope.items);
  outer : take (length l.fn.scope.items) l.scope.items ≡ l.fn.scope.items;
}
