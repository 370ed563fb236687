-- the first variables stay
use Rattle.std.proofs.Common.{◌≡◌, [], length, take}
use Rattle.ext_eval.proofs.locals.forget.Given as goal

abbrev pub invariant-loop-state : goal.invariant-loop-state
invariant-loop-state l = record {
  first : take l.depth l.state.locals ≡ take l.depth l.fn.state.locals;
  others : record l.state { locals = [] } ≡ record l.fn.state { locals = [] };
}

abbrev pub decreases-loop-state : goal.decreases-loop-state
decreases-loop-state l = length l.state.locals
