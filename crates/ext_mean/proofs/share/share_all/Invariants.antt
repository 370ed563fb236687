-- What has been copied so far.
use Rattle.std.proofs.Common.{◌≡◌, take}
use Rattle.ext_mean.proofs.share.share_all.Given as goal

abbrev pub invariant-loop-expression : goal.invariant-loop-expression
invariant-loop-expression l = l.copy ≡ take l.expression-index l.expression-items
