-- What has been copied so far.
use Rattle.std.proofs.Common.{◌≡◌, take}
use Rattle.ext_mean.proofs.share.share_params.Given as goal

abbrev pub invariant-loop-param : goal.invariant-loop-param
invariant-loop-param l = l.copy ≡ take l.param-index l.param-items
