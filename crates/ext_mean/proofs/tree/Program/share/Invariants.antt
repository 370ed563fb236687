-- What has been copied so far.
use Rattle.std.proofs.Common.{◌≡◌, take}
use Rattle.ext_mean.proofs.tree.Program.share.Given as goal

abbrev pub invariant-loop-function : goal.invariant-loop-function
invariant-loop-function l = l.functions ≡ take l.function-index l.function-items
