-- what the parameters still to come answer is the answer for all
use Rattle.std.proofs.Common.{◌≡◌, drop}
use Rattle.ext_mean.specs.Typing.{repeats}
use Rattle.ext_types.proofs.functions.repeats.Given as goal

abbrev pub invariant-loop-i : goal.invariant-loop-i
invariant-loop-i l = repeats (drop l.i l.params) ≡ repeats l.params
