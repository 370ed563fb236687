-- the last of those that are left is the last of all
use Rattle.std.proofs.Common.{◌≡◌}
use Rattle.gen_code.specs.Codes.{number_below}
use Rattle.gen_compile.proofs.names.last_named.Given as goal

abbrev pub invariant-loop-left : goal.invariant-loop-left
invariant-loop-left l = number_below l.functions l.left l.name ≡ number_below l.fn.callees.functions.now l.fn.callees.count l.name

abbrev pub decreases-loop-left : goal.decreases-loop-left
decreases-loop-left l = l.left
