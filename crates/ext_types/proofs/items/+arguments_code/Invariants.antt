-- each call has one argument fewer
use Rattle.std.proofs.Common.{length}
use Rattle.ext_types.proofs.items.+arguments_code.Given as goal

abbrev pub decreases-arguments_code : goal.decreases-arguments_code
decreases-arguments_code l = length l.args.now
