-- an expression is deeper than its operands, and the forms with several operands stand between
use Rattle.std.proofs.Common.{◌+◌, ◌*◌, max}
use Rattle.ext_mean.specs.declared.expr.Expr.{size-Expr}
use Rattle.ext_eval.proofs.expressions.+evaluate.Given as goal

abbrev pub decreases-evaluate : goal.decreases-evaluate
decreases-evaluate l = 2 * size-Expr l.expression.now

abbrev pub decreases-evaluate_byte : goal.decreases-evaluate_byte
decreases-evaluate_byte l = 2 * max (size-Expr l.bytes.now) (size-Expr l.place.now) + 1

abbrev pub decreases-evaluate_word : goal.decreases-evaluate_word
decreases-evaluate_word l = 2 * max (size-Expr l.bytes.now) (size-Expr l.place.now) + 1

abbrev pub decreases-evaluate_sub : goal.decreases-evaluate_sub
decreases-evaluate_sub l = 2 * max (size-Expr l.bytes.now) (max (size-Expr l.from.now) (size-Expr l.count.now)) + 1

abbrev pub decreases-evaluate_alloc : goal.decreases-evaluate_alloc
decreases-evaluate_alloc l = 2 * max (size-Expr l.table.now) (max (size-Expr l.key.now) (size-Expr l.size.now)) + 1

abbrev pub decreases-evaluate_binary : goal.decreases-evaluate_binary
decreases-evaluate_binary l = 2 * max (size-Expr l.left.now) (size-Expr l.right.now) + 1
