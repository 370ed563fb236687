-- The size of the expression, or of the greatest operand, and then what leads to the next.
use Rattle.std.proofs.Common.{◌+◌, ◌*◌, max}
use Rattle.ext_mean.specs.declared.expr.Expr.{size-Expr}
use Rattle.gen_compile.proofs.values.+value.Given as goal

abbrev pub decreases-write_value : goal.decreases-write_value
decreases-write_value l = 8 * size-Expr l.expression.now

abbrev pub decreases-write_one : goal.decreases-write_one
decreases-write_one l = 8 * size-Expr l.operand.now + 1

abbrev pub decreases-write_two : goal.decreases-write_two
decreases-write_two l = 8 * max (size-Expr l.operands.0.now) (size-Expr l.operands.1.now) + 2

abbrev pub decreases-write_three : goal.decreases-write_three
decreases-write_three l =
    8 * max (size-Expr l.operands.0.now) (max (size-Expr l.operands.1.now) (size-Expr l.operands.2.now)) + 3

abbrev pub decreases-write_sides : goal.decreases-write_sides
decreases-write_sides l = 8 * max (size-Expr l.left.now) (size-Expr l.right.now) + 2

abbrev pub decreases-write_both : goal.decreases-write_both
decreases-write_both l = 8 * max (size-Expr l.left.now) (size-Expr l.right.now) + 1

abbrev pub decreases-write_and : goal.decreases-write_and
decreases-write_and l = 8 * max (size-Expr l.left.now) (size-Expr l.right.now) + 1

abbrev pub decreases-write_or : goal.decreases-write_or
decreases-write_or l = 8 * max (size-Expr l.left.now) (size-Expr l.right.now) + 1
