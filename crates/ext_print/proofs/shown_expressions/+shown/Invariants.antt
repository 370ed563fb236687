-- The size of the expression, or of the greatest operand, and then what leads to the next.
use Rattle.std.proofs.Common.{◌+◌, ◌*◌, max}
use Rattle.ext_mean.specs.declared.expr.Expr.{size-Expr}
use Rattle.ext_print.proofs.shown_expressions.+shown.Given as goal

abbrev pub decreases-show_expression : goal.decreases-show_expression
decreases-show_expression l = 4 * size-Expr l.expr.now

abbrev pub decreases-show_at_least : goal.decreases-show_at_least
decreases-show_at_least l = 4 * size-Expr l.expr.now + 1

abbrev pub decreases-show_not : goal.decreases-show_not
decreases-show_not l = 4 * size-Expr l.operand.now + 2

abbrev pub decreases-show_sides : goal.decreases-show_sides
decreases-show_sides l = 4 * max (size-Expr l.left.now) (size-Expr l.right.now) + 2

abbrev pub decreases-show_one : goal.decreases-show_one
decreases-show_one l = 4 * size-Expr l.a.now + 1

abbrev pub decreases-show_two : goal.decreases-show_two
decreases-show_two l = 4 * max (size-Expr l.a.now) (size-Expr l.b.now) + 1

abbrev pub decreases-show_three : goal.decreases-show_three
decreases-show_three l =
    4 * max (size-Expr l.a.now) (max (size-Expr l.b.now) (size-Expr l.c.now)) + 1
