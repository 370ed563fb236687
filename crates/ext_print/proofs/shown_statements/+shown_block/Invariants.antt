-- The size of the tree, or of the greater block, and then what leads to the next; and what the
-- statements so far and those that are left show.
use Rattle.std.proofs.Common.{◌≡◌, ◌+◌, ◌*◌, ◌++◌, ◌∷◌, [], max, map, drop}
use Rattle.std.specs.List.{flat_map}
use Rattle.ext_mean.specs.declared.statement.Statement.{size-Statement}
use Rattle.ext_mean.specs.declared.statement.Block.{size-Block}
use Rattle.ext_mean.specs.Wording.{close_block}
use Rattle.ext_mean.specs.Canonical.{sentence_shown, braced}
use Rattle.ext_print.proofs.shown_statements.+shown_block.Given as goal

abbrev pub decreases-show_statement : goal.decreases-show_statement
decreases-show_statement l = 4 * size-Statement l.statement.now

abbrev pub decreases-show_block : goal.decreases-show_block
decreases-show_block l = 4 * size-Block l.block.now

abbrev pub decreases-show_else : goal.decreases-show_else
decreases-show_else l = 4 * size-Block l.block.now + 1

abbrev pub decreases-show_while : goal.decreases-show_while
decreases-show_while l = 4 * size-Block l.body.now + 1

abbrev pub decreases-show_if : goal.decreases-show_if
decreases-show_if l = 4 * max (size-Block l.yes.now) (size-Block l.no.now) + 2

abbrev pub decreases-show_arms : goal.decreases-show_arms
decreases-show_arms l = 4 * max (size-Block l.yes.now) (size-Block l.no.now) + 1

abbrev pub decreases-show_get : goal.decreases-show_get
decreases-show_get l = 4 * max (size-Block l.yes.now) (size-Block l.no.now) + 2

abbrev pub decreases-show_multiget : goal.decreases-show_multiget
decreases-show_multiget l = 4 * max (size-Block l.yes.now) (size-Block l.no.now) + 2

abbrev pub invariant-show_block-loop-statement : goal.invariant-show_block-loop-statement
invariant-show_block-loop-statement l =
    l.tokens ++ (flat_map (λ one. one) (map sentence_shown (drop l.statement-index l.statement-items)) ++ close_block ∷ [])
    ≡ l.fn.tokens ++ braced (map sentence_shown l.statement-items)
