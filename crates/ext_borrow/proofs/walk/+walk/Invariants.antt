-- What is left of a block's items leads to where all of them do; and each call is of something less
-- deep, or of a block that its caller was given.
use Rattle.std.proofs.Common.{◌≡◌, ◌+◌, ◌*◌, false, drop, take, length, map, max}
use Rattle.ext_mean.specs.declared.statement.Statement.{size-Statement}
use Rattle.ext_mean.specs.declared.statement.Block.{size-Block}
use Rattle.ext_mean.specs.Items.{last_is_return}
use Rattle.ext_mean.specs.Ownership.{owned, pass_in_order}
use Rattle.ext_mean.specs.Progress.{after}
use Rattle.ext_borrow.specs.Scenes.{seen}
use Rattle.ext_borrow.proofs.walk.+walk.Given as goal

abbrev pub invariant-pass_block-loop-statement : goal.invariant-pass_block-loop-statement
invariant-pass_block-loop-statement l = record {
  codes : after l.walk.progress (pass_in_order (map (owned l.loans) (drop l.statement-index l.statement-items)) (seen l.walk.scene) l.walk.gone.items).codes ≡ after l.fn.walk.progress (pass_in_order (map (owned l.loans) l.statement-items) (seen l.fn.walk.scene) l.fn.walk.gone.items).codes;
  gone : (pass_in_order (map (owned l.loans) (drop l.statement-index l.statement-items)) (seen l.walk.scene) l.walk.gone.items).gone ≡ (pass_in_order (map (owned l.loans) l.statement-items) (seen l.fn.walk.scene) l.fn.walk.gone.items).gone;
  returns : last_is_return l.returns (drop l.statement-index l.statement-items) ≡ last_is_return false l.statement-items;
  held : l.walk.scene.held.items ≡ l.fn.walk.scene.held.items;
  outer : take (length l.fn.walk.scene.scope.items) l.walk.scene.scope.items ≡ l.fn.walk.scene.scope.items;
}

abbrev pub decreases-pass_block : goal.decreases-pass_block
decreases-pass_block l = 3 * size-Block l.block.now

abbrev pub decreases-pass_arm : goal.decreases-pass_arm
decreases-pass_arm l = 3 * size-Block l.found.now + 1

abbrev pub decreases-pass_if : goal.decreases-pass_if
decreases-pass_if l = 3 * max (size-Block l.yes.now) (size-Block l.no.now) + 1

abbrev pub decreases-pass_while : goal.decreases-pass_while
decreases-pass_while l = 3 * size-Block l.body.now + 1

abbrev pub decreases-pass_get : goal.decreases-pass_get
decreases-pass_get l = 3 * max (size-Block l.arms.1.now) (size-Block l.arms.2.now) + 2

abbrev pub decreases-pass_multiget : goal.decreases-pass_multiget
decreases-pass_multiget l = 3 * max (size-Block l.arms.1.now) (size-Block l.arms.2.now) + 2

abbrev pub decreases-pass_statement : goal.decreases-pass_statement
decreases-pass_statement l = 3 * size-Statement l.statement.now
