-- The size of the tree, or of the greater block, and then what leads to the next; and what the
-- statements that are left add.
use Rattle.std.proofs.Common.{◌≡◌, ◌+◌, ◌*◌, ◌++◌, max, map, drop, take, length}
use Rattle.ext_mean.specs.declared.statement.Statement.{size-Statement}
use Rattle.ext_mean.specs.declared.statement.Block.{size-Block}
use Rattle.gen_code.specs.Codes.{all_declared, all_locals, in_order, statement_code}
use Rattle.gen_compile.proofs.blocks.+block.Given as goal

abbrev pub decreases-write_statement : goal.decreases-write_statement
decreases-write_statement l = 8 * size-Statement l.statement.now

abbrev pub decreases-write_block : goal.decreases-write_block
decreases-write_block l = 8 * size-Block l.block.now

abbrev pub decreases-write_found : goal.decreases-write_found
decreases-write_found l = 8 * size-Block l.yes.now + 1

abbrev pub decreases-write_while : goal.decreases-write_while
decreases-write_while l = 8 * size-Block l.body.now + 1

abbrev pub decreases-write_if : goal.decreases-write_if
decreases-write_if l = 8 * max (size-Block l.yes.now) (size-Block l.no.now) + 1

abbrev pub decreases-write_get : goal.decreases-write_get
decreases-write_get l = 8 * max (size-Block l.yes.now) (size-Block l.no.now) + 2

abbrev pub decreases-write_multi : goal.decreases-write_multi
decreases-write_multi l = 8 * max (size-Block l.yes.now) (size-Block l.no.now) + 3

abbrev pub decreases-write_turns : goal.decreases-write_turns
decreases-write_turns l = 8 * max (size-Block l.yes.now) (size-Block l.no.now) + 2

abbrev pub invariant-write_block-loop-statement : goal.invariant-write_block-loop-statement
invariant-write_block-loop-statement l = record {
  ops : l.ops ++ in_order (map (statement_code l.callees.functions.now l.callees.count) (drop l.statement-index l.statement-items)) l.variables.in_scope.items (length l.ops)
      ≡ l.fn.ops ++ in_order (map (statement_code l.callees.functions.now l.callees.count) l.statement-items) l.fn.variables.in_scope.items (length l.fn.ops);
  scope : l.variables.in_scope.items ++ all_declared (map (statement_code l.callees.functions.now l.callees.count) (drop l.statement-index l.statement-items))
      ≡ l.fn.variables.in_scope.items ++ all_declared (map (statement_code l.callees.functions.now l.callees.count) l.statement-items);
  declared : l.variables.declared + all_locals (map (statement_code l.callees.functions.now l.callees.count) (drop l.statement-index l.statement-items))
      ≡ l.fn.variables.declared + all_locals (map (statement_code l.callees.functions.now l.callees.count) l.statement-items);
  outer : take (length l.fn.variables.in_scope.items) l.variables.in_scope.items ≡ l.fn.variables.in_scope.items;
}
