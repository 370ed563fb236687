-- what is left of a block's statements completes what all of them give
use Rattle.std.proofs.Common.{◌≡◌, ◌+◌, ◌++◌, drop, take, length, map}
use Rattle.ext_mean.specs.Borrowing.{count_all, gifts_in_order, giving}
use Rattle.ext_borrow.proofs.giving.+gather.Given as goal

abbrev pub invariant-gather_block-loop-statement : goal.invariant-gather_block-loop-statement
invariant-gather_block-loop-statement l = record {
  gifts : l.gathered.gifts.items ++ gifts_in_order (map giving (drop l.statement-index l.statement-items)) l.scope.items l.gathered.count ≡ l.fn.gathered.gifts.items ++ gifts_in_order (map giving l.statement-items) l.fn.scope.items l.fn.gathered.count;
  count : l.gathered.count + count_all (map giving (drop l.statement-index l.statement-items)) ≡ l.fn.gathered.count + count_all (map giving l.statement-items);
  outer : take (length l.fn.scope.items) l.scope.items ≡ l.fn.scope.items;
}
