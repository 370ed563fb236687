-- What has been copied so far.
use Rattle.std.proofs.Common.{◌≡◌, take}
use Rattle.ext_mean.proofs.statement.+share.Given as goal

abbrev pub invariant-Block::share-loop-statement : goal.invariant-Block::share-loop-statement
invariant-Block::share-loop-statement l = l.items ≡ take l.statement-index l.statement-items
