-- the gifts that are left end the round as all do
use Rattle.std.proofs.Common.{◌≡◌, false, drop}
use Rattle.ext_mean.specs.Borrowing.{one_round}
use Rattle.ext_borrow.proofs.table.one_round.Given as goal

abbrev pub invariant-loop-gift : goal.invariant-loop-gift
invariant-loop-gift l = record {
  round : one_round l.buffer (drop l.gift-index l.gifts) l.marks.items ≡ one_round l.buffer l.gifts l.fn.marks.items;
  still : l.changed ≡ false → l.marks.items ≡ l.fn.marks.items;
}
