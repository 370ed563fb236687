use Rattle.std.proofs.Common.{◌∙◌}
use Rattle.ext_borrow.proofs.TableLemmas.{row-pushed}
use Rattle.ext_borrow.proofs.table.loans.Goals as goal

pub loop-buffer-preserved : goal.loop-buffer-preserved
loop-buffer-preserved c =
    row-pushed c.args.gifts.now c.args.count c.loop-buffer.buffer c.loop-buffer.loans.items c.push.new.self.items c.in_ok-borrowers.field-0 c.loop-buffer-test.true c.in_ok-push.ensures.items c.in_ok-borrowers.ensures ∙ c.loop-buffer.invariant
