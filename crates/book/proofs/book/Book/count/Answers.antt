-- A tenant has at most as many extensions as the journal has entries.
use Rattle.std.proofs.Common.{ap, arith, length}
use Rattle.journal.proofs.Behind.{texts_of-few}
use Rattle.book.proofs.book.Book.count.Goals as goal

pub overflow_cast-result : goal.overflow_cast-result
overflow_cast-result c =
    let indexes = c.self.invariant.1 in
    let sound = c.self.invariant.0 in
    omega (arith, c.count.ensures, ap length (indexes.texts c.args.tenant), texts_of-few c.self.inside.journal.entries c.args.tenant, sound.few, sound.most)
