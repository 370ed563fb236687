-- The journal with the run's entry is sound.
use Rattle.std.proofs.Common.{rules}
use Rattle.book.proofs.Growing.{sound-grown}
use Rattle.book.proofs.Standing.{own-sound}
use Rattle.book.proofs.Unmoved.{unmoved-current}
use Rattle.book.proofs.book.Book.settle.Goals as goal

pub append-requires-clause-sound : goal.append-requires-clause-sound
append-requires-clause-sound c =
    let ended = c.args.ended in
    let book = c.args.self.now in
    let joins = c.requires.joins in
    rw c.into_entry-entry.ensures
    (sound-grown _ _ _ _ _ (own-sound c.journal.ensures) (search rules) joins.fits
    (joins.sound (unmoved-current book.journal ended.reads c.requires.still)) c.requires.in_order joins.within)
