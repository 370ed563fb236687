-- The journal with the put is sound.
use Rattle.std.proofs.Common.{rules}
use Rattle.book.proofs.Growing.{sound-grown}
use Rattle.book.proofs.Standing.{own-sound}
use Rattle.book.proofs.book.Book.put_native.Goals as goal

pub append-requires-clause-sound : goal.append-requires-clause-sound
append-requires-clause-sound c =
    sound-grown _ _ _ _ _ (own-sound c.journal.ensures) (search rules) c.requires tt tt (search rules)
