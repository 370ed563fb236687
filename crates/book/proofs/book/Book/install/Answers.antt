-- The journal with the extension is sound.
use Rattle.std.proofs.Common.{rules}
use Rattle.book.proofs.Growing.{sound-grown}
use Rattle.book.proofs.Standing.{own-sound}
use Rattle.book.proofs.book.Book.install.Goals as goal

pub add_ext-requires-clause-sound : goal.add_ext-requires-clause-sound
add_ext-requires-clause-sound c =
    sound-grown _ _ _ _ _ (own-sound c.journal.ensures) (search rules) c.is_full_of.ensures.sized tt tt tt
