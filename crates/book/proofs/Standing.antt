-- What is said of the book's own list holds of each list for which the book stands.
use Rattle.std.proofs.Common.{List, refl, sym, subst}
use Rattle.journal.specs.declared.entry.Entry.{Entry}
use Rattle.book.specs.Standing.{BookValue, IsSound, StandsFor}

-- a book that is sound stands for its list
pub stands-own : (book : BookValue) → IsSound book.grants book.limit book.audit book.journal → StandsFor book book.journal
stands-own book sound = record { is = refl; sound = sound }

-- what holds of the book's list
pub of-stands : {book : BookValue} {journal : List Entry} (P : List Entry → Type 0) → StandsFor book journal → P book.journal → P journal
of-stands {book} {journal} P stands own = subst P stands.is own

-- the book's own list is sound where it stands for any
pub own-sound : {book : BookValue} {journal : List Entry} → StandsFor book journal → IsSound book.grants book.limit book.audit book.journal
own-sound {book} {journal} stands = subst (λ (list : List Entry). IsSound book.grants book.limit book.audit list) (sym stands.is) stands.sound
