-- A sound journal under audit is legal.
use Rattle.std.proofs.Common.{ℕ, true, List}
use Rattle.records.specs.GrantsList.{GrantsList}
use Rattle.journal.specs.declared.entry.Entry.{Entry}
use Rattle.journal.specs.declared.entry.Entry.TheVariants.{Invoke, Put, Install}
use Rattle.journal.specs.declared.entry.Home.TheVariants.{Server, Client}
use Rattle.journal.specs.Legal.{Legal, LegalAt}
use Rattle.journal.proofs.Committing.{honest-legal}
use Rattle.book.specs.Standing.{IsSound, SoundAt}

legal-at : (grants : GrantsList) (before : List Entry) (entry : Entry) → SoundAt grants true before entry → LegalAt grants before entry
legal-at grants before (Invoke call outcome writes reads Server) sound = sound
legal-at grants before (Invoke call outcome writes reads Client) sound =
    honest-legal grants before call sound.program reads outcome writes sound.names sound.current sound.honest
legal-at grants before (Put tenant table key value) sound = tt
legal-at grants before (Install tenant text) sound = tt

pub sound-legal : {grants : GrantsList} {limit : ℕ} {journal : List Entry} → IsSound grants limit true journal → Legal grants journal
sound-legal {grants} {limit} {journal} sound i entry from found = legal-at grants _ entry (sound.sound i entry from found)
