-- A sound journal with one more entry.
use Rattle.std.proofs.Common.{◌≡◌, ℕ, Bool, false, List, arith}
use Rattle.std.proofs.lemmas.Grind.{common_steps}
use Rattle.std.proofs.lemmas.List.Sums.{sum_by-append}
use Rattle.records.specs.GrantsList.{GrantsList}
use Rattle.journal.specs.declared.entry.Entry.{Entry}
use Rattle.journal.specs.Legal.{InOrderAt, WithinAt}
use Rattle.journal.specs.Sizes.{EntryFits}
use Rattle.journal.proofs.Growing.{each-grown}
use Rattle.book.specs.Standing.{IsSound, SoundAt}
use Rattle.book.specs.Verdict.{grown, is_full}

-- a sound journal with room for an entry that is right after it is sound with that entry
pub sound-grown : (grants : GrantsList) (limit : ℕ) (audit : Bool) (journal : List Entry) (entry : Entry)
    → IsSound grants limit audit journal → is_full limit journal entry ≡ false
    → EntryFits entry → SoundAt grants audit journal entry → InOrderAt journal entry
    → WithinAt grants journal entry → IsSound grants limit audit (grown journal entry)
sound-grown grants limit audit journal entry sound room fits right in_order within = record {
  granting = sound.granting;
  most = sound.most;
  few = grind (arith, common_steps);
  small = grind (arith, common_steps, sum_by-append);
  fits = each-grown (λ earlier x. EntryFits x) 0 journal entry sound.fits fits;
  sound = each-grown (SoundAt grants audit) 0 journal entry sound.sound right;
  in_order = each-grown InOrderAt 0 journal entry sound.in_order in_order;
  within = each-grown (WithinAt grants) 0 journal entry sound.within within;
}
