-- What contracts see of a journal, and what every one keeps.
use Rattle.std.specs.Prelude.{◌≡◌, ◌≤◌, ℕ, List, length}
use Rattle.sp_base.specs.declared.limits.TheConstants.{MOST_ENTRIES, MOST_JOURNAL}
use Rattle.journal.specs.declared.entry.Entry.{Entry}
use Rattle.journal.specs.Sizes.{size_of}

-- its entries, the most that it may have, and for how many more there is room in memory
pub record JournalValue : Type 0 where
  pub entries : List Entry
  pub limit : ℕ
  pub spare : ℕ

-- the entries are within their number and their bytes, and these are counted
pub record IsCounted (limit size : ℕ) (entries : List Entry) : Type 0 where
  pub most : limit ≤ MOST_ENTRIES
  pub few : length entries ≤ limit
  pub size_is : size ≡ size_of entries
  pub small : size_of entries ≤ MOST_JOURNAL
