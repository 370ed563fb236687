-- Lists of reads: what is found in them, and what every one keeps.
use Rattle.std.specs.Prelude.{ℕ, ◌≤◌, List, [], ◌∷◌, length, map, Option, Some, None, if◌then◌else◌}
use Rattle.std.specs.List.{AllByRecursion, IsDistinct}
use Rattle.sp_base.specs.Spelling.{FitsOpt}
use Rattle.sp_base.specs.Places.{Place, same_place}
use Rattle.sp_base.specs.declared.limits.TheConstants.{MOST_READS}
use Rattle.sp_base.specs.declared.reads.ReadItem.{ReadItem}
use Rattle.ext_mean.specs.Views.{place_of}

-- the read at a place, where there is one
abbrev pub read_of : List ReadItem → Place → Option ReadItem
read_of [] place = None
read_of (read ∷ reads) place =
    if same_place (place_of read) place then Some read else read_of reads place

-- what every read list keeps: one read for each place, few of them, with values within their limit
pub record IsReadList (reads : List ReadItem) : Type 0 where
  pub distinct : IsDistinct same_place (map place_of reads)
  pub few : length reads ≤ MOST_READS
  pub values : AllByRecursion (λ read. FitsOpt read.value) reads
