-- Views: what a run sees of the tables.
use Rattle.std.specs.Prelude.{◌≡◌, ◌≢◌, ℕ, List, [], ◌∷◌, IsTrue, Option, Some, None, if◌then◌else◌}
use Rattle.sp_base.specs.declared.numbers.TableId.{TableId}
use Rattle.sp_base.specs.declared.rights.Level.{Level}
use Rattle.sp_base.specs.declared.reads.ReadItem.{ReadItem}
use Rattle.sp_base.specs.Places.{Place, Tables, same_place}
use Rattle.sp_base.specs.RightsList.{can_read}

-- A list of rights, and what is known of each readable place: nothing, or its bytes, or that it is
-- absent.
pub record View : Type 0 where
  pub rights : List (TableId × Level)
  pub known : Place → Option (Option (List ℕ))

-- the view that knows all of the tables
abbrev pub whole : Tables → List (TableId × Level) → View
whole tables rights = record { rights = rights; known = λ place. Some (tables place) }

-- the place of a read
abbrev pub place_of : ReadItem → Place
place_of read = record { table = read.table.0; key = read.key }

-- what a list of reads knows of a place: the value of the read there
abbrev pub value_read : List ReadItem → Place → Option (Option (List ℕ))
value_read [] place = None
value_read (read ∷ reads) place =
    if same_place (place_of read) place then Some read.value else value_read reads place

-- the view that knows these reads
abbrev pub part : List ReadItem → List (TableId × Level) → View
part reads rights = record { rights = rights; known = value_read reads }

-- One view knows all that another knows of the places that may be read, alike, with the same rights.
-- Of the others, which both deny, each may know what it likes.
pub record Extends (small large : View) : Type 0 where
  pub rights : large.rights ≡ small.rights
  pub known : (place : Place) → IsTrue (can_read small.rights place.table)
      → small.known place ≢ None → large.known place ≡ small.known place
