-- Tables as records at places.
use Rattle.std.specs.Prelude.{ℕ, Bool, List, [], ◌∷◌, Option, Some, None, if◌then◌else◌}
use Rattle.sp_base.specs.declared.numbers.TableId.{TableId}
use Rattle.sp_base.specs.Places.{Place, same_place}
use Rattle.records.specs.declared.stored.Stored.{Stored}

-- what stands at a place: its version and its value, version 0 and nothing where it is absent
pub record Record : Type 0 where
  pub version : ℕ
  pub value : Option (List ℕ)

abbrev pub absent : Record
absent = record { version = 0; value = None }

-- a value that was put under this version
abbrev pub put_record : ℕ → List ℕ → Record
put_record version value = record { version = version; value = Some value }

-- the place of a table's number and a key
abbrev pub place_at : TableId → List ℕ → Place
place_at table key = record { table = table.0; key = key }

abbrev pub stored_place : Stored → Place
stored_place stored = place_at stored.table stored.key

-- whether a record stands at a place
abbrev pub is_at : Place → Stored → Bool
is_at place stored = same_place (stored_place stored) place

-- what contracts see of tables: the records that stand, and for how many more there is room
pub record TablesValue : Type 0 where
  pub stored : List Stored
  pub spare : ℕ

-- what a list of records holds at a place
abbrev pub held_at : List Stored → Place → Record
held_at [] place = absent
held_at (stored ∷ rest) place =
    if is_at place stored then put_record stored.version stored.value
    else held_at rest place

-- what the tables hold at a place
abbrev pub record_in : TablesValue → Place → Record
record_in tables place = held_at tables.stored place
