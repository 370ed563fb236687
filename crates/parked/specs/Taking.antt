-- When what a client sent for its parked call is taken, and why it is refused.
use Rattle.std.specs.Prelude.{Bool, true, false, ◌||◌, List, [], ◌∷◌, length, map, nat_lt, Option, Some, None, if◌then◌else◌}
use Rattle.std.specs.List.{list_any}
use Rattle.sp_base.specs.Places.{Place, same_place}
use Rattle.sp_base.specs.RightsList.{can_write}
use Rattle.sp_base.specs.declared.limits.TheConstants.{MOST_WRITES}
use Rattle.sp_base.specs.declared.numbers.TableId.{TableId}
use Rattle.sp_base.specs.declared.outcomes.Outcome.{Outcome}
use Rattle.sp_base.specs.declared.rights.Level.{Level}
use Rattle.sp_base.specs.declared.writes.Write.{Write}
use Rattle.ext_mean.specs.MeaningValues.{place_changed}
use Rattle.rw_set.specs.Sending.{is_done}
use Rattle.parked.specs.declared.refused.Refused.{Refused}
use Rattle.parked.specs.declared.refused.Refused.TheVariants.{Shape, Foreign}

-- whether a place stands twice in a list
abbrev pub stands_twice : List Place → Bool
stands_twice [] = false
stands_twice (place ∷ places) = list_any (same_place place) places || stands_twice places

-- whether a run has changes though it did not come to its end
abbrev pub changes_unfinished : Outcome → List Write → Bool
changes_unfinished outcome [] = false
changes_unfinished outcome (write ∷ writes) = if is_done outcome then false else true

-- the first write in a table that the rights do not let be written
abbrev pub foreign_in : List (TableId × Level) → List Write → Option Refused
foreign_in rights [] = None
foreign_in rights (write ∷ writes) =
    if can_write rights write.table.0 then foreign_in rights writes else Some (Foreign write.table)

-- The first of these that applies: more than 64 writes; two writes of one place; writes beside an
-- outcome other than Done; a write in a table that the rights do not let be written.
abbrev pub refusal_of : List (TableId × Level) → Outcome → List Write → Option Refused
refusal_of rights outcome writes =
    if nat_lt MOST_WRITES (length writes) then Some (Shape 1)
    else if stands_twice (map place_changed writes) then Some (Shape 2)
    else if changes_unfinished outcome writes then Some (Shape 3)
    else foreign_in rights writes
