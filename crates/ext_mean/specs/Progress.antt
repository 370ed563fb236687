-- How far a check has come through the items of a program.
use Rattle.std.specs.Prelude.{ℕ, ◌+◌, List, length, Option, Some, None}
use Rattle.ext_mean.specs.Items.{first_fault}
use Rattle.ext_mean.specs.declared.progress.Progress.{Progress}

-- behind items with these codes
abbrev pub after : {C : Type 0} → Progress C → List (Option C) → Progress C
after progress codes = record {
  item = progress.item + length codes;
  found = first_fault progress.found progress.item codes;
}

-- in front of all items
abbrev pub start : {C : Type 0} → Progress C
start = record { item = 0; found = None }

-- behind one item, with nothing found
abbrev pub behind : {C : Type 0} → Progress C → Progress C
behind progress = record { item = progress.item + 1; found = None }

-- the first of two faults, if there are any
abbrev pub first_found : {C : Type 0} → Option (ℕ × C) → Option (ℕ × C) → Option (ℕ × C)
first_found None second = second
first_found (Some fault) second = Some fault

-- an item, and items behind it that were gone through apart
abbrev pub joined : {C : Type 0} → Progress C → Progress C → Progress C
joined progress inner = record { item = inner.item; found = first_found progress.found inner.found }
