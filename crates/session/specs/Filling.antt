-- How the items of a batch are filled in as its calls end, and which calls are parked then.
use Rattle.std.specs.Prelude.{◌≡◌, ◌⊎◌, Bool, true, false, List, [], ◌∷◌, ◌++◌, Option, Some, slice_get, slice_set}
use Rattle.rw_set.specs.ReadLists.{IsReadList}
use Rattle.task.specs.Parking.{ParkedCall}
use Rattle.book.specs.declared.ends.CallEnd.{CallEnd}
use Rattle.book.specs.declared.ends.End.{End}
use Rattle.book.specs.declared.ends.End.TheVariants as ended
use Rattle.wire.specs.declared.items.Item.{Item}
use Rattle.wire.specs.declared.items.Item.TheVariants as item
use Rattle.session.specs.Batches.{commit_item, item_of}

-- a call that was handed back is parked, with reads that are within their limits
pub record IsHandedOn (before after : List ParkedCall) (end : End) (parked : ParkedCall) (given : Item) : Type 0 where
  pub told : given ≡ item_of end
  pub parks : after ≡ before ++ parked ∷ []
  pub reads : IsReadList parked.reads

-- how the end of a call is told, and which calls are parked then; a call for which there is no memory is not
abbrev pub IsToldAs : List ParkedCall → List ParkedCall → End → Item → Type 0
IsToldAs before after (ended.Settled commit) given = (given ≡ commit_item commit) × (after ≡ before)
IsToldAs before after (ended.Pushed load spent parked) given =
    ((given ≡ item.Memory) × (after ≡ before)) ⊎ IsHandedOn before after (ended.Pushed load spent parked) parked given
IsToldAs before after ended.Memory given = (given ≡ item.Memory) × (after ≡ before)

-- a call that began waits for its end, with want of memory as its item
abbrev pub waits : Option Item → Bool
waits (Some item.Memory) = true
waits _ = false

-- the end of a call is told where the call waits for it
abbrev pub FillsWhere : Bool → List ParkedCall → List Item → CallEnd → List ParkedCall → List Item → Type 0
FillsWhere true before items one after told =
    (given : Item) × IsToldAs before after one.end given × (told ≡ slice_set items one.place given)
FillsWhere false before items one after told = (after ≡ before) × (told ≡ items)

abbrev pub FillsOne : List ParkedCall → List Item → CallEnd → List ParkedCall → List Item → Type 0
FillsOne before items one after told = FillsWhere (waits (slice_get items one.place)) before items one after told

-- the ends are told one after another
abbrev pub Fills : List ParkedCall → List Item → List CallEnd → List ParkedCall → List Item → Type 0
Fills before items [] after told = (after ≡ before) × (told ≡ items)
Fills before items (one ∷ ends) after told =
    (between : List ParkedCall) × (so_far : List Item) × FillsOne before items one between so_far
    × Fills between so_far ends after told
