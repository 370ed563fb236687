-- The calls of a batch that wait for their ends, and the items that tell the ends that have come.
use Rattle.std.specs.Prelude.{◌≡◌, ◌≤◌, ℕ, ◌==◌, ◌+◌, ◌⊎◌, List, [], ◌∷◌, Some, slice_get, if◌then◌else◌}
use Rattle.std.specs.List.{AllByRecursion}
use Rattle.book.specs.declared.ends.CallEnd.{CallEnd}
use Rattle.book.specs.declared.ends.End.{End}
use Rattle.book.specs.declared.ends.End.TheVariants as ended
use Rattle.wire.specs.declared.answers.Answer.{Answer}
use Rattle.wire.specs.declared.answers.Answer.TheVariants as answer
use Rattle.wire.specs.declared.items.Item.{Item}
use Rattle.wire.specs.declared.items.Item.TheVariants as item
use Rattle.session.specs.declared.plan.Begun.{Begun}
use Rattle.session.specs.declared.session.Phase.{Phase}
use Rattle.session.specs.declared.session.Phase.TheVariants as phase
use Rattle.session.specs.declared.session.Session.{Session}
use Rattle.session.specs.Batches.{commit_item, item_of}

-- ---- Waiting

-- the item at this place is want of memory so far
abbrev pub IsUntold : List Item → ℕ → Type 0
IsUntold items place = slice_get items place ≡ Some item.Memory

-- a batch runs, and the call at this place waits for its end
abbrev pub WaitsAt : Phase → ℕ → Type 0
WaitsAt phase.Open place = ⊥
WaitsAt (phase.Running so_far) place = IsUntold so_far.items place
WaitsAt phase.Ended place = ⊥

-- each call that began waits at its place
abbrev pub BegunWait : Session → List Begun → Type 0
BegunWait session begun_calls = AllByRecursion (λ one. WaitsAt session.phase one.place) begun_calls

-- the places of the calls that began rise, from this one on
abbrev pub PlacesRise : ℕ → List Begun → Type 0
PlacesRise from [] = Unit {0}
PlacesRise from (one ∷ begun_calls) = (from ≤ one.place) × PlacesRise (one.place + 1) begun_calls

-- ---- Ends

-- whether it is this place, as a number
abbrev pub is_place : ℕ → ℕ → ℕ
is_place place other = if other == place then 1 else 0

-- how many of these ends have this place
abbrev pub ends_at : ℕ → List CallEnd → ℕ
ends_at place [] = 0
ends_at place (one ∷ ends) = is_place place one.place + ends_at place ends

-- no two ends have the same place
abbrev pub OneOfEach : List CallEnd → Type 0
OneOfEach ends = (place : ℕ) → ends_at place ends ≤ 1

-- the call at the place of each end waits for it
abbrev pub AreAwaited : Session → List CallEnd → Type 0
AreAwaited session ends = AllByRecursion (λ one. WaitsAt session.phase one.place) ends

-- ---- Telling

-- the item tells the end; a call that was handed back may lack the memory to be parked
abbrev pub TellsEnd : End → Item → Type 0
TellsEnd (ended.Settled commit) given = given ≡ commit_item commit
TellsEnd (ended.Pushed load spent parked) given = (given ≡ item_of (ended.Pushed load spent parked)) ⊎ (given ≡ item.Memory)
TellsEnd ended.Memory given = given ≡ item.Memory

-- at the place of the end stands an item that tells it
pub record IsToldIn (items : List Item) (one : CallEnd) : Type 0 where
  pub given : Item
  pub there : slice_get items one.place ≡ Some given
  pub tells : TellsEnd one.end given

-- the answer is the items of a batch, and these tell each of the ends
abbrev pub TellsEnds : List CallEnd → Answer → Type 0
TellsEnds ends (answer.Answers items) = AllByRecursion (IsToldIn items) ends
TellsEnds ends _ = ⊥
