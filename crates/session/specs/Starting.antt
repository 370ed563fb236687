-- How the calls of a batch begin.
use Rattle.std.specs.Prelude.{◌≡◌, ℕ, List, [], ◌∷◌, ◌++◌}
use Rattle.std.specs.List.{AllByRecursion}
use Rattle.sp_base.specs.declared.calls.Asked.{Asked}
use Rattle.sp_base.specs.declared.numbers.TenantId.{TenantId}
use Rattle.journal.specs.declared.entry.Entry.{Entry}
use Rattle.journal.specs.Granted.{granted}
use Rattle.task.specs.Extensions.{ExtValue}
use Rattle.task.specs.Turning.{Live, begun}
use Rattle.book.specs.Ends.{NamesExt}
use Rattle.book.specs.Standing.{BookValue}
use Rattle.wire.specs.declared.items.Item.{Item}
use Rattle.wire.specs.declared.items.Item.TheVariants as item
use Rattle.session.specs.declared.batch.Start.{Start}
use Rattle.session.specs.declared.batch.Start.TheVariants as start
use Rattle.session.specs.declared.plan.Begun.{Begun}
use Rattle.session.specs.declared.session.Session.{Session}
use Rattle.session.specs.Batches.{AreFree, AreItems, CanBegin, IsFreeBut, IsItemOf, IsRefusal, IsUnparked, call_of}
use Rattle.session.specs.Standing.{HasBegun, Stands, parked_in, terms_over}
use Rattle.session.specs.States.{State}
use Rattle.session.specs.Waiting.{IsUntold, PlacesRise}

abbrev pub caller_of : Asked → ℕ
caller_of asked = asked.caller

-- a call is refused with this item
pub record IsRefused (session : Session) (book : BookValue) (journal : List Entry) (tenant : TenantId) (earlier : List Asked) (asked : Asked) (given : Item) : Type 0 where
  pub is : (state : State) → Stands session state
      → IsItemOf (terms_over session book) tenant journal state earlier asked given
  pub refusal : IsRefusal given
  pub free : IsFreeBut (parked_in session) earlier asked given

-- a call began as this task
pub record IsBegun (session : Session) (book : BookValue) (journal : List Entry) (tenant : TenantId) (earlier : List Asked) (asked : Asked) (task : Live) : Type 0 where
  pub ext : ExtValue
  pub named : NamesExt journal (call_of tenant asked) ext
  pub task_is : task ≡ begun (call_of tenant asked) ext (granted book.grants journal tenant)
  pub may : (state : State) → Stands session state → CanBegin tenant journal state earlier asked
  pub free : IsUnparked (parked_in session) earlier asked

abbrev pub Starts : Session → BookValue → List Entry → TenantId → List Asked → Asked → Start → Type 0
Starts session book journal tenant earlier asked (start.Refused given) = IsRefused session book journal tenant earlier asked given
Starts session book journal tenant earlier asked (start.Began task) = IsBegun session book journal tenant earlier asked task

-- the item of a call so far: its refusal, or want of memory in the place of its end
abbrev pub item_so_far : Start → Item
item_so_far (start.Refused given) = given
item_so_far (start.Began task) = item.Memory

-- those that began, with one more where the call at this place did
abbrev pub begun_with : List Begun → ℕ → Start → List Begun
begun_with begun_calls place (start.Refused given) = begun_calls
begun_with begun_calls place (start.Began task) = begun_calls ++ record { place = place; task = task } ∷ []

-- each call has its item so far, a refusal, and those that began are tasks in order, which wait for their ends
pub record AllStart (session : Session) (book : BookValue) (journal : List Entry) (tenant : TenantId) (calls : List Asked) (items : List Item) (begun_calls : List Begun) : Type 0 where
  pub each : (state : State) → Stands session state → AreItems (terms_over session book) tenant journal state calls items
  pub refusals : AllByRecursion IsRefusal items
  pub have_begun : AllByRecursion (HasBegun session book.grants journal calls) begun_calls
  pub places : PlacesRise 0 begun_calls
  pub untold : AllByRecursion (λ one. IsUntold items one.place) begun_calls
  pub free : AreFree (parked_in session) calls items
