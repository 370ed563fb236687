-- How the calls of a batch are answered, each by its item.
use Rattle.std.specs.Prelude.{◌≡◌, ◌≤◌, ◌<◌, ℕ, ◌==◌, ◌||◌, Bool, false, IsTrue, List, [], ◌∷◌, ◌++◌, length, Option, Some, None, nat_lt, slice_get, take}
use Rattle.std.specs.List.{list_any}
use Rattle.sp_base.specs.declared.calls.Asked.{Asked}
use Rattle.sp_base.specs.declared.calls.Call.{Call}
use Rattle.sp_base.specs.declared.limits.TheConstants.{MOST_BUDGET, MOST_PARKED}
use Rattle.sp_base.specs.declared.numbers.TenantId.{TenantId}
use Rattle.sp_base.specs.declared.reads.ReadItem.{ReadItem}
use Rattle.task.specs.Extensions.{ExtValue}
use Rattle.journal.specs.declared.entry.Entry.{Entry}
use Rattle.journal.specs.Folds.{texts_of}
use Rattle.book.specs.declared.answers.Commit.{Commit}
use Rattle.book.specs.declared.answers.Commit.TheVariants as commit
use Rattle.book.specs.declared.ends.End.{End}
use Rattle.book.specs.declared.ends.End.TheVariants as ended
use Rattle.book.specs.Ends.{IsShown, ItemHolds, NamesExt}
use Rattle.wire.specs.declared.items.Item.{Item}
use Rattle.wire.specs.declared.items.Item.TheVariants as item
use Rattle.session.specs.Keeping.{call_in}
use Rattle.session.specs.States.{Kept, State, Terms, kept_of, parked_count, without, without_doubtful}
use Rattle.task.specs.Parking.{ParkedCall}

-- a call that a tenant asks for
abbrev pub call_of : TenantId → Asked → Call
call_of tenant asked = record {
  caller = record { tenant = tenant; number = asked.caller };
  number = asked.number;
  ext = asked.ext;
  budget = asked.budget;
  push_ok = asked.push_ok;
  args = asked.args;
}

-- whether a caller stands among these calls
abbrev pub is_among : List Asked → ℕ → Bool
is_among calls caller = list_any (λ asked. asked.caller == caller) calls

-- a budget is from 1 to 100,000 units
abbrev pub is_bad_budget : ℕ → Bool
is_bad_budget budget = (budget == 0) || nat_lt MOST_BUDGET budget

-- no call of the caller is parked; a doubtful one may be gone
abbrev pub IsFree : Option Kept → Type 0
IsFree None = Unit {0}
IsFree (Some kept) = IsTrue kept.doubtful

-- an item with which a call may be refused before it begins
abbrev pub IsRefusal : Item → Type 0
IsRefusal item.Repeated = Unit {0}
IsRefusal (item.Busy number) = Unit {0}
IsRefusal item.BadBudget = Unit {0}
IsRefusal (item.NoExtension count at) = Unit {0}
IsRefusal item.Memory = Unit {0}
IsRefusal _ = ⊥

-- neither repeated in its batch nor busy
pub record IsAlone (state : State) (earlier : List Asked) (asked : Asked) : Type 0 where
  pub first : is_among earlier asked.caller ≡ false
  pub free : IsFree (kept_of state.kept asked.caller)

-- a call that may begin: none of the refusals is its answer
pub record CanBegin (tenant : TenantId) (journal : List Entry) (state : State) (earlier : List Asked) (asked : Asked) : Type 0 where
  pub alone : IsAlone state earlier asked
  pub budget : is_bad_budget asked.budget ≡ false
  pub there : asked.ext.0 < length (texts_of journal tenant)

-- how a commit is told to the client
abbrev pub commit_item : Commit → Item
commit_item (commit.Committed n outcome) = item.Committed n outcome
commit_item (commit.Stale last at) = item.Stale last at
commit_item (commit.Conflict table key read read_at now now_at) = item.Conflict table key read read_at now now_at
commit_item (commit.Full at) = item.Full at
commit_item commit.Memory = item.Memory

-- how the end of a call is told to the client
abbrev pub item_of : End → Item
item_of (ended.Settled commit) = commit_item commit
item_of (ended.Pushed load spent parked) = item.Pushed load spent parked.reads
item_of ended.Memory = item.Memory

-- The item of a call behind the earlier ones of its batch: the first refusal that applies, or how it
-- ended. Want of memory may come at any time.
pub data IsItemOf (terms : Terms) (tenant : TenantId) (journal : List Entry) (state : State) (earlier : List Asked) (asked : Asked) : Item → Type 0 where
  repeated : IsTrue (is_among earlier asked.caller)
      → IsItemOf terms tenant journal state earlier asked item.Repeated
  busy : (kept : Kept) → is_among earlier asked.caller ≡ false → kept_of state.kept asked.caller ≡ Some kept
      → IsItemOf terms tenant journal state earlier asked (item.Busy kept.parked.call.number)
  bad_budget : IsAlone state earlier asked → IsTrue (is_bad_budget asked.budget)
      → IsItemOf terms tenant journal state earlier asked item.BadBudget
  no_extension : (count moment : ℕ) → IsAlone state earlier asked → is_bad_budget asked.budget ≡ false
      → IsShown journal state.seen moment → count ≡ length (texts_of (take moment journal) tenant) → count ≤ asked.ext.0
      → IsItemOf terms tenant journal state earlier asked (item.NoExtension count moment)
  ends : (end : End) → CanBegin tenant journal state earlier asked
      → ItemHolds terms.grants terms.limit terms.conf.policy journal state.seen (call_of tenant asked) end
      → IsItemOf terms tenant journal state earlier asked (item_of end)
  no_memory : IsItemOf terms tenant journal state earlier asked item.Memory

-- the item of the call at this place of its batch
pub record IsItemAt (terms : Terms) (tenant : TenantId) (journal : List Entry) (state : State) (calls : List Asked) (place : ℕ) (given : Item) : Type 0 where
  pub asked : Asked
  pub at : slice_get calls place ≡ Some asked
  pub is : IsItemOf terms tenant journal state (take place calls) asked given

-- no earlier call of the batch has this caller, and no call of it is parked
pub record IsUnparked (parked : List ParkedCall) (earlier : List Asked) (asked : Asked) : Type 0 where
  pub first : is_among earlier asked.caller ≡ false
  pub free : call_in parked asked.caller ≡ None

-- so of every call but one that is repeated or busy
abbrev pub IsFreeBut : List ParkedCall → List Asked → Asked → Item → Type 0
IsFreeBut parked earlier asked item.Repeated = Unit {0}
IsFreeBut parked earlier asked (item.Busy number) = Unit {0}
IsFreeBut parked earlier asked _ = IsUnparked parked earlier asked

pub record IsFreeAt (parked : List ParkedCall) (calls : List Asked) (place : ℕ) (given : Item) : Type 0 where
  pub asked : Asked
  pub at : slice_get calls place ≡ Some asked
  pub free : IsFreeBut parked (take place calls) asked given

abbrev pub AreFree : List ParkedCall → List Asked → List Item → Type 0
AreFree parked calls items =
    (place : ℕ) (given : Item) → slice_get items place ≡ Some given → IsFreeAt parked calls place given

-- each call of the batch has its item, in the batch's order
pub record AreItems (terms : Terms) (tenant : TenantId) (journal : List Entry) (state : State) (calls : List Asked) (items : List Item) : Type 0 where
  pub many : length items ≡ length calls
  pub each : (place : ℕ) (given : Item) → slice_get items place ≡ Some given
      → IsItemAt terms tenant journal state calls place given

-- what is kept of a call that was handed back: the call itself, with the extension that it names and the
-- reads that were sent; and not too many calls are parked then
pub record IsParked (journal : List Entry) (tenant : TenantId) (kept : List Kept) (asked : Asked) (reads : List ReadItem) (after : List Kept) : Type 0 where
  pub moment : ℕ
  pub by_now : moment ≤ length journal
  pub ext : ExtValue
  pub named : NamesExt (take moment journal) (call_of tenant asked) ext
  pub parked : after ≡ without kept asked.caller
      ++ record { parked = record { call = call_of tenant asked; ext = ext; reads = reads }; doubtful = false } ∷ []
  pub few : parked_count after ≤ MOST_PARKED

-- What is kept behind an item of a call. One that was handed back is kept. Where the caller has a doubtful
-- call and is not told busy, that one is gone.
abbrev pub Leaves : List Entry → TenantId → List Kept → Asked → Item → List Kept → Type 0
Leaves journal tenant kept asked item.Repeated after = after ≡ kept
Leaves journal tenant kept asked (item.Busy number) after = after ≡ kept
Leaves journal tenant kept asked (item.Pushed load spent reads) after = IsParked journal tenant kept asked reads after
Leaves journal tenant kept asked _ after = after ≡ without_doubtful kept asked.caller

-- what is kept behind the items of a batch, one after another
abbrev pub AllLeave : List Entry → TenantId → List Kept → List Asked → List Item → List Kept → Type 0
AllLeave journal tenant kept [] [] after = after ≡ kept
AllLeave journal tenant kept (asked ∷ calls) (item ∷ items) after =
    (between : List Kept) × Leaves journal tenant kept asked item between
    × AllLeave journal tenant between calls items after
AllLeave journal tenant kept _ _ after = ⊥
