-- How a Fetch is answered by the calls that are parked, and which are parked then.
use Rattle.std.specs.Prelude.{◌≡◌, ◌<◌, ◌/◌, ◌⊎◌, ℕ, false, IsTrue, List, length, Some, None}
use Rattle.sp_base.specs.declared.numbers.TableId.{TableId}
use Rattle.sp_base.specs.declared.numbers.TenantId.{TenantId}
use Rattle.sp_base.specs.declared.reads.ReadItem.{ReadItem}
use Rattle.sp_base.specs.RightsList.{can_read}
use Rattle.ext_mean.specs.Laws.{place_in}
use Rattle.records.specs.GrantsList.{GrantsList}
use Rattle.rw_set.specs.ReadLists.{read_of}
use Rattle.task.specs.Parking.{ParkedCall}
use Rattle.journal.specs.declared.entry.Entry.{Entry}
use Rattle.journal.specs.Granted.{granted}
use Rattle.book.specs.Verdict.{item_at}
use Rattle.wire.specs.declared.answers.FetchAnswer.{FetchAnswer}
use Rattle.wire.specs.declared.answers.FetchAnswer.TheVariants as fetched
use Rattle.session.specs.Keeping.{Changes, IsOfEach, IsParkedAs, call_in, has_number, joined}

-- a record is told as it was read
abbrev pub found_of : ReadItem → FetchAnswer
found_of read = fetched.Found read.version read.read_at read.value

abbrev pub IsFoundOr : FetchAnswer → ReadItem → Type 0
IsFoundOr given read = (given ≡ fetched.Memory) ⊎ (given ≡ found_of read)

-- the caller's call has one read more, or there was no memory for it
pub record HasJoined (before after : List ParkedCall) (caller : ℕ) (item : ReadItem) : Type 0 where
  pub changes : (one : ParkedCall) → call_in before caller ≡ Some one → Changes before after caller (Some (joined one item))
  pub each : IsOfEach after
  pub many : length after ≡ length before

abbrev pub JoinsOr : List ParkedCall → List ParkedCall → ℕ → ReadItem → FetchAnswer → Type 0
JoinsOr before after caller item given =
    ((given ≡ fetched.Memory) × (after ≡ before)) ⊎ ((given ≡ found_of item) × HasJoined before after caller item)

-- the call is parked, and has not read the place
pub record IsFresh (parked : List ParkedCall) (caller number : ℕ) (table : TableId) (key : List ℕ) (one : ParkedCall) : Type 0 where
  pub parked_as : IsParkedAs parked caller number one
  pub fresh : read_of one.reads (place_in table key) ≡ None

-- the rules in their order, each with its answer
pub data HasFetched (grants : GrantsList) (tenant : TenantId) (journal : List Entry) (before after : List ParkedCall) (caller number : ℕ) (table : TableId) (key : List ℕ) : FetchAnswer → Type 0 where
  not_parked : has_number number (call_in before caller) ≡ false → after ≡ before
      → HasFetched grants tenant journal before after caller number table key fetched.NotParked
  read_before : (one : ParkedCall) (read : ReadItem) → IsParkedAs before caller number one
      → read_of one.reads (place_in table key) ≡ Some read → after ≡ before
      → HasFetched grants tenant journal before after caller number table key (fetched.Found read.version read.read_at read.value)
  read_now : (one : ParkedCall) (read : ReadItem) → IsFresh before caller number table key one
      → IsTrue (can_read (granted grants journal tenant) table.0) → length one.reads < one.call.budget / 16
      → read ≡ item_at journal table key → HasJoined before after caller read
      → HasFetched grants tenant journal before after caller number table key (fetched.Found read.version read.read_at read.value)
  denied : (one : ParkedCall) → IsFresh before caller number table key one
      → can_read (granted grants journal tenant) table.0 ≡ false → after ≡ before
      → HasFetched grants tenant journal before after caller number table key fetched.Denied
  many : (one : ParkedCall) → IsFresh before caller number table key one
      → IsTrue (can_read (granted grants journal tenant) table.0) → length one.reads ≡ one.call.budget / 16 → after ≡ before
      → HasFetched grants tenant journal before after caller number table key fetched.Many
  no_memory : after ≡ before → HasFetched grants tenant journal before after caller number table key fetched.Memory
