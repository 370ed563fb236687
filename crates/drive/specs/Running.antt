-- The calls of a batch in their turns.
use Rattle.std.specs.Prelude.{◌≡◌, ◌≤◌, ◌<◌, ℕ, ◌+◌, ◌-◌, List, [], ◌∷◌, ◌++◌, length, Option, Some, None, slice_get, sum_by}
use Rattle.std.specs.List.{AllByRecursion}
use Rattle.sp_base.specs.declared.calls.Call.{Call}
use Rattle.sp_base.specs.declared.calls.Policy.{Policy}
use Rattle.records.specs.GrantsList.{GrantsList}
use Rattle.task.specs.declared.phase.Phase.TheVariants.{Ready}
use Rattle.task.specs.Turning.{Live}
use Rattle.journal.specs.declared.entry.Entry.{Entry}
use Rattle.journal.specs.Granted.{granted}
use Rattle.journal.specs.Reads.{IsHeld}
use Rattle.book.specs.declared.answers.Commit.TheVariants as commit
use Rattle.book.specs.declared.ends.CallEnd.{CallEnd}
use Rattle.book.specs.declared.ends.End.{End}
use Rattle.book.specs.declared.ends.End.TheVariants as ended
use Rattle.book.specs.Ends.{ItemHolds, MomentsRise, NamesExt}
use Rattle.book.specs.Standing.{BookValue, StandsFor}
use Rattle.session.specs.declared.plan.Begun.{Begun}
use Rattle.session.specs.Standing.{Adds}
use Rattle.session.specs.Waiting.{ends_at, is_place}
use Rattle.drive.specs.declared.running.Passed.{Passed}
use Rattle.drive.specs.declared.running.Passed.TheVariants as passed
use Rattle.drive.specs.Joining.{AreCommitted}

-- what a live call has read belongs to the journal, and its extension is the one that the call names there
pub record Ran (grants : GrantsList) (journal : List Entry) (live : Live) : Type 0 where
  pub held : AllByRecursion (IsHeld journal) live.reads
  pub named : NamesExt journal live.call live.ext
  pub own : live.rights ≡ granted grants journal live.call.caller.tenant

-- A call that may have a turn: what it has read belongs to the journal, read at moments that do not decrease from
-- `since` on.
pub record IsLive (grants : GrantsList) (journal : List Entry) (since : ℕ) (live : Live) : Type 0 where
  pub ready : live.phase ≡ Ready
  pub ran : Ran grants journal live
  pub rise : MomentsRise since live.reads

-- The units that a live call has left, and one more: it ends at the latest in the turn in which it has spent its
-- budget.
abbrev pub left_of : Live → ℕ
left_of live = live.call.budget + 1 - live.spent

abbrev pub left_in : List Begun → ℕ
left_in live = sum_by (λ one. left_of one.task) live

-- the call goes on with fewer units left, or what it had left is gone
abbrev pub Falls : Live → Passed → Type 0
Falls live (passed.GoesOn next) = left_of next < left_of live
Falls live (passed.Ends end) = 0 < left_of live

-- it has as many units left where it goes on
abbrev pub SpendsAsMuch : Live → Passed → Type 0
SpendsAsMuch live (passed.GoesOn next) = left_of next ≡ left_of live
SpendsAsMuch live (passed.Ends end) = Unit {0}

-- the call has ended
abbrev pub HasPassed : Passed → Type 0
HasPassed (passed.GoesOn next) = ⊥
HasPassed (passed.Ends end) = Unit {0}

-- the book stands for this journal or for a longer one
pub record StandsOn (book : BookValue) (journal : List Entry) : Type 0 where
  pub later : List Entry
  pub stands : StandsFor book (journal ++ later)

-- the same call is live behind its turn
pub record StaysLive (grants : GrantsList) (journal : List Entry) (since : ℕ) (live next : Live) : Type 0 where
  pub same : next.call ≡ live.call
  pub is : IsLive grants journal since next

-- the call is live behind its turn, or its end holds by the journal
abbrev pub IsPassed : GrantsList → ℕ → Policy → List Entry → ℕ → Live → Passed → Type 0
IsPassed grants limit policy journal since live (passed.GoesOn next) = StaysLive grants journal since live next
IsPassed grants limit policy journal since live (passed.Ends end) = ItemHolds grants limit policy journal since live.call end

-- the number under which a call was committed in its turn, if it was
abbrev pub entry_of_end : End → Option ℕ
entry_of_end (ended.Settled (commit.Committed n outcome)) = Some n
entry_of_end _ = None

abbrev pub entry_of_turn : Passed → Option ℕ
entry_of_turn (passed.GoesOn next) = None
entry_of_turn (passed.Ends end) = entry_of_end end

-- what a turn made of a call that was live over this journal, and of the journal
pub record Passes (policy : Policy) (before after : BookValue) (journal : List Entry) (live : Live) (given : Passed) : Type 0 where
  pub later : List Entry
  pub stands : StandsFor after (journal ++ later)
  pub adds : Adds journal later (entry_of_turn given)
  pub is : (since : ℕ) → since ≤ length journal → MomentsRise since live.reads → IsPassed before.grants before.limit policy (journal ++ later) since live given

-- a call with this place is the one that began there
pub record IsOf (begun : List Begun) (place : ℕ) (call : Call) : Type 0 where
  pub at : ℕ
  pub first : Begun
  pub found : slice_get begun at ≡ Some first
  pub place_is : first.place ≡ place
  pub call_is : first.task.call ≡ call

pub record IsLiveOf (grants : GrantsList) (journal : List Entry) (since : ℕ) (begun : List Begun) (one : Begun) : Type 0 where
  pub of : IsOf begun one.place one.task.call
  pub is : IsLive grants journal since one.task

pub record IsEndOf (grants : GrantsList) (limit : ℕ) (policy : Policy) (journal : List Entry) (since : ℕ) (begun : List Begun) (one : CallEnd) : Type 0 where
  pub call : Call
  pub of : IsOf begun one.place call
  pub holds : ItemHolds grants limit policy journal since call one.end

-- how many of these calls have this place
abbrev pub calls_at : ℕ → List Begun → ℕ
calls_at place [] = 0
calls_at place (one ∷ calls) = is_place place one.place + calls_at place calls

-- each call that began is live or has its end
abbrev pub AreAll : List Begun → List Begun → List CallEnd → Type 0
AreAll begun live ends = (place : ℕ) → calls_at place live + ends_at place ends ≡ calls_at place begun

-- Behind some turns of the calls that began over this journal: what is live, and what has ended; and what joined the
-- journal.
pub record IsUnderWay (policy : Policy) (before after : BookValue) (journal : List Entry) (begun live : List Begun) (ends : List CallEnd) : Type 0 where
  pub later : List Entry
  pub stands : StandsFor after (journal ++ later)
  pub live_so : AllByRecursion (IsLiveOf before.grants (journal ++ later) (length journal) begun) live
  pub ends_so : AllByRecursion (IsEndOf before.grants before.limit policy (journal ++ later) (length journal) begun) ends
  pub all : AreAll begun live ends
  pub committed : AreCommitted (length journal) (journal ++ later) ends

-- behind a turn the call is the last of those that are live, or its end the last of those that have come
abbrev pub IsNoted : List Begun → List CallEnd → ℕ → Passed → List Begun → List CallEnd → Type 0
IsNoted live ends place (passed.GoesOn next) live_then ends_then =
    (live_then ≡ live ++ record { place = place; task = next } ∷ []) × (ends_then ≡ ends)
IsNoted live ends place (passed.Ends end) live_then ends_then =
    (live_then ≡ live) × (ends_then ≡ ends ++ record { place = place; end = end } ∷ [])

-- a call as it begins
pub record IsFresh (grants : GrantsList) (journal : List Entry) (one : Begun) : Type 0 where
  pub ready : one.task.phase ≡ Ready
  pub unread : one.task.reads ≡ []
  pub ran : Ran grants journal one.task
