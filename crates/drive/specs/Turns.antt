-- The turns of the calls of a batch, one after another, and which call is handed back behind its turn.
use Rattle.std.specs.Prelude.{◌≡◌, ◌+◌, ℕ, List, [], ◌∷◌, ◌++◌, length}
use Rattle.sp_base.specs.declared.calls.Policy.{Policy}
use Rattle.sp_base.specs.declared.numbers.TableId.{TableId}
use Rattle.task.specs.declared.phase.Phase.TheVariants.{Ready, Waiting}
use Rattle.task.specs.Turning.{Live, given, turn_of}
use Rattle.journal.specs.declared.entry.Entry.{Entry}
use Rattle.book.specs.declared.ends.CallEnd.{CallEnd}
use Rattle.book.specs.Verdict.{item_at}
use Rattle.session.specs.declared.plan.Begun.{Begun}
use Rattle.session.specs.Standing.{is_handed_back}
use Rattle.drive.specs.declared.pushing.Placement.{Placement}
use Rattle.drive.specs.declared.running.Passed.{Passed}
use Rattle.drive.specs.declared.running.Passed.TheVariants as passed
use Rattle.drive.specs.Placing.{handed_by, placed_turn}
use Rattle.drive.specs.Running.{IsNoted}

-- a call goes on behind a turn of so many units: with these spent, or with the record that it wanted, as the entries
-- leave it
pub data GoesOnTo (quantum : ℕ) (journal : List Entry) (live next : Live) : Type 0 where
  has_run : next ≡ turn_of live quantum → next.phase ≡ Ready → GoesOnTo quantum journal live next
  has_read : (table : TableId) (key : List ℕ) → (turn_of live quantum).phase ≡ Waiting table key
      → next ≡ given (turn_of live quantum) (item_at journal table key) → GoesOnTo quantum journal live next

-- what a turn makes of a call, over a book that stands for these entries: it goes on, or has ended without being
-- handed back
abbrev pub IsTurn : ℕ → List Entry → Live → Passed → Type 0
IsTurn quantum journal live (passed.GoesOn next) = GoesOnTo quantum journal live next
IsTurn quantum journal live (passed.Ends end) = is_handed_back end ≡ 0

-- the record joins the reads, or there is no memory for it
abbrev pub IsGiven : List Entry → Live → TableId → List ℕ → Passed → Type 0
IsGiven journal live table key (passed.GoesOn next) = next ≡ given live (item_at journal table key)
IsGiven journal live table key (passed.Ends end) = is_handed_back end ≡ 0

-- what decides about a call that has its turn before these others
abbrev pub placement_before : Policy → List Begun → ℕ → Placement
placement_before policy others room = record { policy = policy; load = length others + 1; room = room }

-- Behind some turns of the calls that began: how many calls more the session can park, what is live, and what has
-- ended. The first of those that are live has its turn, over the journal as it then is. Where it goes on, the placement
-- rule decides whether it is handed back, or goes behind the others.
pub data Turns (policy : Policy) (quantum room : ℕ) (journal : List Entry) (begun : List Begun) : ℕ → List Begun → List CallEnd → Type 0 where
  none_yet : Turns policy quantum room journal begun room begun []
  one_more : (left : ℕ) (one : Begun) (rest : List Begun) (ends : List CallEnd) (now later : List Entry) (turned : Passed)
      (left_then : ℕ) (live_then : List Begun) (ends_then : List CallEnd)
      → Turns policy quantum room journal begun left (one ∷ rest) ends
      → journal ≡ now ++ later → IsTurn quantum now one.task turned
      → IsNoted rest ends one.place (placed_turn (placement_before policy rest left) turned) live_then ends_then
      → left_then + handed_by (placed_turn (placement_before policy rest left) turned) ≡ left
      → Turns policy quantum room journal begun left_then live_then ends_then

-- the calls that began had turns until all had ended
pub record HaveTurned (policy : Policy) (quantum room : ℕ) (journal : List Entry) (begun : List Begun) (ends : List CallEnd) : Type 0 where
  pub left : ℕ
  pub turns : Turns policy quantum room journal begun left [] ends
