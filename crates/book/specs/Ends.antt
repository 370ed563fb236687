-- What a journal says of how a call of a batch ended.
use Rattle.std.specs.Prelude.{◌≡◌, ◌≤◌, ◌⊎◌, ℕ, IsTrue, List, [], ◌∷◌, ◌++◌, length, Option, Some, slice_get, take}
use Rattle.sp_base.specs.declared.calls.Call.{Call}
use Rattle.sp_base.specs.declared.calls.Policy.{Policy}
use Rattle.sp_base.specs.declared.outcomes.Outcome.{Outcome}
use Rattle.sp_base.specs.declared.reads.ReadItem.{ReadItem}
use Rattle.sp_base.specs.declared.writes.Write.{Write}
use Rattle.sp_base.specs.Placing.{is_pushed}
use Rattle.ext_mean.specs.declared.run.Run.TheVariants.{Spent, Wants}
use Rattle.ext_mean.specs.declared.tree.Program.{Program}
use Rattle.ext_mean.specs.Asked.{IsComplete}
use Rattle.ext_mean.specs.Meaning.{mean}
use Rattle.ext_mean.specs.Outcomes.{EndsWith}
use Rattle.ext_mean.specs.Views.{part}
use Rattle.ext_check.specs.Checking.{IsAccepted}
use Rattle.records.specs.GrantsList.{GrantsList, RightsList}
use Rattle.rw_set.specs.Weight.{weight_of}
use Rattle.task.specs.Extensions.{ExtValue}
use Rattle.task.specs.Parking.{ParkedCall}
use Rattle.journal.specs.declared.entry.Entry.{Entry}
use Rattle.journal.specs.Folds.{texts_of}
use Rattle.journal.specs.Granted.{granted}
use Rattle.journal.specs.Legal.{Names}
use Rattle.journal.specs.Reads.{AreReadsOf}
use Rattle.book.specs.declared.answers.Commit.{Commit}
use Rattle.book.specs.declared.answers.Commit.TheVariants.{Committed, Stale, Conflict, Full, Memory}
use Rattle.book.specs.declared.ends.End.{End}
use Rattle.book.specs.declared.ends.End.TheVariants as ended
use Rattle.book.specs.Verdict.{entry_of, verdict}

-- a moment that an answer shows: not before what was seen, and not behind the journal's end
pub record IsShown (journal : List Entry) (seen moment : ℕ) : Type 0 where
  pub since : seen ≤ moment
  pub by_now : moment ≤ length journal

-- the moments of reads do not decrease, from this one on
abbrev pub MomentsRise : ℕ → List ReadItem → Type 0
MomentsRise moment [] = Unit {0}
MomentsRise moment (read ∷ reads) = (moment ≤ read.read_at) × MomentsRise read.read_at reads

-- the moment at which a run was judged, as a commit shows it
abbrev pub moment_of : Commit → ℕ
moment_of (Committed n outcome) = n
moment_of (Stale last at) = at
moment_of (Conflict table key read read_at now now_at) = now_at
moment_of (Full at) = at
moment_of Memory = 0

-- where a run was committed, its entry stands in the journal under the number that is told
abbrev pub StandsIn : List Entry → Entry → Commit → Type 0
StandsIn journal entry (Committed n outcome) = slice_get journal n ≡ Some entry
StandsIn journal entry _ = Unit {0}

-- The verdict of these entries on a run of the call: the run has made the reads for which its program
-- asks, all of them, each at its own moment from `seen` on; it has the outcome and the writes that the program
-- means on them; and its entry stands where it was committed.
pub record IsVerdict (grants : GrantsList) (limit : ℕ) (journal before : List Entry) (seen : ℕ) (call : Call) (commit : Commit) : Type 0 where
  pub program : Program
  pub reads : List ReadItem
  pub outcome : Outcome
  pub writes : List Write
  pub named : Names before call program
  pub are : AreReadsOf grants before call program reads
  pub complete : IsComplete program call.args call.budget (granted grants before call.caller.tenant) reads
  pub rise : MomentsRise seen reads
  pub meant : EndsWith
      (mean program call.args call.budget (part reads (granted grants before call.caller.tenant))) outcome writes
  pub told : commit ≡ verdict limit before call (entry_of call outcome writes reads) outcome reads
  pub stands : StandsIn journal (entry_of call outcome writes reads) commit

-- a run is settled by the verdict of the journal up to the moment that is shown
pub record IsSettled (grants : GrantsList) (limit : ℕ) (journal : List Entry) (seen : ℕ) (call : Call) (commit : Commit) : Type 0 where
  pub shown : IsShown journal seen (moment_of commit)
  pub judged : IsVerdict grants limit journal (take (moment_of commit) journal) seen call commit

-- the extension that a call names: its text, and the program as which this is accepted
pub record NamesExt (before : List Entry) (call : Call) (ext : ExtValue) : Type 0 where
  pub found : slice_get (texts_of before call.caller.tenant) call.ext.0 ≡ Some ext.text
  pub accepted : IsAccepted ext.text ext.program

-- where a call stands that has spent so many units: they brought it to its last read, or ran out behind it
abbrev pub HasSpent : Program → Call → RightsList → List ReadItem → ℕ → Type 0
HasSpent program call rights reads spent =
    (earlier : List ReadItem) (read : ReadItem) → reads ≡ earlier ++ read ∷ []
    → (used : ℕ) × (mean program call.args spent (part earlier rights) ≡ Wants read.table read.key used)
    × ((used ≡ spent) ⊎ (mean program call.args spent (part reads rights) ≡ Spent))

-- and without reads they ran out
abbrev pub HasRunOut : Program → Call → RightsList → List ReadItem → ℕ → Type 0
HasRunOut program call rights reads spent =
    reads ≡ [] → mean program call.args spent (part reads rights) ≡ Spent

-- What is handed back to a client: the call, with the extension that it names and the reads that it has
-- made, each at its own moment from `seen` on; as loaded as the server was, and as much as it had spent, the policy
-- pushes it.
pub record IsHandedBack (grants : GrantsList) (policy : Policy) (before : List Entry) (seen : ℕ) (call : Call) (load spent : ℕ) (parked : ParkedCall) : Type 0 where
  pub call_is : parked.call ≡ call
  pub named : NamesExt before call parked.ext
  pub pushed : IsTrue (is_pushed policy load spent (weight_of parked.reads) call.push_ok)
  pub are : AreReadsOf grants before call parked.ext.program parked.reads
  pub rise : MomentsRise seen parked.reads
  pub some : 1 ≤ spent
  pub within : spent ≤ call.budget
  pub spent_at : HasSpent parked.ext.program call (granted grants before call.caller.tenant) parked.reads spent
  pub run_out : HasRunOut parked.ext.program call (granted grants before call.caller.tenant) parked.reads spent

-- it was handed back at some moment that the journal has come to
pub record IsPushed (grants : GrantsList) (policy : Policy) (journal : List Entry) (seen : ℕ) (call : Call) (load spent : ℕ) (parked : ParkedCall) : Type 0 where
  pub moment : ℕ
  pub shown : IsShown journal seen moment
  pub handed : IsHandedBack grants policy (take moment journal) seen call load spent parked

-- the end of a call that began, by the journal; want of memory says nothing
abbrev pub ItemHolds : GrantsList → ℕ → Policy → List Entry → ℕ → Call → End → Type 0
ItemHolds grants limit policy journal seen call (ended.Settled Memory) = Unit {0}
ItemHolds grants limit policy journal seen call (ended.Settled commit) = IsSettled grants limit journal seen call commit
ItemHolds grants limit policy journal seen call (ended.Pushed load spent parked) =
    IsPushed grants policy journal seen call load spent parked
ItemHolds grants limit policy journal seen call ended.Memory = Unit {0}
