-- Calls at their clients.
use Rattle.std.specs.Prelude.{◌≡◌, ◌≤◌, ◌+◌, ◌*◌, ℕ, Bool, List, [], ◌∷◌, ◌++◌, length}
use Rattle.sp_base.specs.declared.calls.Call.{Call}
use Rattle.sp_base.specs.declared.numbers.Caller.{Caller}
use Rattle.sp_base.specs.declared.numbers.TableId.{TableId}
use Rattle.sp_base.specs.declared.reads.ReadItem.{ReadItem}
use Rattle.sp_base.specs.declared.rights.Level.{Level}
use Rattle.sp_base.specs.Limits.{IsArguments}
use Rattle.ext_mean.specs.declared.run.Run.{Run}
use Rattle.ext_mean.specs.declared.run.Run.TheVariants.{Wants}
use Rattle.ext_mean.specs.Asked.{AreAsked}
use Rattle.ext_mean.specs.Meaning.{mean}
use Rattle.ext_mean.specs.Outcomes.{EndsWith}
use Rattle.ext_mean.specs.Views.{part}
use Rattle.journal.specs.Folds.{same_caller}
use Rattle.rw_set.specs.declared.sent.Sent.{Sent}
use Rattle.task.specs.Extensions.{ExtValue}
use Rattle.task.specs.Turning.{Live}

-- A call at its client: its extension, the rights with which it runs, and the reads that it was given.
pub record Pushed : Type 0 where
  pub call : Call
  pub ext : ExtValue
  pub rights : List (TableId × Level)
  pub reads : List ReadItem

-- what its client has of a live call: the units that it spent are not among it, since it begins again
abbrev pub pushed_of : Live → Pushed
pushed_of live = record { call = live.call; ext = live.ext; rights = live.rights; reads = live.reads }

-- what the program means on these reads, from the arguments on and with the whole budget
abbrev pub meant : Pushed → Run
meant pushed = mean pushed.ext.program pushed.call.args pushed.call.budget (part pushed.reads pushed.rights)

-- one read more
abbrev pub joined : Pushed → ReadItem → Pushed
joined pushed item = record pushed { reads = pushed.reads ++ item ∷ [] }

-- whether it is the caller's
abbrev pub is_callers : Caller → Pushed → Bool
is_callers caller pushed = same_caller pushed.call.caller caller

-- the run wants the record at this place
pub record WantsAt (run : Run) (table : TableId) (key : List ℕ) : Type 0 where
  pub used : ℕ
  pub is : run ≡ Wants table key used

-- What every call at its client keeps: its arguments are within their limits, and its reads are in order
-- those that its program asks for, each paid with 16 units of its budget.
pub record IsCarried (pushed : Pushed) : Type 0 where
  pub budget : pushed.call.budget ≤ 100000
  pub arguments : IsArguments pushed.call.args
  pub asked : AreAsked pushed.ext.program pushed.call.args pushed.call.budget pushed.rights pushed.reads
  pub paid : 16 * length pushed.reads ≤ pushed.call.budget

-- What a client sends as the end of its call: what the program means on the reads that it was given, with
-- arguments within their limits and with the reads that the program asks for.
pub record IsTrueEnd (pushed : Pushed) (sent : Sent) : Type 0 where
  pub call : sent.call ≡ pushed.call
  pub reads : sent.reads ≡ pushed.reads
  pub meant : EndsWith (meant pushed) sent.outcome sent.writes
  pub carried : IsCarried pushed

-- the run has ended
abbrev pub HasEnd : Run → Type 0
HasEnd (Wants table key used) = ⊥
HasEnd _ = Unit {0}

-- the record at this place is wanted, and the budget pays for it beside the reads that there are
pub record IsWanted (pushed : Pushed) (table : TableId) (key : List ℕ) : Type 0 where
  pub wants : WantsAt (meant pushed) table key
  pub paid : 16 * (length pushed.reads + 1) ≤ pushed.call.budget
