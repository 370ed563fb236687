-- What an answer of the machine says of what the program means with that limit on the records fed.
use Rattle.std.specs.Prelude.{◌≡◌, ◌≢◌, ◌≤◌, ℕ, []}
use Rattle.sp_base.specs.declared.outcomes.Outcome.TheVariants as outcome
use Rattle.ext_mean.specs.declared.run.Run.{Run}
use Rattle.ext_mean.specs.declared.run.Run.TheVariants.{Done, Trapped, Spent, Wants}
use Rattle.ext_mean.specs.Outcomes.{EndsWith, units_of}
use Rattle.gen_code.specs.declared.code.Code.{Code}
use Rattle.gen_code.specs.Machine.{Config, Going, steps}
use Rattle.gen_vm.specs.declared.paused.Paused.{Paused}
use Rattle.gen_vm.specs.declared.paused.Paused.TheVariants as paused
use Rattle.gen_vm.specs.declared.phase.Phase.{Phase}
use Rattle.gen_vm.specs.declared.phase.Phase.TheVariants.{Ready, Waiting, Over}
use Rattle.gen_vm.specs.Running.{HasEnded, Running, world_with}

-- the outcome and the changes of a run that has ended are those of the meaning
abbrev pub EndedWith : Run → Phase → Type 0
EndedWith run (Over outcome writes) = EndsWith run outcome writes
EndedWith run Ready = ⊥
EndedWith run (Waiting table key) = ⊥

-- a run has ended as the meaning does, within its limit and with the units that the meaning uses
pub record EndsAs (run : Run) (phase : Phase) (used : ℕ) : Type 0 where
  pub ended : EndedWith run phase
  pub unspent : run ≢ Spent
  pub units : units_of used run ≡ used

-- each answer, by where the run then stands
abbrev pub Tells : Paused → Phase → Type 0
Tells (paused.Wants table key) phase = phase ≡ Waiting table key
Tells paused.Out phase = phase ≡ Ready
Tells paused.Ended phase = HasEnded phase
Tells paused.Memory phase = phase ≡ Ready

-- and by the meaning, with the units that the run has then used; want of memory tells nothing
abbrev pub IsAnswer : Paused → Running → Run → Type 0
IsAnswer (paused.Wants table key) after run = run ≡ Wants table key after.here.used
IsAnswer paused.Out after run = run ≡ Spent
IsAnswer paused.Ended after run = EndsAs run after.phase after.here.used
IsAnswer paused.Memory after run = Unit {0}

-- what a call of the machine leaves as it was, and the units that it may use: none where the run has
-- already used as many as the limit
pub record Resumes (limit : ℕ) (before after : Running) : Type 0 where
  pub args : after.args ≡ before.args
  pub budget : after.budget ≡ before.budget
  pub rights : after.rights ≡ before.rights
  pub fed : after.fed ≡ before.fed
  pub grows : before.here.used ≤ after.here.used
  pub within : after.here.used ≤ limit

-- the code goes from one place to another, turn by turn, with this limit on the records fed
abbrev pub GoesTo : Code → ℕ → Running → Config → Type 0
GoesTo code limit before there =
    (count : ℕ) × (steps code (world_with before limit) count (Going before.here) ≡ Going there)

-- How a run that stopped pauses. Where it wants a record, there may be no memory to wait for it.
abbrev pub Pauses : Run → Paused → Running → Running → Type 0
Pauses (Wants table key used) (paused.Wants other another) before after =
    (other ≡ table) × (another ≡ key) × (after ≡ record before { phase = Waiting table key })
Pauses (Wants table key used) paused.Memory before after = after ≡ before
Pauses Spent paused.Out before after = after ≡ before
Pauses (Trapped trap used) paused.Ended before after =
    after ≡ record before { phase = Over (outcome.Trapped trap) [] }
Pauses (Done reply writes used) paused.Ended before after =
    after ≡ record before { phase = Over (outcome.Done reply) writes }
Pauses _ _ before after = ⊥
