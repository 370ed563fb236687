-- Tasks that run the code of their extension on a machine.
use Rattle.std.specs.Prelude.{◌≡◌, Bool, true, false, List, [], ℕ, map}
use Rattle.sp_base.specs.declared.calls.Call.{Call}
use Rattle.sp_base.specs.declared.numbers.TableId.{TableId}
use Rattle.sp_base.specs.declared.outcomes.Outcome.TheVariants as outcome
use Rattle.sp_base.specs.declared.reads.ReadItem.{ReadItem}
use Rattle.sp_base.specs.declared.rights.Level.{Level}
use Rattle.gen_code.specs.declared.code.Code.{Code}
use Rattle.gen_code.specs.Does.{Does}
use Rattle.gen_vm.specs.declared.phase.Phase as machine
use Rattle.gen_vm.specs.declared.phase.Phase.TheVariants as run
use Rattle.gen_vm.specs.Running.{Running, read_as}
use Rattle.gen_vm.specs.Standing.{Stands}
use Rattle.task.specs.declared.phase.Phase.{Phase}
use Rattle.task.specs.declared.phase.Phase.TheVariants.{Ready, Waiting, Ended}
use Rattle.task.specs.Extensions.{ExtValue}
use Rattle.task.specs.Tasks.{GoesOn}
use Rattle.task.specs.Turning.{Live}

-- where a call stands, by where its machine does, whose run may go on where the call was killed
abbrev pub phase_of : Bool → machine.Phase → Phase
phase_of true phase = Ended outcome.Killed []
phase_of false run.Ready = Ready
phase_of false (run.Waiting table key) = Waiting table key
phase_of false (run.Over outcome writes) = Ended outcome writes

-- the live call of a machine
abbrev pub live_of : Call → ExtValue → List (TableId × Level) → List ReadItem → ℕ → Bool → Running → Live
live_of call ext rights reads spent killed running = record {
  call = call;
  ext = ext;
  rights = rights;
  reads = reads;
  spent = spent;
  phase = phase_of killed running.phase;
}

-- a read as a machine is fed it, which knows nothing of versions and moments
abbrev pub as_fed : ReadItem → ReadItem
as_fed read = read_as read.table read.key read.value

-- A machine follows a live call: its code does what the extension means, and it runs with the arguments,
-- the budget and the rights of the call, on what the call has read. While the call goes on it stands.
pub record Follows (code : Code) (live : Live) (running : Running) : Type 0 where
  pub does : Does code live.ext.program
  pub args : running.args ≡ live.call.args
  pub budget : running.budget ≡ live.call.budget
  pub rights : running.rights ≡ live.rights
  pub fed : running.fed ≡ map as_fed live.reads
  pub stands : GoesOn live.phase → Stands code running
