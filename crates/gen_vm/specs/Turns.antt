-- What a function of the machine does, as a turn of the definition.
use Rattle.std.specs.Prelude.{◌≡◌, ◌≤◌, ℕ, Result, Ok, Err}
use Rattle.sp_base.specs.declared.outcomes.Trap.TheVariants.{Denied}
use Rattle.sp_base.specs.RightsList.{can_read}
use Rattle.ext_mean.specs.declared.run.Run.{Run}
use Rattle.ext_mean.specs.declared.run.Run.TheVariants.{Done, Trapped, Spent, Wants}
use Rattle.ext_mean.specs.declared.state.State.{State}
use Rattle.ext_mean.specs.Work.{World, Step, Next, Ends, Work, ◌>>=◌, charge, require}
use Rattle.gen_code.specs.Machine.{Config, Progress, Going, Over, state_of}
use Rattle.gen_vm.specs.declared.halt.Halt.{Halt}
use Rattle.gen_vm.specs.declared.halt.Halt.TheVariants.{Memory, Ended}

-- a run that stopped has used so many units
abbrev pub HasUsed : ℕ → Run → Type 0
HasUsed units (Done reply writes used) = used ≡ units
HasUsed units (Trapped trap used) = used ≡ units
HasUsed units Spent = Unit {0}
HasUsed units (Wants table key used) = used ≡ units

-- the result of work that changes nothing is that of the step, unless there was no memory
abbrev pub Finds : {A : Type 0} → Result A Halt → State → Step A → Type 0
Finds (Ok value) state step = step ≡ Next value state
Finds (Err Memory) state step = Unit {0}
Finds (Err (Ended run)) state step = (step ≡ Ends run) × HasUsed state.used run

-- the units used behind a charge
abbrev pub Pays : Result ℕ Halt → State → Step (Unit {0}) → Type 0
Pays (Ok used) state step = step ≡ Next tt (record state { used = used })
Pays (Err Memory) state step = Unit {0}
Pays (Err (Ended run)) state step = (step ≡ Ends run) × HasUsed state.used run

-- the charge of a read, behind the level of its table
abbrev pub pays_read : World → ℕ → Work (Unit {0})
pays_read world table = require (can_read world.view.rights table) Denied >>= (λ _. charge world 16)

-- where a run stands behind a work of the meaning
abbrev pub worked : Config → State → Config
worked here state = record here { used = state.used; reply = state.reply; writes = state.writes }

-- a work of the meaning was done from here, unless it ended the run or there was no memory, which leaves
-- all as it was
abbrev pub Works : {A : Type 0} → Result A Halt → Config → Config → Step A → Type 0
Works (Ok value) old new step = (step ≡ Next value (state_of new)) × (new ≡ worked old (state_of new))
Works (Err Memory) old new step = new ≡ old
Works (Err (Ended run)) old new step = (step ≡ Ends run) × HasUsed old.used run × (new ≡ old)

-- a run that is spent or wants a record may go on, from where it stands
abbrev pub Stays : Run → Config → Config → Type 0
Stays Spent old new = new ≡ old
Stays (Wants table key used) old new = new ≡ old
Stays (Done reply writes used) old new = Unit {0}
Stays (Trapped trap used) old new = Unit {0}

-- a turn ended the run
pub record Stops (run : Run) (old new : Config) (turn : Progress) : Type 0 where
  pub over : turn ≡ Over run
  pub units : HasUsed new.used run
  pub stays : Stays run old new

-- the turn was done, unless there was no memory for it, which leaves all as it was
abbrev pub Turns : Result (Unit {0}) Halt → Config → Config → Progress → Type 0
Turns (Ok unit) old new turn = turn ≡ Going new
Turns (Err Memory) old new turn = new ≡ old
Turns (Err (Ended run)) old new turn = Stops run old new turn

-- units are only added, and within the limit
pub record Spends (limit old new : ℕ) : Type 0 where
  pub grows : old ≤ new
  pub within : old ≤ limit → new ≤ limit
