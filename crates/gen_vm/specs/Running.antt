-- A run that may pause, and where it stands.
use Rattle.std.specs.Prelude.{ℕ, ◌++◌, ◌∷◌, [], List, Option}
use Rattle.sp_base.specs.declared.numbers.TableId.{TableId}
use Rattle.sp_base.specs.declared.reads.ReadItem.{ReadItem}
use Rattle.sp_base.specs.declared.rights.Level.{Level}
use Rattle.ext_mean.specs.Views.{part}
use Rattle.ext_mean.specs.Work.{World}
use Rattle.gen_code.specs.declared.code.Code.{Code}
use Rattle.gen_code.specs.Machine.{Config, begin}
use Rattle.gen_vm.specs.declared.phase.Phase.{Phase}
use Rattle.gen_vm.specs.declared.phase.Phase.TheVariants.{Ready, Waiting, Over}

-- A run: its arguments, budget and rights, the records that it was fed, in order, where it stands, and
-- whether it may go on, waits for a record or has ended.
pub record Running : Type 0 where
  pub args : List ℕ
  pub budget : ℕ
  pub rights : List (TableId × Level)
  pub fed : List ReadItem
  pub here : Config
  pub phase : Phase

-- a run that begins
abbrev pub begun : Code → List ℕ → ℕ → List (TableId × Level) → Running
begun code args budget rights = record {
  args = args;
  budget = budget;
  rights = rights;
  fed = [];
  here = begin code;
  phase = Ready;
}

-- the record of a place as it was fed, of whose version the machine knows nothing
abbrev pub read_as : TableId → List ℕ → Option (List ℕ) → ReadItem
read_as table key value = record { table = table; key = key; version = 0; read_at = 0; value = value }

-- a run that waits for a record, once it is fed
abbrev pub fed_with : Option (List ℕ) → Phase → Running → Running
fed_with value (Waiting table key) run =
    record run { fed = run.fed ++ read_as table key value ∷ []; phase = Ready }
fed_with value Ready run = run
fed_with value (Over outcome writes) run = run

abbrev pub IsWaiting : Phase → Type 0
IsWaiting (Waiting table key) = Unit {0}
IsWaiting Ready = ⊥
IsWaiting (Over outcome writes) = ⊥

abbrev pub HasEnded : Phase → Type 0
HasEnded (Over outcome writes) = Unit {0}
HasEnded Ready = ⊥
HasEnded (Waiting table key) = ⊥

-- what a run sees with a limit: the records that it was fed
abbrev pub world_with : Running → ℕ → World
world_with run limit = record { args = run.args; budget = limit; view = part run.fed run.rights }
