-- Where a run stands: at a place that its code comes to from the beginning, with any budget that it has
-- not passed and on any view that knows the records fed. So what the code does from its beginning is
-- what it does from there, however often the run paused, and at whatever limits.
use Rattle.std.specs.Prelude.{◌≡◌, ◌≤◌, ℕ, List, Option, Some}
use Rattle.sp_base.specs.Places.{Place}
use Rattle.ext_mean.specs.Views.{View, part}
use Rattle.gen_code.specs.declared.code.Code.{Code}
use Rattle.gen_code.specs.Does.{IsOfProgram}
use Rattle.gen_code.specs.Machine.{Config, Going, begin, steps}
use Rattle.gen_vm.specs.Running.{Running}

-- a view knows all that another knows, alike, with the same rights
pub record Knows (small large : View) : Type 0 where
  pub rights : large.rights ≡ small.rights
  pub known : (place : Place) (value : Option (List ℕ)) → small.known place ≡ Some value → large.known place ≡ Some value

-- the code comes from its beginning to a place
abbrev pub ComesTo : Code → List ℕ → View → Config → Type 0
ComesTo code args small here =
    (budget : ℕ) (view : View) → here.used ≤ budget → Knows small view
    → (count : ℕ) × (steps code (record { args = args; budget = budget; view = view }) count (Going (begin code)) ≡ Going here)

-- a run of the code of some program stands there, within its budget
pub record Stands (code : Code) (run : Running) : Type 0 where
  pub of_program : IsOfProgram code
  pub comes : ComesTo code run.args (part run.fed run.rights) run.here
  pub within : run.here.used ≤ run.budget
