-- How a run goes from one place to another.
use Rattle.std.specs.Prelude.{◌≡◌, ◌≤◌, ℕ, zero, suc, Err}
use Rattle.ext_mean.specs.Work.{World}
use Rattle.gen_code.specs.declared.code.Code.{Code}
use Rattle.gen_code.specs.Machine.{Config, Progress, Going, Over, once}
use Rattle.gen_vm.specs.declared.halt.Halt.{Halt}
use Rattle.gen_vm.specs.Turns.{Turns}

abbrev pub IsOver : Progress → Type 0
IsOver (Going here) = ⊥
IsOver (Over run) = Unit {0}

-- how many of `count` turns are left until it is over
abbrev pub turns_left : Code → World → ℕ → Progress → ℕ
turns_left code world zero progress = 0
turns_left code world (suc count) (Over run) = 0
turns_left code world (suc count) (Going here) = suc (turns_left code world count (once code world (Going here)))

-- turn by turn, each of which adds units or leaves them
pub data Path (code : Code) (world : World) (start : Config) : Config → Type 0 where
  stays : Path code world start start
  turns : (middle there : Config) → Path code world start middle
      → once code world (Going middle) ≡ Going there → middle.used ≤ there.used
      → Path code world start there

-- a run went as far as it could: the turn that comes next stopped it
pub record Halts (code : Code) (world : World) (start : Config) (halt : Halt) (stop : Config) : Type 0 where
  pub there : Config
  pub path : Path code world start there
  pub within : start.used ≤ world.budget → there.used ≤ world.budget
  pub turn : Turns (Err halt) there stop (once code world (Going there))
