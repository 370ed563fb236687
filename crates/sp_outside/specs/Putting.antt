-- What one call of a sink takes, by its answer.
use Rattle.std.specs.Prelude.{◌≡◌, ℕ, ◌≤◌, min, Option, Some, List, ◌++◌, take}
use Rattle.sp_outside.specs.declared.sink.Wrote.{Wrote}
use Rattle.sp_outside.specs.declared.sink.Wrote.TheVariants.{Bytes, Failed}
use Rattle.sp_outside.specs.Faults.{one_fault_more}

-- at least one byte was taken, and no more than the piece has
abbrev pub TakesWithin : Wrote → ℕ → Type 0
TakesWithin (Bytes n) size = (1 ≤ n) × (n ≤ size)
TakesWithin Failed size = Unit {0}

-- a sink that held these bytes: it holds the first bytes of the piece behind them, or nothing more
abbrev pub Puts : Wrote → List ℕ → List ℕ → Option (List ℕ) → Type 0
Puts (Bytes n) held piece after = after ≡ Some (held ++ take n piece)
Puts Failed held piece after = after ≡ Some held

-- where bytes were taken, they are as many as the piece has and as fit into what is free
abbrev pub TakesAllThatFits : Wrote → ℕ → ℕ → Type 0
TakesAllThatFits (Bytes n) size free = n ≡ min size free
TakesAllThatFits Failed size free = Unit {0}

-- a failing call counts one fault, and no other call counts any
abbrev pub faults_after_put : Wrote → ℕ → ℕ
faults_after_put (Bytes n) faults = faults
faults_after_put Failed faults = one_fault_more faults
