-- Counts of faults and of calls, which stop at the last value of their type.
use Rattle.std.specs.Prelude.{◌⊎◌, ℕ, ◌+◌, ◌-◌, ◌^◌, ◌<◌, ◌≤◌, min}

-- a fault was counted: the count rose, or it stands at its last value; later calls keep this
abbrev pub FaultCounted : ℕ → ℕ → Type 0
FaultCounted before after = (before < after) ⊎ (2 ^ 64 - 1 ≤ after)

-- one fault more
abbrev pub one_fault_more : ℕ → ℕ
one_fault_more faults = min (faults + 1) (2 ^ 64 - 1)

-- one call more
abbrev pub one_call_more : ℕ → ℕ
one_call_more calls = min (calls + 1) (2 ^ 32 - 1)
