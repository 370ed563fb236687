-- What one call of a source gives, by its answer.
use Rattle.std.specs.Prelude.{◌≡◌, ℕ, ◌≤◌, min, Option, Some, List, [], length, take, drop}
use Rattle.sp_outside.specs.declared.source.Took.{Took}
use Rattle.sp_outside.specs.declared.source.Took.TheVariants.{Bytes, End, Failed}
use Rattle.sp_outside.specs.Faults.{one_fault_more}

-- at least one byte came, and no more than there was room for
abbrev pub ComesWithin : Took → ℕ → Type 0
ComesWithin (Bytes n) room = (1 ≤ n) × (n ≤ room)
ComesWithin End room = Unit {0}
ComesWithin Failed room = Unit {0}

-- the first n bytes of what was left now stand at the front of `into`, and the rest is left
pub record GivesFirst (n : ℕ) (bytes into : List ℕ) (after : Option (List ℕ)) : Type 0 where
  pub enough : n ≤ length bytes
  pub front : take n into ≡ take n bytes
  pub rest : after ≡ Some (drop n bytes)

-- a source that had these bytes left: it gives the first of them, or had none, or gives nothing
abbrev pub Takes : Took → List ℕ → List ℕ → Option (List ℕ) → Type 0
Takes (Bytes n) bytes into after = GivesFirst n bytes into after
Takes End bytes into after = (bytes ≡ []) × (after ≡ Some [])
Takes Failed bytes into after = after ≡ Some bytes

-- where bytes came, they are as many as are left and as there is room for
abbrev pub GivesAllThatFits : Took → List ℕ → ℕ → Type 0
GivesAllThatFits (Bytes n) bytes room = n ≡ min room (length bytes)
GivesAllThatFits End bytes room = Unit {0}
GivesAllThatFits Failed bytes room = Unit {0}

-- a failing call counts one fault, and no other call counts any
abbrev pub faults_after_take : Took → ℕ → ℕ
faults_after_take (Bytes n) faults = faults
faults_after_take End faults = faults
faults_after_take Failed faults = one_fault_more faults
