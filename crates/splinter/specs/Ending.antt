-- How a command ends, and why.
use Rattle.std.specs.Prelude.{◌≡◌, ◌≤◌, ◌⊎◌, ℕ, List, ◌++◌, Option, Some}
use Rattle.sp_outside.specs.Faults.{FaultCounted}
use Rattle.sp_outside.specs.Writing.{HoldsPrefix}
use Rattle.splinter.specs.declared.status.Status.{Status}
use Rattle.splinter.specs.declared.status.Status.TheVariants as status

-- A fault of reading or of writing was counted, where that ended the command. The counts of the source
-- and of the sink never fall.
pub record Causes (result : Status) (source_before source_after sink_before sink_after : ℕ) : Type 0 where
  pub read_fault : result ≡ status.ReadFault → FaultCounted source_before source_after
  pub write_fault : result ≡ status.WriteFault → FaultCounted sink_before sink_after
  pub source_faults : source_before ≤ source_after
  pub sink_faults : sink_before ≤ sink_after

-- after a read fault, and where memory ran out, nothing was written: the sink is as it was
pub record WritesNothing {Sink : Type 0} (result : Status) (before after : Sink) : Type 0 where
  pub unread : result ≡ status.ReadFault → after ≡ before
  pub no_memory : result ≡ status.Memory → after ≡ before

-- a text was written whole, under this status, or writing failed and a prefix stands
pub record WritesWhole (result whole : Status) (held text : List ℕ) (after : Option (List ℕ)) : Type 0 where
  pub status_is : result ≡ whole
  pub written : after ≡ Some (held ++ text)

pub record WritesPart (result : Status) (held text : List ℕ) (after : Option (List ℕ)) : Type 0 where
  pub status_is : result ≡ status.WriteFault
  pub prefix : HoldsPrefix held text after

abbrev pub WritesText : Status → Status → List ℕ → List ℕ → Option (List ℕ) → Type 0
WritesText result whole held text after =
    WritesWhole result whole held text after ⊎ WritesPart result held text after
