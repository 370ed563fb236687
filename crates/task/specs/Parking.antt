-- Calls that were handed back to their clients.
use Rattle.std.specs.Prelude.{List}
use Rattle.sp_base.specs.declared.calls.Call.{Call}
use Rattle.sp_base.specs.declared.reads.ReadItem.{ReadItem}
use Rattle.task.specs.Extensions.{ExtValue}
use Rattle.task.specs.Turning.{Live}

-- a call with its extension and the reads that are kept for it
pub record ParkedCall : Type 0 where
  pub call : Call
  pub ext : ExtValue
  pub reads : List ReadItem

-- what is kept of a live call
abbrev pub parked_of : Live → ParkedCall
parked_of live = record { call = live.call; ext = live.ext; reads = live.reads }
