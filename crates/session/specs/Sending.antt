-- What a client sends as the end of its parked call, and reads that join a parked call.
use Rattle.std.specs.Prelude.{◌≡◌, ◌<◌, Bool, IsTrue, List, length, Option, Some, None}
use Rattle.std.specs.List.{AllByRecursion}
use Rattle.sp_base.specs.declared.numbers.TenantId.{TenantId}
use Rattle.sp_base.specs.declared.reads.ReadItem.{ReadItem}
use Rattle.sp_base.specs.Limits.{IsArguments}
use Rattle.sp_base.specs.RightsList.{can_write}
use Rattle.ext_mean.specs.Views.{place_of}
use Rattle.records.specs.GrantsList.{GrantsList, RightsList}
use Rattle.rw_set.specs.declared.sent.Sent.{Sent}
use Rattle.rw_set.specs.ReadLists.{read_of}
use Rattle.task.specs.Parking.{ParkedCall}
use Rattle.journal.specs.declared.entry.Entry.{Entry}
use Rattle.book.specs.Standing.{SentOn}
use Rattle.parked.specs.declared.finish.Finish.{Finish}
use Rattle.parked.specs.Taking.{refusal_of}

-- a read may join those of a parked call
pub record MayJoin (parked : ParkedCall) (item : ReadItem) : Type 0 where
  pub fresh : read_of parked.reads (place_of item) ≡ None
  pub room : length parked.reads < 6250

-- what was sent is taken as the run of the parked call
pub record IsSentAs (rights : RightsList) (parked : ParkedCall) (finish : Finish) (sent : Sent) : Type 0 where
  pub call : sent.call ≡ parked.call
  pub reads : sent.reads ≡ parked.reads
  pub outcome : sent.outcome ≡ finish.outcome
  pub writes : sent.writes ≡ finish.writes
  pub taken : refusal_of rights finish.outcome finish.writes ≡ None
  pub within : AllByRecursion (λ write. IsTrue (can_write rights write.table.0)) sent.writes

-- a run that was sent is the tenant's, and may be committed over a journal
pub record SentFits (tenant : Option TenantId) (audit : Bool) (sent : Sent) (journal : List Entry) (grants : GrantsList) : Type 0 where
  pub own : tenant ≡ Some sent.call.caller.tenant
  pub args : IsArguments sent.call.args
  pub ran : SentOn grants audit journal sent.call sent.outcome sent.writes sent.reads
