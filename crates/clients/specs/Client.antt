-- The client of a pushed call: what it was told of the call, and what it sent last.
use Rattle.std.specs.Prelude.{◌≡◌, true, List, [], ◌∷◌, Some}
use Rattle.sp_base.specs.declared.calls.Call.{Call}
use Rattle.sp_base.specs.declared.numbers.TableId.{TableId}
use Rattle.sp_base.specs.declared.rights.Level.{Level}
use Rattle.ext_mean.specs.declared.tree.Program.{Program}
use Rattle.task.specs.Parking.{ParkedCall}
use Rattle.wire.specs.declared.answers.Answer.{Answer}
use Rattle.wire.specs.declared.requests.Request.{Request}
use Rattle.client_core.specs.declared.next.Next.{Next}
use Rattle.client_core.specs.declared.next.Next.TheVariants.{Send}
use Rattle.client_core.specs.declared.stage.Carried.{Carried}
use Rattle.client_core.specs.declared.stage.Stage.TheVariants.{Asked}
use Rattle.client_core.specs.Hearing.{Hears}
use Rattle.client_core.specs.Talking.{CoreValue, after_run, program_in, starts}
use Rattle.clients.specs.Pushed.{Pushed, meant}

-- a call at its client: what is kept of it in the server, with the rights that its client knows
abbrev pub at_client : ParkedCall → CoreValue → Pushed
at_client parked client =
    record { call = parked.call; ext = parked.ext; rights = client.known.rights; reads = parked.reads }

-- the call as its client asked it: it allowed the push
abbrev pub allowed : Call → Call
allowed call = record call { push_ok = true }

-- a client that has asked this call alone, and knows its extension
abbrev pub asking : Call → Program → List (TableId × Level) → CoreValue
asking call program rights = record {
  tenant = call.caller.tenant;
  known = record { rights = rights; programs = (call.ext, program) ∷ [] };
  stage = Asked (call ∷ []);
}

-- what a client carries is this call, on exactly the reads that were given for it, and it knows the
-- call's extension
pub record CarriesCall (client : CoreValue) (pushed : Pushed) (carried : Carried) : Type 0 where
  pub call : carried.call ≡ allowed pushed.call
  pub reads : carried.reads ≡ pushed.reads
  pub rights : client.known.rights ≡ pushed.rights
  pub knows : program_in client.known.programs pushed.call.ext ≡ Some pushed.ext.program

-- the client carries the call, and what it sent last, and waits for, is what the program leads to
pub record IsCarriedBy (client : CoreValue) (pushed : Pushed) (sent : Request) : Type 0 where
  pub carried : Carried
  pub carries : CarriesCall client pushed carried
  pub said : (Send sent, client.stage) ≡ after_run carried (meant pushed)

-- behind this answer the client runs the call, on the reads that were given for it
pub record RunsBehind (client : CoreValue) (answer : Answer) (pushed : Pushed) : Type 0 where
  pub carried : Carried
  pub carries : CarriesCall client pushed carried
  pub runs : (next : Next) (after : CoreValue) → Hears client answer next after
      → ((next, after.stage) ≡ starts client.known carried) × (after.known ≡ client.known)
