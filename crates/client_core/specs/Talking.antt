-- The talk of a client about a batch of its calls: what it says next, and where the talk then stands.
use Rattle.std.specs.Prelude.{ℕ, ◌==◌, ◌&&◌, Bool, true, false, not, List, [], ◌∷◌, ◌++◌, map, nat_le, Option, Some, None, if◌then◌else◌}
use Rattle.std.specs.Option.{option_map_or}
use Rattle.sp_base.specs.declared.calls.Asked.{Asked}
use Rattle.sp_base.specs.declared.calls.Call.{Call}
use Rattle.sp_base.specs.declared.limits.TheConstants.{MOST_BUDGET}
use Rattle.sp_base.specs.declared.numbers.ExtNo.{ExtNo}
use Rattle.sp_base.specs.declared.numbers.TableId.{TableId}
use Rattle.sp_base.specs.declared.numbers.TenantId.{TenantId}
use Rattle.sp_base.specs.declared.outcomes.Outcome.{Outcome}
use Rattle.sp_base.specs.declared.outcomes.Outcome.TheVariants as outcome
use Rattle.sp_base.specs.declared.reads.ReadItem.{ReadItem}
use Rattle.sp_base.specs.declared.rights.Level.{Level}
use Rattle.sp_base.specs.declared.writes.Write.{Write}
use Rattle.ext_mean.specs.declared.run.Run.{Run}
use Rattle.ext_mean.specs.declared.run.Run.TheVariants as run
use Rattle.ext_mean.specs.declared.tree.Program.{Program}
use Rattle.ext_mean.specs.Meaning.{mean}
use Rattle.ext_mean.specs.Views.{part, place_of}
use Rattle.parked.specs.Taking.{stands_twice}
use Rattle.wire.specs.declared.items.Item.{Item}
use Rattle.wire.specs.declared.items.Item.TheVariants as item
use Rattle.wire.specs.declared.requests.Request.TheVariants.{Fetch, Finish, TextOf}
use Rattle.client_core.specs.declared.answered.CallAnswer.{CallAnswer}
use Rattle.client_core.specs.declared.next.Next.{Next}
use Rattle.client_core.specs.declared.next.Next.TheVariants.{Send, Answered, PeerFault}
use Rattle.client_core.specs.declared.stage.Awaited.TheVariants.{TheText, TheRecord, TheEnd}
use Rattle.client_core.specs.declared.stage.Carried.{Carried}
use Rattle.client_core.specs.declared.stage.Stage.{Stage}
use Rattle.client_core.specs.declared.stage.Stage.TheVariants.{Idle, Carries, Over}

-- what a client knows: the rights of its Welcome, and the programs of the extensions that it was given,
-- with their numbers, the newest first
pub record Known : Type 0 where
  pub rights : List (TableId × Level)
  pub programs : List (ExtNo × Program)

-- what is known with one extension more
abbrev pub knowing : Known → ExtNo → Program → Known
knowing known number program = record known { programs = (number, program) ∷ known.programs }

-- what contracts see of a client: its tenant, what it knows, and where its talk stands
pub record CoreValue : Type 0 where
  pub tenant : TenantId
  pub known : Known
  pub stage : Stage

-- what is said next, with where the talk then stands
abbrev pub Said : Type 0
Said = Next × Stage

-- a call as its batch asks it
abbrev pub asked_of : Call → Asked
asked_of call = record {
  caller = call.caller.number;
  number = call.number;
  ext = call.ext;
  budget = call.budget;
  push_ok = call.push_ok;
  args = call.args;
}

-- the program of the extension with this number, where it was given
abbrev pub program_in : List (ExtNo × Program) → ExtNo → Option Program
program_in [] number = None
program_in (known ∷ programs) number = if known.0.0 == number.0 then Some known.1 else program_in programs number

-- the peer is at fault, and the client takes no more calls
abbrev pub fault : Said
fault = (PeerFault, Over)

-- how the call ended is sent
abbrev pub finishing : Carried → Outcome → List Write → Said
finishing carried outcome writes =
    (Send (Finish carried.call.caller.number carried.call.number outcome writes), Carries carried TheEnd)

-- what a run leads to: a record that it wants is fetched, any other run is sent as the call's end
abbrev pub after_run : Carried → Run → Said
after_run carried (run.Wants table key used) =
    (Send (Fetch carried.call.caller.number carried.call.number table key), Carries carried (TheRecord table key))
after_run carried (run.Done reply writes used) = finishing carried (outcome.Done reply) writes
after_run carried (run.Trapped trap used) = finishing carried (outcome.Trapped trap) []
after_run carried run.Spent = finishing carried outcome.Killed []

-- The call runs from its arguments, with its whole budget and the rights of Welcome, on all the reads
-- that were given for it.
abbrev pub running : List (TableId × Level) → Carried → Program → Said
running rights carried program =
    after_run carried (mean program carried.call.args carried.call.budget (part carried.reads rights))

-- it runs where its extension was given, else the text of that is asked for
abbrev pub starts_with : Known → Carried → Option Program → Said
starts_with known carried (Some program) = running known.rights carried program
starts_with known carried None = (Send (TextOf carried.call.ext), Carries carried TheText)

abbrev pub starts : Known → Carried → Said
starts known carried = starts_with known carried (program_in known.programs carried.call.ext)

-- the reads of a pushed call
abbrev pub pushed_reads : Item → Option (List ReadItem)
pushed_reads (item.Pushed load spent reads) = Some reads
pushed_reads _ = None

-- Each call with its item, in order: one that was pushed is carried to its end before the next is looked
-- at, and behind the last one all are answered.
abbrev pub carries : Known → List CallAnswer → List (Call × Item) → Said
carries known answered [] = (Answered answered, Idle)
carries known answered (told ∷ later) =
    option_map_or
    (λ (reads : List ReadItem). starts known
    (record { answered = answered; call = told.0; reads = reads; later = later }))
    (pushed_reads told.1)
    (carries known (answered ++ (record { item = told.1; away = false }) ∷ []) later)

-- the call that was carried has ended so, and the later ones are looked at
abbrev pub ends : Known → Carried → Item → Said
ends known carried item =
    carries known (carried.answered ++ (record { item = item; away = true }) ∷ []) carried.later

-- An item is in turn for its call: only a call that allows it, with a budget of 1 to 100,000 units, is
-- pushed, and no place stands twice in its reads.
abbrev pub may_carry : Call → List ReadItem → Bool
may_carry call reads =
    call.push_ok && nat_le 1 call.budget && nat_le call.budget MOST_BUDGET && not (stands_twice (map place_of reads))

abbrev pub is_in_turn : Call → Item → Bool
is_in_turn call item = option_map_or (may_carry call) (pushed_reads item) true

-- there is one item for each call, and each is in turn for it
abbrev pub are_in_turn : List Call → List Item → Bool
are_in_turn [] [] = true
are_in_turn [] (item ∷ items) = false
are_in_turn (call ∷ calls) [] = false
are_in_turn (call ∷ calls) (item ∷ items) = is_in_turn call item && are_in_turn calls items
