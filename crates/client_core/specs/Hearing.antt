-- What a client makes of each answer: exactly the answers in turn go on, and any other is the peer's fault.
use Rattle.std.specs.Prelude.{◌≡◌, ◌⊎◌, ℕ, List, [], ◌∷◌, ◌++◌, Option, Some, None, if◌then◌else◌}
use Rattle.std.specs.List.{zip}
use Rattle.sp_base.specs.declared.calls.Call.{Call}
use Rattle.sp_base.specs.declared.numbers.TableId.{TableId}
use Rattle.sp_base.specs.declared.reads.ReadItem.{ReadItem}
use Rattle.ext_mean.specs.declared.refusal.Refusal.{Refusal}
use Rattle.ext_mean.specs.declared.tree.Program.{Program}
use Rattle.ext_check.specs.Checking.{IsAccepted, IsRefused}
use Rattle.wire.specs.declared.answers.Answer.{Answer}
use Rattle.wire.specs.declared.answers.Answer.TheVariants.{Answers, Fetched, Finished, Text}
use Rattle.wire.specs.declared.answers.FetchAnswer.{FetchAnswer}
use Rattle.wire.specs.declared.answers.FetchAnswer.TheVariants as fetched
use Rattle.wire.specs.declared.answers.TextAnswer.{TextAnswer}
use Rattle.wire.specs.declared.answers.TextAnswer.TheVariants as texts
use Rattle.wire.specs.declared.items.Item.{Item}
use Rattle.wire.specs.declared.items.Item.TheVariants as item
use Rattle.client_core.specs.declared.next.Next.{Next}
use Rattle.client_core.specs.declared.stage.Awaited.{Awaited}
use Rattle.client_core.specs.declared.stage.Awaited.TheVariants.{TheText, TheRecord, TheEnd}
use Rattle.client_core.specs.declared.stage.Carried.{Carried}
use Rattle.client_core.specs.declared.stage.Stage.{Stage}
use Rattle.client_core.specs.declared.stage.Stage.TheVariants.{Idle, Asked, Carries, Over}
use Rattle.client_core.specs.Talking.{CoreValue, Known, Said, are_in_turn, carries, ends, fault, knowing, pushed_reads, running, starts}

-- the answer to a batch: one item for each call, in turn
abbrev pub answers_heard : Known → List Call → Answer → Said
answers_heard known calls (Answers items) =
    if are_in_turn calls items then carries known [] (zip calls items) else fault
answers_heard known calls _ = fault

-- the answer to a Fetch: a record joins the reads, and the call starts again on all of them
abbrev pub record_heard : Known → Carried → TableId → List ℕ → FetchAnswer → Said
record_heard known carried table key (fetched.Found version read_at value) =
    starts known (record carried {
      reads = carried.reads
          ++ (record { table = table; key = key; version = version; read_at = read_at; value = value }) ∷ [];
    })
record_heard known carried table key fetched.Denied = fault
record_heard known carried table key fetched.NotParked = ends known carried item.NotParked
record_heard known carried table key fetched.Memory = ends known carried item.Memory
record_heard known carried table key fetched.Many = fault

abbrev pub fetch_heard : Known → Carried → TableId → List ℕ → Answer → Said
fetch_heard known carried table key (Fetched found) = record_heard known carried table key found
fetch_heard known carried table key _ = fault

-- the answer to a Finish: how the call ended, and no second push
abbrev pub ended_heard : Known → Carried → Item → Option (List ReadItem) → Said
ended_heard known carried item None = ends known carried item
ended_heard known carried item (Some reads) = fault

abbrev pub end_heard : Known → Carried → Answer → Said
end_heard known carried (Finished item) = ended_heard known carried item (pushed_reads item)
end_heard known carried _ = fault

-- this is said next, and no more is known
pub record Leads (known : Known) (expected said : Said) (after : Known) : Type 0 where
  pub says : said ≡ expected
  pub knows : after ≡ known

-- a text that is accepted is kept as the one program as which it is accepted, and the call starts
pub record TakesText (known : Known) (carried : Carried) (text : List ℕ) (said : Said) (after : Known) : Type 0 where
  pub program : Program
  pub accepted : IsAccepted text program
  pub only : (other : Program) → IsAccepted text other → program ≡ other
  pub says : said ≡ running known.rights carried program
  pub knows : after ≡ knowing known carried.call.ext program

-- a text that is refused is the peer's fault
pub record RefusesText (known : Known) (text : List ℕ) (said : Said) (after : Known) : Type 0 where
  pub line : ℕ
  pub code : Refusal
  pub is : IsRefused text line code
  pub leads : Leads known fault said after

abbrev pub HearsGiven : Known → Carried → TextAnswer → Said → Known → Type 0
HearsGiven known carried (texts.Text text) said after =
    TakesText known carried text said after ⊎ RefusesText known text said after
HearsGiven known carried (texts.NoExtension count at) said after =
    Leads known (ends known carried (item.NoExtension count at)) said after
HearsGiven known carried texts.Memory said after = Leads known (ends known carried item.Memory) said after

abbrev pub HearsText : Known → Carried → Answer → Said → Known → Type 0
HearsText known carried (Text given) said after = HearsGiven known carried given said after
HearsText known carried _ said after = Leads known fault said after

abbrev pub HearsFor : Known → Carried → Awaited → Answer → Said → Known → Type 0
HearsFor known carried TheText answer said after = HearsText known carried answer said after
HearsFor known carried (TheRecord table key) answer said after =
    Leads known (fetch_heard known carried table key answer) said after
HearsFor known carried TheEnd answer said after = Leads known (end_heard known carried answer) said after

abbrev pub HearsAt : Known → Stage → Answer → Said → Known → Type 0
HearsAt known Idle answer said after = Leads known fault said after
HearsAt known (Asked calls) answer said after = Leads known (answers_heard known calls answer) said after
HearsAt known (Carries carried awaited) answer said after = HearsFor known carried awaited answer said after
HearsAt known Over answer said after = Leads known fault said after

-- what the client says next on this answer, and where it then stands
pub record Hears (core : CoreValue) (answer : Answer) (next : Next) (after : CoreValue) : Type 0 where
  pub tenant : after.tenant ≡ core.tenant
  pub heard : HearsAt core.known core.stage answer (next, after.stage) after.known
