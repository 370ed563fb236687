-- What a client may be held to: the end that it sends is the meaning on the records that it was given.
use Rattle.std.specs.Prelude.{◌≡◌, ◌≢◌, ℕ, List, Some}
use Rattle.sp_base.specs.declared.numbers.CallNo.{CallNo}
use Rattle.sp_base.specs.declared.outcomes.Outcome.{Outcome}
use Rattle.sp_base.specs.declared.writes.Write.{Write}
use Rattle.ext_mean.specs.declared.tree.Program.{Program}
use Rattle.ext_mean.specs.Meaning.{mean}
use Rattle.ext_mean.specs.Outcomes.{EndsWith}
use Rattle.ext_mean.specs.Views.{part}
use Rattle.wire.specs.Requests.{FitsRequest}
use Rattle.wire.specs.declared.requests.Request.TheVariants.{Finish}
use Rattle.client_core.specs.declared.answered.CallAnswer.{CallAnswer}
use Rattle.client_core.specs.declared.next.Next.{Next}
use Rattle.client_core.specs.declared.next.Next.TheVariants.{Send, Answered, PeerFault, Memory}
use Rattle.client_core.specs.declared.stage.Carried.{Carried}
use Rattle.client_core.specs.declared.stage.Awaited.TheVariants.{TheEnd}
use Rattle.client_core.specs.declared.stage.Stage.{Stage}
use Rattle.client_core.specs.declared.stage.Stage.TheVariants.{Idle, Carries}
use Rattle.client_core.specs.Talking.{Known, Said, program_in}

-- Outcome and writes are what the program of the call that is carried means with the call's arguments
-- and whole budget and the rights of Welcome, on the reads given for it, in their order.
pub record IsMeant (known : Known) (stage : Stage) (caller : ℕ) (number : CallNo) (outcome : Outcome) (writes : List Write) : Type 0 where
  pub carried : Carried
  pub carries : stage ≡ Carries carried TheEnd
  pub caller_is : caller ≡ carried.call.caller.number
  pub number_is : number ≡ carried.call.number
  pub program : Program
  pub given : program_in known.programs carried.call.ext ≡ Some program
  pub ends : EndsWith (mean program carried.call.args carried.call.budget (part carried.reads known.rights)) outcome writes

-- each end that is sent is meant
pub record FinishesAsMeant (known : Known) (said : Said) : Type 0 where
  pub each : (caller : ℕ) (number : CallNo) (outcome : Outcome) (writes : List Write)
      → said.0 ≡ Send (Finish caller number outcome writes) → IsMeant known said.1 caller number outcome writes

-- each field of a request that is sent is within its range
abbrev pub FitsNext : Next → Type 0
FitsNext (Send request) = FitsRequest request
FitsNext (Answered answers) = Unit {0}
FitsNext PeerFault = Unit {0}
FitsNext Memory = Unit {0}

-- where all calls are answered, nothing is under way
abbrev pub RestsAnswered : Said → Type 0
RestsAnswered said = (answers : List CallAnswer) → said.0 ≡ Answered answers → said.1 ≡ Idle

-- what is kept of all that is said: it is not that memory is lacking, it fits, an end is meant, and
-- behind the answers nothing is under way
pub record IsSayable (known : Known) (said : Said) : Type 0 where
  pub told : said.0 ≢ Memory
  pub fits : FitsNext said.0
  pub meant : FinishesAsMeant known said
  pub rests : RestsAnswered said
