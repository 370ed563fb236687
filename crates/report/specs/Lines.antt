-- The text of answer lines.
use Rattle.std.specs.Prelude.{ℕ, Bool, true, false, List, [], ◌∷◌, ◌++◌, codes}
use Rattle.std.specs.Fmt.{decimal}
use Rattle.std.specs.List.{concat, flat_map}
use Rattle.sp_base.specs.declared.numbers.CallNo.{CallNo}
use Rattle.sp_base.specs.declared.numbers.Caller.{Caller}
use Rattle.sp_base.specs.declared.numbers.TableId.{TableId}
use Rattle.sp_base.specs.declared.outcomes.Outcome.{Outcome}
use Rattle.sp_base.specs.declared.outcomes.Outcome.TheVariants as outcome
use Rattle.sp_base.specs.declared.outcomes.Trap.{Trap}
use Rattle.sp_base.specs.declared.outcomes.Trap.TheVariants as trap
use Rattle.ext_mean.specs.declared.refusal.Refusal.{Refusal}
use Rattle.ext_mean.specs.Refusals.{refusal_word}
use Rattle.report.specs.declared.line.Line.{Line}
use Rattle.report.specs.declared.line.Line.TheVariants as line
use Rattle.report.specs.declared.line.Prefix.{Prefix}
use Rattle.report.specs.declared.line.Prefix.TheVariants as prefix
use Rattle.report.specs.declared.line.Said.{Said}
use Rattle.report.specs.declared.line.Said.TheVariants as said
use Rattle.sp_base.specs.Fields.{byte_field}

-- further fields of a line: one space before each
abbrev pub spaced : List (List ℕ) → List ℕ
spaced fields = flat_map (λ (field : List ℕ). 32 ∷ field) fields

-- a line of fields, separated by one space, with its end
abbrev pub line_of : List ℕ → List (List ℕ) → List ℕ
line_of first fields = first ++ (spaced fields ++ 10 ∷ [])

-- a word and a number
abbrev pub counted : List ℕ → ℕ → List (List ℕ)
counted word number = word ∷ decimal number ∷ []

-- a word that stands only where it is due
abbrev pub marked : Bool → List ℕ → List (List ℕ)
marked true word = word ∷ []
marked false word = []

abbrev pub trap_number : Trap → ℕ
trap_number trap.Range = 1
trap_number trap.Divide = 2
trap_number trap.Size = 3
trap_number trap.Denied = 4
trap_number trap.Width = 5

-- `done CODE BYTES`, `trap N` or `killed`
abbrev pub outcome_fields : Outcome → List (List ℕ)
outcome_fields (outcome.Done reply) = codes "done" ∷ decimal reply.code ∷ byte_field reply.bytes ∷ []
outcome_fields (outcome.Trapped trap) = codes "trap" ∷ decimal (trap_number trap) ∷ []
outcome_fields outcome.Killed = codes "killed" ∷ []

-- `T.C.NO`
abbrev pub call_name : Caller → CallNo → List ℕ
call_name caller number =
    concat (decimal caller.tenant.0 ∷ codes "." ∷ decimal caller.number ∷ codes "." ∷ decimal number.0 ∷ [])

-- `read TABLE KEY VERSION`, and ` pushed` where the call was then pushed to its client
abbrev pub read_said : TableId → List ℕ → ℕ → Bool → List (List ℕ)
read_said table key version pushed =
    codes "read" ∷ decimal table.0 ∷ byte_field key ∷ decimal version ∷ marked pushed (codes "pushed")

-- `conflict TABLE KEY READ NOW`
abbrev pub conflict_fields : TableId → List ℕ → ℕ → ℕ → List (List ℕ)
conflict_fields table key read now =
    codes "conflict" ∷ decimal table.0 ∷ byte_field key ∷ decimal read ∷ decimal now ∷ []

-- what is said of a call, behind its name
abbrev pub said_fields : Said → List (List ℕ)
said_fields said.Queued = codes "queued" ∷ []
said_fields (said.Busy number) = counted (codes "busy") number.0
said_fields (said.NoExtension count) = counted (codes "no-extension") count
said_fields (said.Read table key version pushed) = read_said table key version pushed
said_fields (said.On spent pushed) = counted (codes "on") spent ++ marked pushed (codes "pushed")
said_fields (said.Committed n outcome) = counted (codes "committed") n ++ outcome_fields outcome
said_fields (said.Stale last) = counted (codes "stale") last
said_fields (said.Conflict table key read now) = conflict_fields table key read now
said_fields said.Full = codes "full" ∷ []
said_fields said.Moved = codes "moved" ∷ []
said_fields said.Cut = codes "cut" ∷ []
said_fields said.Repeated = codes "repeated" ∷ []
said_fields said.BadBudget = codes "bad-budget" ∷ []
said_fields (said.Foreign table) = counted (codes "foreign") table.0
said_fields (said.Shape code) = counted (codes "shape") code
said_fields said.Lied = codes "lied" ∷ []
said_fields said.NotParked = codes "not-parked" ∷ []
said_fields said.Memory = codes "memory" ∷ []

-- `rejected LINE CODE`
abbrev pub rejected_fields : ℕ → Refusal → List (List ℕ)
rejected_fields line code = codes "rejected" ∷ decimal line ∷ refusal_word code ∷ []

-- what a line says, behind its prefix; a call that was answered away from the server ends with `away`
abbrev pub line_fields : Line → List (List ℕ)
line_fields (line.Put n) = codes "put" ∷ decimal n ∷ []
line_fields line.Denied = codes "denied" ∷ []
line_fields line.Full = codes "full" ∷ []
line_fields (line.Installed n ext) =
    codes "installed" ∷ decimal n ∷ codes "ext" ∷ decimal ext.0 ∷ []
line_fields (line.Rejected at code) = rejected_fields at code
line_fields line.Memory = codes "memory" ∷ []
line_fields line.Idle = codes "idle" ∷ []
line_fields (line.Of caller number said away) =
    call_name caller number ∷ (said_fields said ++ marked away (codes "away"))

-- the line's number in the script, or the word of the drain
abbrev pub prefix_field : Prefix → List ℕ
prefix_field (prefix.At n) = decimal n
prefix_field prefix.Drain = codes "drain"

-- an answer line
abbrev pub answer_text : Prefix → Line → List ℕ
answer_text prefix line = line_of (prefix_field prefix) (line_fields line)
