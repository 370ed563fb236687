-- What the fields of a line are, by how they are written.
use Rattle.std.specs.Prelude.{Bool, true, false, codes, Ok, ◌≡◌, ◌≢◌, ◌↔◌, ℕ, ◌<◌, ◌≤◌, ◌^◌, List, [], ◌∷◌, ◌++◌, length, Some}
use Rattle.std.specs.Fmt.{decimal}
use Rattle.std.specs.List.{AllByRecursion}
use Rattle.sp_base.specs.Fields.{AreBytes, byte_field}
use Rattle.sp_base.specs.declared.rights.Level.{Level}
use Rattle.sp_base.specs.declared.rights.Level.TheVariants.{Nothing, Read, Write}
use Rattle.sched_text.specs.declared.event.Event.{Event}
use Rattle.sched_text.specs.declared.event.Event.TheVariants as event
use Rattle.sched_text.specs.declared.line.Kind.TheVariants.{Play}
use Rattle.sched_text.specs.declared.line.ScriptLine.{ScriptLine}
use Rattle.sched_text.specs.declared.line.ScriptLine.TheVariants.{Tenant, Table, Policy, Limit, Workers, Ext, Body}
use Rattle.sched_text.specs.Fields.{fields_of, number_of, bytes_of}
use Rattle.sched_text.specs.Fits.{LineFits}
use Rattle.sched_text.specs.Lines.{line_of}

-- fields with one space between each two
abbrev pub spaced : List (List ℕ) → List ℕ
spaced [] = []
spaced (field ∷ []) = field
spaced (field ∷ next ∷ more) = field ++ 32 ∷ spaced (next ∷ more)

-- no byte of the text is this one
abbrev pub Lacks : ℕ → List ℕ → Type 0
Lacks mark text = AllByRecursion (λ byte. byte ≢ mark) text

-- from one to nine fields, none of which has a space
pub record AreFields (fields : List (List ℕ)) : Type 0 where
  pub some : 1 ≤ length fields
  pub few : length fields ≤ 9
  pub apart : AllByRecursion (Lacks 32) fields

-- a line has these fields just if they stand in it with one space between each two
abbrev pub FieldsAreSpaced : Type 0
FieldsAreSpaced = (line : List ℕ) (fields : List (List ℕ)) → AreFields fields → (fields_of line ≡ fields) ↔ (line ≡ spaced fields)

-- a field spells a number just if it is that number in decimal
abbrev pub NumbersAreDecimal : Type 0
NumbersAreDecimal = (field : List ℕ) (number : ℕ) → number < 2 ^ 64 → (number_of field ≡ Some number) ↔ (field ≡ decimal number)

-- a field spells bytes just if it is `x` and two digits for each of them
abbrev pub BytesArePairs : Type 0
BytesArePairs = (field bytes : List ℕ) → (bytes_of field ≡ Some bytes) ↔ (AreBytes bytes × (field ≡ byte_field bytes))

-- ---- how a line is written

abbrev pub level_word : Level → List ℕ
level_word Nothing = codes "nothing"
level_word Read = codes "read"
level_word Write = codes "write"

abbrev pub push_word : Bool → List ℕ
push_word true = codes "push"
push_word false = codes "stay"

-- the fields of an event's line; an extension has a line of its own
abbrev pub event_written : Event → List (List ℕ)
event_written (event.Put tenant table key value) =
    codes "put" ∷ decimal tenant.0 ∷ decimal table.0 ∷ byte_field key ∷ byte_field value ∷ []
event_written (event.Ext tenant text) = []
event_written (event.Begin worker tenant asked) =
    codes "begin" ∷ decimal worker ∷ decimal tenant.0 ∷ decimal asked.caller ∷ decimal asked.number.0
    ∷ decimal asked.ext.0 ∷ decimal asked.budget ∷ push_word asked.push_ok ∷ byte_field asked.args ∷ []
event_written (event.Turn worker quantum) =
    codes "turn" ∷ decimal worker ∷ decimal quantum ∷ []
event_written (event.Steal worker from) = codes "steal" ∷ decimal worker ∷ decimal from ∷ []
event_written (event.Away tenant caller) =
    codes "away" ∷ decimal tenant.0 ∷ decimal caller ∷ []
event_written (event.Cut tenant caller) = codes "cut" ∷ decimal tenant.0 ∷ decimal caller ∷ []

-- the fields of a line
abbrev pub written : ScriptLine → List (List ℕ)
written (Tenant tenant key) = codes "tenant" ∷ decimal tenant.0 ∷ decimal key ∷ []
written (Table table tenant level) =
    codes "table" ∷ decimal table.0 ∷ decimal tenant.0 ∷ level_word level ∷ []
written (Policy policy) = codes "policy" ∷ decimal policy.high ∷ decimal policy.least ∷ []
written (Limit limit) = codes "limit" ∷ decimal limit ∷ []
written (Workers workers) = codes "workers" ∷ decimal workers ∷ []
written (Ext tenant lines) = codes "ext" ∷ decimal tenant.0 ∷ decimal lines ∷ []
written (Body event) = event_written event

-- the numbers of an event have 32 bits, that of a call 64, and bytes are bytes
abbrev pub EventIsWide : Event → Type 0
EventIsWide (event.Put tenant table key value) =
    (tenant.0 < 2 ^ 32) × (table.0 < 2 ^ 32) × AreBytes key × AreBytes value
EventIsWide (event.Ext tenant text) = ⊥
EventIsWide (event.Begin worker tenant asked) =
    (worker < 2 ^ 32) × (tenant.0 < 2 ^ 32) × (asked.caller < 2 ^ 32) × (asked.number.0 < 2 ^ 64)
    × (asked.ext.0 < 2 ^ 32) × AreBytes asked.args
EventIsWide (event.Turn worker quantum) = worker < 2 ^ 32
EventIsWide (event.Steal worker from) = (worker < 2 ^ 32) × (from < 2 ^ 32)
EventIsWide (event.Away tenant caller) = (tenant.0 < 2 ^ 32) × (caller < 2 ^ 32)
EventIsWide (event.Cut tenant caller) = (tenant.0 < 2 ^ 32) × (caller < 2 ^ 32)

-- the same of a line: its key has 64 bits
abbrev pub LineIsWide : ScriptLine → Type 0
LineIsWide (Tenant tenant key) = (tenant.0 < 2 ^ 32) × (key < 2 ^ 64)
LineIsWide (Table table tenant level) = (table.0 < 2 ^ 32) × (tenant.0 < 2 ^ 32)
LineIsWide (Policy policy) = policy.high < 2 ^ 32
LineIsWide (Limit limit) = Unit {0}
LineIsWide (Workers workers) = Unit {0}
LineIsWide (Ext tenant lines) = tenant.0 < 2 ^ 32
LineIsWide (Body event) = EventIsWide event

-- what is in its ranges is read again as it is written
abbrev pub LinesReadBack : Type 0
LinesReadBack = (line : ScriptLine) → LineFits line → LineIsWide line → line_of Play (spaced (written line)) ≡ Ok line
