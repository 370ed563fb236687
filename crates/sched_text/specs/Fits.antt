-- What a line says is in its ranges, and so is a whole script.
use Rattle.std.specs.Prelude.{◌≡◌, ◌≢◌, ℕ, ◌≤◌, true, List, length, map, IfSome}
use Rattle.std.specs.List.{AllByRecursion}
use Rattle.sp_base.specs.declared.calls.Asked.{Asked}
use Rattle.sp_base.specs.declared.rights.Level.TheVariants.{Nothing}
use Rattle.sp_base.specs.Limits.{IsKey, IsValue, IsArguments}
use Rattle.sched_text.specs.declared.draft.Draft.{Draft}
use Rattle.sched_text.specs.declared.event.Event.{Event}
use Rattle.sched_text.specs.declared.event.Event.TheVariants as event
use Rattle.sched_text.specs.declared.line.ScriptLine.{ScriptLine}
use Rattle.sched_text.specs.declared.line.ScriptLine.TheVariants.{Tenant, Table, Policy, Limit, Workers, Ext, Body}
use Rattle.sched_text.specs.declared.script.Script.{Script}
use Rattle.sched_text.specs.Drafts.{has_workers, workers_of}
use Rattle.records.specs.GrantsList.{TenantsRise}

-- a number of this range
pub record IsWithin (least most number : ℕ) : Type 0 where
  pub low : least ≤ number
  pub high : number ≤ most

-- the key and the value of a record that is put
pub record IsPut (key value : List ℕ) : Type 0 where
  pub key_size : IsKey key
  pub value_size : IsValue value

-- a call that is asked for
pub record IsAsked (asked : Asked) : Type 0 where
  pub number : 1 ≤ asked.number.0
  pub budget : IsWithin 1 100000 asked.budget
  pub args : IsArguments asked.args

-- the fields of an event
abbrev pub EventFits : Event → Type 0
EventFits (event.Put tenant table key value) = IsPut key value
EventFits (event.Ext tenant text) = Unit {0}
EventFits (event.Begin worker tenant asked) = IsAsked asked
EventFits (event.Turn worker quantum) = IsWithin 1 10000 quantum
EventFits (event.Steal worker from) = Unit {0}
EventFits (event.Away tenant caller) = Unit {0}
EventFits (event.Cut tenant caller) = Unit {0}

-- the fields of a line
abbrev pub LineFits : ScriptLine → Type 0
LineFits (Tenant tenant key) = Unit {0}
LineFits (Table table tenant level) = level ≢ Nothing
LineFits (Policy policy) = policy.least ≤ 100000
LineFits (Limit limit) = IsWithin 1 1048576 limit
LineFits (Workers workers) = IsWithin 1 64 workers
LineFits (Ext tenant lines) = IsWithin 1 16384 lines
LineFits (Body event) = EventFits event

-- an event of a script with so many workers
pub record IsEvent (workers : ℕ) (event : Event) : Type 0 where
  pub fields : EventFits event
  pub has_workers : has_workers workers event ≡ true

-- what the lines so far declare is in its ranges
pub record DraftFits (draft : Draft) : Type 0 where
  pub tenants : map (λ row. row.0) draft.tenants ≡ map (λ row. row.0) draft.rights
  pub rising : TenantsRise 0 draft.rights
  pub few : length draft.rights ≤ 1024
  pub policy : IfSome draft.policy (λ policy. policy.least ≤ 100000)
  pub limit : IfSome draft.limit (IsWithin 1 1048576)
  pub workers : IfSome draft.workers (IsWithin 1 64)
  pub events : AllByRecursion (λ row. IsEvent (workers_of draft) row.1) draft.events

-- the tenants with rights are those with keys and strictly increase, and all numbers are in their
-- ranges
pub record IsScript (script : Script) : Type 0 where
  pub tenants : map (λ row. row.0) script.head.tenants ≡ map (λ row. row.0) script.head.rights
  pub rising : TenantsRise 0 script.head.rights
  pub few : length script.head.rights ≤ 1024
  pub policy : script.head.policy.least ≤ 100000
  pub limit : IsWithin 1 1048576 script.head.limit
  pub workers : IsWithin 1 64 script.head.workers
  pub events : AllByRecursion (λ row. IsEvent script.head.workers row.1) script.events
