-- What is wrong with a line after the lines before it, and what it adds to them.
use Rattle.std.specs.Prelude.{ℕ, zero, nat_le, Bool, true, false, not, ◌&&◌, List, [], ◌∷◌, ◌++◌, length, take, Option, Some, None, unwrap_or, if◌then◌else◌}
use Rattle.std.specs.List.{concat}
use Rattle.std.specs.Option.{is_some}
use Rattle.sp_base.specs.declared.numbers.TenantId.{TenantId}
use Rattle.sched_text.specs.declared.code.LineCode.{LineCode}
use Rattle.sched_text.specs.declared.code.LineCode.TheVariants as code
use Rattle.sched_text.specs.declared.draft.Draft.{Draft}
use Rattle.sched_text.specs.declared.event.Event.{Event}
use Rattle.sched_text.specs.declared.event.Event.TheVariants as event
use Rattle.sched_text.specs.declared.line.ScriptLine.{ScriptLine}
use Rattle.sched_text.specs.declared.line.ScriptLine.TheVariants.{Tenant, Table, Policy, Limit, Workers, Ext, Body}
use Rattle.sched_text.specs.declared.script.Script.{Script}
use Rattle.sched_text.specs.Texts.{has_lines}
use Rattle.records.specs.GrantsList.{rights_of}
use Rattle.sched_text.specs.Tenants.{inserted, has_tenant, has_table, granted}

-- ---- what a line names

-- the tenant of an event
abbrev pub tenant_of : Event → Option TenantId
tenant_of (event.Put tenant table key value) = Some tenant
tenant_of (event.Ext tenant text) = Some tenant
tenant_of (event.Begin worker tenant asked) = Some tenant
tenant_of (event.Turn worker quantum) = None
tenant_of (event.Steal worker from) = None
tenant_of (event.Away tenant caller) = Some tenant
tenant_of (event.Cut tenant caller) = Some tenant

-- the tenant that has to be declared before the line
abbrev pub tenant_named : ScriptLine → Option TenantId
tenant_named (Tenant tenant key) = None
tenant_named (Table table tenant level) = Some tenant
tenant_named (Policy policy) = None
tenant_named (Limit limit) = None
tenant_named (Workers workers) = None
tenant_named (Ext tenant lines) = Some tenant
tenant_named (Body event) = tenant_of event

-- whether each worker of an event is below the count
abbrev pub has_workers : ℕ → Event → Bool
has_workers count (event.Begin worker tenant asked) = not (nat_le count worker)
has_workers count (event.Turn worker quantum) = not (nat_le count worker)
has_workers count (event.Steal worker from) = not (nat_le count worker) && not (nat_le count from)
has_workers count _ = true

-- ---- the lines before

-- how many workers there are: one where no line says so
abbrev pub workers_of : Draft → ℕ
workers_of draft = unwrap_or draft.workers 1

-- ---- what is wrong with a line, in the order of the codes

-- Order: a head line behind a body line
abbrev pub is_late : Draft → ScriptLine → Bool
is_late draft (Ext tenant lines) = false
is_late draft (Body event) = false
is_late draft _ = not (nat_le (length draft.events) 0)

-- Twice: what the line declares is declared
abbrev pub is_repeated : Draft → ScriptLine → Bool
is_repeated draft (Tenant tenant key) = has_tenant draft.rights tenant
is_repeated draft (Table table tenant level) = has_table (rights_of draft.rights tenant) table
is_repeated draft (Policy policy) = is_some draft.policy
is_repeated draft (Limit limit) = is_some draft.limit
is_repeated draft (Workers workers) = is_some draft.workers
is_repeated draft _ = false

-- NoTenant: the tenant that the line names is not declared
abbrev pub is_undeclared : Draft → Option TenantId → Bool
is_undeclared draft None = false
is_undeclared draft (Some tenant) = not (has_tenant draft.rights tenant)

abbrev pub lacks_tenant : Draft → ScriptLine → Bool
lacks_tenant draft line = is_undeclared draft (tenant_named line)

-- NoWorker: a worker that the line names is not below the count
abbrev pub lacks_worker : Draft → ScriptLine → Bool
lacks_worker draft (Body event) = not (has_workers (workers_of draft) event)
lacks_worker draft _ = false

-- Text: the lines behind it end before those of its text
abbrev pub lacks_text : List (List ℕ) → ScriptLine → Bool
lacks_text behind (Ext tenant lines) = not (has_lines lines behind)
lacks_text behind _ = false

-- Many: there are 1,024 tenants before it, or 64 tables of the tenant
abbrev pub is_too_many : Draft → ScriptLine → Bool
is_too_many draft (Tenant tenant key) = nat_le 1024 (length draft.rights)
is_too_many draft (Table table tenant level) = nat_le 64 (length (rights_of draft.rights tenant))
is_too_many draft _ = false

-- the first code whose test is passed
abbrev pub first_code : List (Bool × LineCode) → Option LineCode
first_code [] = None
first_code (row ∷ rows) = if row.0 then Some row.1 else first_code rows

-- the code of a line behind the lines of the draft, with these lines behind it
unfoldable pub code_of : Draft → List (List ℕ) → ScriptLine → Option LineCode
code_of draft behind line = first_code
    ((is_late draft line, code.Order)
    ∷ (is_repeated draft line, code.Twice)
    ∷ (lacks_tenant draft line, code.NoTenant)
    ∷ (lacks_worker draft line, code.NoWorker)
    ∷ (lacks_text behind line, code.Text)
    ∷ (is_too_many draft line, code.Many)
    ∷ [])

-- ---- what a line adds

-- the draft with one more event, of the line of this number
abbrev pub with_event : ℕ → Event → Draft → Draft
with_event number event draft = record draft { events = draft.events ++ (number, event) ∷ [] }

-- how many of the lines behind it a line takes
abbrev pub lines_taken : ScriptLine → ℕ
lines_taken (Ext tenant lines) = lines
lines_taken _ = zero

-- the draft with what the line of this number says, with these lines behind it
unfoldable pub with_line : ℕ → List (List ℕ) → ScriptLine → Draft → Draft
with_line number behind (Tenant tenant key) draft = record draft {
  tenants = inserted tenant key draft.tenants;
  rights = inserted tenant [] draft.rights;
}
with_line number behind (Table table tenant level) draft =
    record draft { rights = granted tenant table level draft.rights }
with_line number behind (Policy policy) draft = record draft { policy = Some policy }
with_line number behind (Limit limit) draft = record draft { limit = Some limit }
with_line number behind (Workers workers) draft = record draft { workers = Some workers }
with_line number behind (Ext tenant lines) draft =
    with_event number (event.Ext tenant (concat (take lines behind))) draft
with_line number behind (Body event) draft = with_event number event draft

-- the draft before the first line
unfoldable pub no_lines : Draft
no_lines = record { tenants = []; rights = []; policy = None; limit = None; workers = None; events = [] }

-- the script of a draft: without its lines the journal's limit is 1,048,576, there is one worker, and
-- calls are pushed from a load of 64 and 1,000 units on
unfoldable pub script_of : Draft → Script
script_of draft = record {
  head = record {
    tenants = draft.tenants;
    rights = draft.rights;
    policy = unwrap_or draft.policy (record { high = 64; least = 1000 });
    limit = unwrap_or draft.limit 1048576;
    workers = workers_of draft;
  };
  events = draft.events;
}
