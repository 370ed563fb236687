-- What a journal leaves: records with their versions, extensions, and each caller's last call.
use Rattle.std.specs.Prelude.{ℕ, zero, suc, ◌+◌, ◌==◌, ◌&&◌, Bool, List, [], ◌∷◌, Option, Some, None, slice_get, if◌then◌else◌}
use Rattle.sp_base.specs.declared.numbers.Caller.{Caller}
use Rattle.sp_base.specs.declared.numbers.TenantId.{TenantId}
use Rattle.sp_base.specs.declared.numbers.TableId.{TableId}
use Rattle.sp_base.specs.declared.writes.Change.{Change}
use Rattle.sp_base.specs.declared.writes.Change.TheVariants as change
use Rattle.sp_base.specs.declared.writes.Write.{Write}
use Rattle.sp_base.specs.Places.{Place, Tables, same_place}
use Rattle.records.specs.Records.{Record, absent, place_at, put_record}
use Rattle.journal.specs.declared.entry.Entry.{Entry}
use Rattle.journal.specs.declared.entry.Entry.TheVariants.{Invoke, Put, Install}

-- entry n puts a value: the version is one more than the entry's number
abbrev pub put_by : ℕ → List ℕ → Record
put_by n value = put_record (n + 1) value

abbrev pub changed_by : ℕ → Change → Record
changed_by n (change.Put value) = put_by n value
changed_by n change.Del = absent

-- what stands at a place after the changes of entry n, in their order
abbrev pub after_changes : ℕ → List Write → Place → Record → Record
after_changes n [] place before = before
after_changes n (write ∷ writes) place before =
    after_changes n writes place
    (if same_place (place_at write.table write.key) place then changed_by n write.change else before)

-- what stands at a place after entry n
abbrev pub after_entry : ℕ → Entry → Place → Record → Record
after_entry n (Invoke call outcome writes reads home) place before =
    after_changes n writes place before
after_entry n (Put tenant table key value) place before =
    if same_place (place_at table key) place then put_by n value else before
after_entry n (Install tenant text) place before = before

-- what stands at a place after these entries, the first of which is entry n
abbrev pub after_entries : ℕ → List Entry → Place → Record → Record
after_entries n [] place before = before
after_entries n (entry ∷ entries) place before =
    after_entries (n + 1) entries place (after_entry n entry place before)

-- what a journal leaves at a place, where nothing stood before it
abbrev pub record_of : List Entry → Place → Record
record_of journal place = after_entries 0 journal place absent

-- the tables that a journal leaves
abbrev pub tables_of : List Entry → Tables
tables_of journal place = (record_of journal place).value

-- the version of a place: 0 where it is absent, else one more than the number of the entry that put
-- it last
abbrev pub version_of : List Entry → Place → ℕ
version_of journal place = (record_of journal place).version

-- the value that an entry puts at a place
abbrev pub value_by : ℕ → Option Entry → Place → Option (List ℕ)
value_by n None place = None
value_by n (Some entry) place = (after_entry n entry place absent).value

-- the value of a version: nothing for version 0, else what the entry before that number put
abbrev pub value_at : List Entry → Place → ℕ → Option (List ℕ)
value_at journal place zero = None
value_at journal place (suc n) = value_by n (slice_get journal n) place

-- the texts that a tenant installed, in order
abbrev pub texts_of : List Entry → TenantId → List (List ℕ)
texts_of [] tenant = []
texts_of (Invoke call outcome writes reads home ∷ entries) tenant = texts_of entries tenant
texts_of (Put installer table key value ∷ entries) tenant = texts_of entries tenant
texts_of (Install installer text ∷ entries) tenant =
    if installer.0 == tenant.0 then text ∷ texts_of entries tenant else texts_of entries tenant

-- whether two callers are one
abbrev pub same_caller : Caller → Caller → Bool
same_caller a b = (a.tenant.0 == b.tenant.0) && (a.number == b.number)

-- the number of a caller's last committed call, where it was this one before these entries
abbrev pub last_after : ℕ → List Entry → Caller → ℕ
last_after last [] caller = last
last_after last (Invoke call outcome writes reads home ∷ entries) caller =
    last_after (if same_caller call.caller caller then call.number.0 else last) entries caller
last_after last (Put tenant table key value ∷ entries) caller = last_after last entries caller
last_after last (Install tenant text ∷ entries) caller = last_after last entries caller

-- the number of a caller's last committed call, or 0
abbrev pub last_of : List Entry → Caller → ℕ
last_of journal caller = last_after 0 journal caller
