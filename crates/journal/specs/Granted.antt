-- What a tenant is granted at a moment of the journal.
use Rattle.std.specs.Prelude.{List}
use Rattle.sp_base.specs.declared.numbers.TenantId.{TenantId}
use Rattle.records.specs.GrantsList.{GrantsList, RightsList, rights_of}
use Rattle.journal.specs.declared.entry.Entry.{Entry}

-- the rights of a tenant after these entries: those that were configured, since no entry changes them
abbrev pub granted : GrantsList → List Entry → TenantId → RightsList
granted configured before tenant = rights_of configured tenant
