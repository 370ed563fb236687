-- Lists by increasing tenant, and the rights of tenants in them.
use Rattle.std.specs.Prelude.{◌==◌, nat_lt, Bool, true, false, List, [], ◌∷◌, if◌then◌else◌}
use Rattle.sp_base.specs.declared.numbers.TableId.{TableId}
use Rattle.sp_base.specs.declared.numbers.TenantId.{TenantId}
use Rattle.sp_base.specs.declared.rights.Level.{Level}
use Rattle.records.specs.GrantsList.{RightsList, GrantsList}

-- a row is put in before the first greater tenant
abbrev pub inserted : {A : Type 0} → TenantId → A → List (TenantId × A) → List (TenantId × A)
inserted tenant value [] = (tenant, value) ∷ []
inserted tenant value (row ∷ rest) =
    if nat_lt tenant.0 row.0.0 then (tenant, value) ∷ row ∷ rest else row ∷ inserted tenant value rest

-- whether a row names the tenant
abbrev pub has_tenant : GrantsList → TenantId → Bool
has_tenant [] tenant = false
has_tenant (grant ∷ rest) tenant = if grant.0.0 == tenant.0 then true else has_tenant rest tenant

-- whether a level is given for the table
abbrev pub has_table : RightsList → TableId → Bool
has_table [] table = false
has_table (right ∷ rest) table = if right.0.0 == table.0 then true else has_table rest table

-- a level for a table is put in before the first greater table
abbrev pub with_right : TableId → Level → RightsList → RightsList
with_right table level [] = (table, level) ∷ []
with_right table level (right ∷ rest) =
    if nat_lt table.0 right.0.0 then (table, level) ∷ right ∷ rest
    else right ∷ with_right table level rest

-- the tenant has a level for one more table
abbrev pub granted : TenantId → TableId → Level → GrantsList → GrantsList
granted tenant table level [] = []
granted tenant table level (grant ∷ rest) =
    if grant.0.0 == tenant.0 then (grant.0, with_right table level grant.1) ∷ rest
    else grant ∷ granted tenant table level rest
