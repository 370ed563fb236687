-- Grants: tenants with their rights.
use Rattle.std.specs.Prelude.{ℕ, ◌+◌, ◌≤◌, ◌==◌, List, [], ◌∷◌, if◌then◌else◌}
use Rattle.std.specs.List.{AllByRecursion}
use Rattle.sp_base.specs.declared.numbers.TableId.{TableId}
use Rattle.sp_base.specs.declared.numbers.TenantId.{TenantId}
use Rattle.sp_base.specs.declared.rights.Level.{Level}
use Rattle.sp_base.specs.RightsList.{AreRights}

abbrev pub RightsList : Type 0
RightsList = List (TableId × Level)

abbrev pub GrantsList : Type 0
GrantsList = List (TenantId × RightsList)

-- each tenant is at least this number, and above the one before it
abbrev pub TenantsRise : ℕ → GrantsList → Type 0
TenantsRise least [] = Unit {0}
TenantsRise least (grant ∷ rest) = (least ≤ grant.0.0) × TenantsRise (grant.0.0 + 1) rest

-- the tenants strictly increase, and what each is granted are rights
pub record AreGrants (grants : GrantsList) : Type 0 where
  pub rising : TenantsRise 0 grants
  pub rights : AllByRecursion (λ grant. AreRights grant.1) grants

-- the rights of a tenant: none where no grant names it
abbrev pub rights_of : GrantsList → TenantId → RightsList
rights_of [] tenant = []
rights_of (grant ∷ rest) tenant =
    if grant.0.0 == tenant.0 then grant.1 else rights_of rest tenant
