-- How the readers go about it: numbers digit by digit, rows from the front.
use Rattle.std.specs.Prelude.{ℕ, ◌+◌, nat_lt, List, [], ◌∷◌, Option, Some, option_and_then, if◌then◌else◌}
use Rattle.sp_base.specs.declared.numbers.TableId.{TableId}
use Rattle.sp_base.specs.declared.numbers.TenantId.{TenantId}
use Rattle.sched_text.specs.Fields.{next_digit}
use Rattle.records.specs.GrantsList.{RightsList}

-- the digits go on from this value, no further than to the most
abbrev pub digits_within : ℕ → ℕ → List ℕ → Option ℕ
digits_within most value [] = Some value
digits_within most value (byte ∷ text) =
    option_and_then (λ more. digits_within most more text) (next_digit most value byte)

-- how many rows stand before the first greater tenant
abbrev pub tenants_before : {A : Type 0} → TenantId → List (TenantId × A) → ℕ
tenants_before tenant [] = 0
tenants_before tenant (row ∷ rest) =
    if nat_lt tenant.0 row.0.0 then 0 else 1 + tenants_before tenant rest

-- how many rights stand before the first greater table
abbrev pub tables_before : TableId → RightsList → ℕ
tables_before table [] = 0
tables_before table (right ∷ rest) =
    if nat_lt table.0 right.0.0 then 0 else 1 + tables_before table rest
