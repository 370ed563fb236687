-- How many extensions each tenant has installed, counted entry by entry.
use Rattle.std.specs.Prelude.{◌≡◌, ◌≢◌, ℕ, List, length, nat_eq, unwrap_or}
use Rattle.std.specs.HashMap.{get, HashMap}
use Rattle.std.specs.declared.hash.BuildHasherDefault.{BuildHasherDefault}
use Rattle.std.specs.declared.hash.FoldHasher.{FoldHasher}
use Rattle.sp_base.specs.declared.numbers.TenantId.{TenantId}
use Rattle.journal.specs.declared.entry.Entry.{Entry}
use Rattle.journal.specs.Folds.{texts_of}

-- counts by the tenant's number
abbrev pub Counts : Type 0
Counts = HashMap ℕ ℕ (BuildHasherDefault FoldHasher)

-- a tenant's count; one that has none has 0
abbrev pub count_of : Counts → ℕ → ℕ
count_of counts tenant = unwrap_or (get nat_eq counts tenant) 0

-- the tenant has this count, and every other tenant's count stays
pub record ChangesOnly (old new : Counts) (tenant count : ℕ) : Type 0 where
  pub changed : count_of new tenant ≡ count
  pub others : (other : ℕ) → other ≢ tenant → count_of new other ≡ count_of old other

-- each tenant's count is that of the texts which it installed by these entries
abbrev pub CountsTexts : Counts → List Entry → Type 0
CountsTexts counts entries = (tenant : TenantId) → count_of counts tenant.0 ≡ length (texts_of entries tenant)
