-- What the indexes of a book hold.
use Rattle.std.specs.Prelude.{◌≡◌, ℕ, ◌&&◌, Bool, List, [], ◌∷◌, ◌++◌, map, nat_eq, Option, Some, None, unwrap_or}
use Rattle.std.specs.Arc.{arc_value}
use Rattle.std.specs.declared.alloc.Global.{Global}
use Rattle.std.specs.declared.sync.Arc.{Arc}
use Rattle.std.specs.declared.vec.Vec.{Vec}
use Rattle.std.specs.HashMap.{get}
use Rattle.sp_base.specs.declared.numbers.Caller.{Caller}
use Rattle.sp_base.specs.declared.numbers.TenantId.{TenantId}
use Rattle.sp_base.specs.Places.{Place}
use Rattle.records.specs.Records.{TablesValue, record_in}
use Rattle.journal.specs.declared.entry.Entry.{Entry}
use Rattle.journal.specs.declared.entry.Entry.TheVariants.{Invoke, Put, Install}
use Rattle.journal.specs.Folds.{last_after, last_of, record_of, texts_of}
use Rattle.task.specs.Extensions.{ExtValue}
use Rattle.book.specs.declared.exts.Exts.{Exts}
use Rattle.book.specs.declared.lasts.Lasts.{Lasts}

abbrev pub text_of : Arc ExtValue Global → List ℕ
text_of ext = (arc_value ext).text

-- the texts of the extensions that were found for a tenant
abbrev pub texts_found : Option (Vec (Arc ExtValue Global) Global) → List (List ℕ)
texts_found None = []
texts_found (Some exts) = map text_of exts.items

-- the texts of a tenant's extensions, in order
abbrev pub texts_in : Exts → TenantId → List (List ℕ)
texts_in exts tenant = texts_found (get nat_eq exts.tenants tenant.0)

-- whether two pairs of numbers are one
abbrev pub same_pair : ℕ × ℕ → ℕ × ℕ → Bool
same_pair a b = nat_eq a.0 b.0 && nat_eq a.1 b.1

-- the number of a caller's last call, or 0
abbrev pub last_in : Lasts → Caller → ℕ
last_in lasts caller = unwrap_or (get same_pair lasts.numbers (caller.tenant.0, caller.number)) 0

-- The indexes of a book say at each place, for each tenant and for each caller what its journal does.
pub record AreIndexes (journal : List Entry) (tables : TablesValue) (exts : Exts) (lasts : Lasts) : Type 0 where
  pub records : (place : Place) → record_in tables place ≡ record_of journal place
  pub texts : (tenant : TenantId) → texts_in exts tenant ≡ texts_of journal tenant
  pub last : (caller : Caller) → last_in lasts caller ≡ last_of journal caller

-- an installation comes with its extension
abbrev pub HasExt : Entry → Option (Arc ExtValue Global) → Type 0
HasExt (Install tenant text) (Some ext) = text_of ext ≡ text
HasExt (Install tenant text) None = ⊥
HasExt (Invoke call outcome writes reads home) ext = Unit {0}
HasExt (Put tenant table key value) ext = Unit {0}

-- extensions and last numbers after an entry
pub record AreNoted (exts : Exts) (lasts : Lasts) (entry : Entry) (noted : Exts) (numbered : Lasts) : Type 0 where
  pub texts : (tenant : TenantId) → texts_in noted tenant ≡ texts_in exts tenant ++ texts_of (entry ∷ []) tenant
  pub last : (caller : Caller) → last_in numbered caller ≡ last_after (last_in lasts caller) (entry ∷ []) caller

-- extensions and last numbers as they were
pub record AreSame (exts : Exts) (lasts : Lasts) (after : Exts) (numbered : Lasts) : Type 0 where
  pub texts : (tenant : TenantId) → texts_in after tenant ≡ texts_in exts tenant
  pub last : (caller : Caller) → last_in numbered caller ≡ last_in lasts caller
