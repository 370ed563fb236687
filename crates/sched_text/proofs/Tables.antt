-- Rows that are put in among others, and rights with one more table.
use Rattle.std.proofs.Common.{◌≡◌, ◌≢◌, ℕ, zero, suc, ◌+◌, ◌<◌, ◌≤◌, Bool, true, false, cond, ltb, eqb, List, [], ◌∷◌, ◌++◌, length, take, drop, get_or, set, rules, refl, sym, ap, ◌∙◌, inl, inr, arith}
use Rattle.std.proofs.Math.Numerals.{one-add}
use Rattle.std.proofs.Math.Seq.{drop-cons}
use Rattle.std.proofs.lemmas.Bool.{cases_lt, lt-ltb, le-ltb, eqb-false}
use Rattle.sp_base.specs.declared.numbers.TableId.{TableId}
use Rattle.sp_base.specs.declared.numbers.TenantId.{TenantId}
use Rattle.sp_base.specs.declared.rights.Level.{Level}
use Rattle.sp_base.specs.declared.rights.Level.TheVariants.{Nothing}
use Rattle.sp_base.specs.RightsList.{RisesFrom, AreRights}
use Rattle.records.specs.GrantsList.{RightsList, GrantsList}
use Rattle.sched_text.specs.Tenants.{inserted, has_table, with_right, granted}
use Rattle.sched_text.specs.Reading.{tenants_before, tables_before}

-- ---- where a row goes

pub inserted_there : {A : Type 0} (rows : List (TenantId × A)) (tenant : TenantId) (value : A) → inserted tenant value rows ≡ take (tenants_before tenant rows) rows ++ (tenant, value) ∷ drop (tenants_before tenant rows) rows
inserted_there [] tenant value = refl
inserted_there {A = A} (row ∷ rest) tenant value =
    elim (cases_lt tenant.0 row.0.0) [
      | inl lt ↦ let t : ltb tenant.0 row.0.0 ≡ true = lt-ltb tenant.0 row.0.0 lt in rw t refl
      | inr le ↦ let t : ltb tenant.0 row.0.0 ≡ false = le-ltb tenant.0 row.0.0 le in
          rw (t, one-add) (ap (λ (r : List (TenantId × A)). row ∷ r) (inserted_there rest tenant value))
    ]

pub with_right_there : (rights : RightsList) (table : TableId) (level : Level) → with_right table level rights ≡ take (tables_before table rights) rights ++ (table, level) ∷ drop (tables_before table rights) rights
with_right_there [] table level = refl
with_right_there (right ∷ rest) table level =
    elim (cases_lt table.0 right.0.0) [
      | inl lt ↦ let t : ltb table.0 right.0.0 ≡ true = lt-ltb table.0 right.0.0 lt in rw t refl
      | inr le ↦ let t : ltb table.0 right.0.0 ≡ false = le-ltb table.0 right.0.0 le in
          rw (t, one-add) (ap (λ (r : RightsList). right ∷ r) (with_right_there rest table level))
    ]

-- ---- rights stay rights

go : (b c : Bool) (e : cond b true c ≡ false) → (b ≡ false) × (c ≡ false)
go true c e = absurd cc
go false c e = (refl, e)

not_first : (number table : ℕ) (b : Bool) → cond (eqb number table) true b ≡ false → (number ≢ table) × (b ≡ false)
not_first number table b e = let g = go (eqb number table) b e in (eqb-false number table g.0, g.1)

with_right_rises : (rights : RightsList) (least : ℕ) (table : TableId) (level : Level) → least ≤ table.0 → level ≢ Nothing → has_table rights table ≡ false → RisesFrom least rights → RisesFrom least (with_right table level rights)
with_right_rises [] least table level low some absent rises = (low, some, tt)
with_right_rises (right ∷ rest) least table level low some absent rises =
    let first = not_first right.0.0 table.0 (has_table rest table) absent in
    elim (cases_lt table.0 right.0.0) [
      | inl lt ↦ let t : ltb table.0 right.0.0 ≡ true = lt-ltb table.0 right.0.0 lt in
          let next : table.0 + 1 ≤ right.0.0 = omega (arith, lt) in
          rw t (low, some, (next, rises.1, rises.2))
      | inr le ↦ let t : ltb table.0 right.0.0 ≡ false = le-ltb table.0 right.0.0 le in
          let above : right.0.0 + 1 ≤ table.0 = omega (arith, first.0) in
          rw t (rises.0, rises.1, with_right_rises rest (right.0.0 + 1) table level above some first.1 rises.2)
    ]

with_right_length : (rights : RightsList) (table : TableId) (level : Level) → length (with_right table level rights) ≡ suc (length rights)
with_right_length [] table level = refl
with_right_length (right ∷ rest) table level =
    elim (cases_lt table.0 right.0.0) [
      | inl lt ↦ let t : ltb table.0 right.0.0 ≡ true = lt-ltb table.0 right.0.0 lt in rw t refl
      | inr le ↦ let t : ltb table.0 right.0.0 ≡ false = le-ltb table.0 right.0.0 le in rw t (ap suc (with_right_length rest table level))
    ]

pub with_right_fits : (rights : RightsList) (table : TableId) (level : Level) → has_table rights table ≡ false → length rights < 64 → level ≢ Nothing → AreRights rights → AreRights (with_right table level rights)
with_right_fits rights table level absent room some are = record {
  rising = with_right_rises rights 0 table level (omega arith) some absent are.rising;
  few = omega (arith, with_right_length rights table level);
}

-- ---- a row in place of another

set_there : {A : Type 0} (rows : List A) (at : ℕ) (old new : A) (rest : List A) → drop at rows ≡ old ∷ rest → set rows at new ≡ take at rows ++ new ∷ rest
set_there [] zero old new rest e = absurd cc
set_there [] (suc at) old new rest e = absurd cc
set_there (row ∷ rows) zero old new rest e = let same : rows ≡ rest = cc in rw same refl
set_there {A = A} (row ∷ rows) (suc at) old new rest e = ap (λ (r : List A). row ∷ r) (set_there rows at old new rest e)

pub granted_there : (rows : GrantsList) (at : ℕ) (tenant : TenantId) (table : TableId) (level : Level) (row : TenantId × RightsList) (more : RightsList)
    → at < length rows → row ≡ get_or rows at row → row.0 ≡ tenant → more ≡ with_right table level row.1
    → granted tenant table level rows ≡ take at rows ++ granted tenant table level (drop at rows)
    → set rows at (tenant, more) ≡ granted tenant table level rows
granted_there rows at tenant table level row more lt is own more_is e =
    let cut : drop at rows ≡ row ∷ drop (suc at) rows = drop-cons rows at row lt ∙ ap (λ (r : TenantId × RightsList). r ∷ drop (suc at) rows) (sym is) in
    let t : eqb row.0.0 tenant.0 ≡ true = rw own (search rules) in
    let pair_is : (row.0, with_right table level row.1) ≡ (tenant, more) = cc in
    let here : granted tenant table level (drop at rows) ≡ (tenant, more) ∷ drop (suc at) rows = rw (cut, t) (ap (λ (r : TenantId × RightsList). r ∷ drop (suc at) rows) pair_is) in
    set_there rows at row (tenant, more) (drop (suc at) rows) cut
    ∙ ap (λ (r : GrantsList). take at rows ++ r) (sym here) ∙ sym e
