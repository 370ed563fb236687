-- What a line without a code adds keeps what is declared in its ranges.
use Rattle.std.proofs.Common.{◌≡◌, ℕ, suc, ◌+◌, ◌≤◌, Bool, true, false, cond, leb, ltb, eqb, List, [], ◌∷◌, ◌++◌, length, None, refl, sym, ap, ◌∙◌, inl, inr, arith}
use Rattle.std.specs.Prelude.{not, map}
use Rattle.std.specs.List.{AllByRecursion}
use Rattle.std.proofs.lemmas.Bool.{cases_lt, lt-ltb, le-ltb, leb-false, leb-true, eqb-false}
use Rattle.sp_base.specs.declared.numbers.TableId.{TableId}
use Rattle.sp_base.specs.declared.numbers.TenantId.{TenantId}
use Rattle.sp_base.specs.declared.rights.Level.{Level}
use Rattle.sched_text.specs.declared.draft.Draft.{Draft}
use Rattle.sched_text.specs.declared.event.Event.{Event}
use Rattle.sched_text.specs.declared.line.ScriptLine.{ScriptLine}
use Rattle.sched_text.specs.declared.line.ScriptLine.TheVariants.{Tenant, Table, Policy, Limit, Workers, Ext, Body}
use Rattle.sched_text.specs.Drafts.{has_workers, workers_of, code_of, with_line, no_lines}
use Rattle.sched_text.specs.Fits.{EventFits, LineFits, IsEvent, DraftFits}
use Rattle.records.specs.GrantsList.{RightsList, GrantsList, TenantsRise}
use Rattle.sched_text.specs.Tenants.{inserted, has_tenant, granted, with_right}
use Rattle.sched_text.proofs.Coding.{good_line, not_not}

-- ---- rows by tenant

other : (b c : Bool) → cond b true c ≡ false → (b ≡ false) × (c ≡ false)
other true c e = absurd cc
other false c e = (refl, e)

inserted_rises : (rows : GrantsList) (least : ℕ) (tenant : TenantId) (rights : RightsList) → least ≤ tenant.0 → has_tenant rows tenant ≡ false → TenantsRise least rows → TenantsRise least (inserted tenant rights rows)
inserted_rises [] least tenant rights low absent rises = (low, tt)
inserted_rises (row ∷ rest) least tenant rights low absent rises =
    let first = other (eqb row.0.0 tenant.0) (has_tenant rest tenant) absent in
    let apart = eqb-false row.0.0 tenant.0 first.0 in
    elim (cases_lt tenant.0 row.0.0) [
      | inl lt ↦ let t : ltb tenant.0 row.0.0 ≡ true = lt-ltb tenant.0 row.0.0 lt in
          let next : tenant.0 + 1 ≤ row.0.0 = omega (arith, lt) in
          rw t (low, (next, rises.1))
      | inr le ↦ let t : ltb tenant.0 row.0.0 ≡ false = le-ltb tenant.0 row.0.0 le in
          let above : row.0.0 + 1 ≤ tenant.0 = omega (arith, apart) in
          rw t (rises.0, inserted_rises rest (row.0.0 + 1) tenant rights above first.1 rises.1)
    ]

inserted_length : (rows : GrantsList) (tenant : TenantId) (rights : RightsList) → length (inserted tenant rights rows) ≡ suc (length rows)
inserted_length [] tenant rights = refl
inserted_length (row ∷ rest) tenant rights =
    elim (cases_lt tenant.0 row.0.0) [
      | inl lt ↦ let t : ltb tenant.0 row.0.0 ≡ true = lt-ltb tenant.0 row.0.0 lt in rw t refl
      | inr le ↦ let t : ltb tenant.0 row.0.0 ≡ false = le-ltb tenant.0 row.0.0 le in rw t (ap suc (inserted_length rest tenant rights))
    ]

-- the tenants of the rows
abbrev names : {A : Type 0} → List (TenantId × A) → List TenantId
names rows = map (λ row. row.0) rows

same_inserted : {A B : Type 0} (xs : List (TenantId × A)) (ys : List (TenantId × B)) (tenant : TenantId) (a : A) (b : B) → names xs ≡ names ys → names (inserted tenant a xs) ≡ names (inserted tenant b ys)
same_inserted [] [] tenant a b e = refl
same_inserted [] (y ∷ ys) tenant a b e = absurd cc
same_inserted (x ∷ xs) [] tenant a b e = absurd cc
same_inserted (x ∷ xs) (y ∷ ys) tenant a b e =
    let one : x.0 ≡ y.0 = cc in
    let more : names xs ≡ names ys = cc in
    let number : x.0.0 ≡ y.0.0 = ap (λ (t : TenantId). t.0) one in
    elim (cases_lt tenant.0 x.0.0) [
      | inl lt ↦ let t : ltb tenant.0 x.0.0 ≡ true = lt-ltb tenant.0 x.0.0 lt in
          let u : ltb tenant.0 y.0.0 ≡ true = rw (← number) t in
          rw (t, u) (ap (λ (l : List TenantId). tenant ∷ l) e)
      | inr le ↦ let t : ltb tenant.0 x.0.0 ≡ false = le-ltb tenant.0 x.0.0 le in
          let u : ltb tenant.0 y.0.0 ≡ false = rw (← number) t in
          let ih = same_inserted xs ys tenant a b more in
          rw (t, u) (cc)
    ]

granted_rises : (rows : GrantsList) (least : ℕ) (tenant : TenantId) (table : TableId) (level : Level) → TenantsRise least rows → TenantsRise least (granted tenant table level rows)
granted_rises [] least tenant table level rises = tt
granted_rises (row ∷ rest) least tenant table level rises =
    elim (eqb row.0.0 tenant.0) as (λ b. TenantsRise least (cond b ((row.0, with_right table level row.1) ∷ rest) (row ∷ granted tenant table level rest))) [
      | true ↦ (rises.0, rises.1)
      | false ↦ (rises.0, granted_rises rest (row.0.0 + 1) tenant table level rises.1)
    ]

granted_length : (rows : GrantsList) (tenant : TenantId) (table : TableId) (level : Level) → length (granted tenant table level rows) ≡ length rows
granted_length [] tenant table level = refl
granted_length (row ∷ rest) tenant table level =
    elim (eqb row.0.0 tenant.0) as (λ b. length (cond b ((row.0, with_right table level row.1) ∷ rest) (row ∷ granted tenant table level rest)) ≡ suc (length rest)) [
      | true ↦ refl
      | false ↦ ap suc (granted_length rest tenant table level)
    ]

granted_names : (rows : GrantsList) (tenant : TenantId) (table : TableId) (level : Level) → names (granted tenant table level rows) ≡ names rows
granted_names [] tenant table level = refl
granted_names (row ∷ rest) tenant table level =
    elim (eqb row.0.0 tenant.0) as (λ b. names (cond b ((row.0, with_right table level row.1) ∷ rest) (row ∷ granted tenant table level rest)) ≡ row.0 ∷ names rest) [
      | true ↦ refl
      | false ↦ ap (λ (l : List TenantId). row.0 ∷ l) (granted_names rest tenant table level)
    ]

-- ---- events

pub all_and : {A : Type 0} (P : A → Type 0) (xs : List A) (x : A) → AllByRecursion P xs → P x → AllByRecursion P (xs ++ x ∷ [])
all_and P [] x all one = (one, tt)
all_and P (y ∷ ys) x all one = (all.0, all_and P ys x all.1 one)

none_late : {A : Type 0} (events : List A) → not (leb (length events) 0) ≡ false → events ≡ []
none_late [] e = refl
none_late (event ∷ events) e = let few = leb-true (suc (length events)) 0 (not_not (leb (suc (length events)) 0) e) in absurd (omega (arith, few))

event_added : (draft : Draft) (number : ℕ) (event : Event) → EventFits event → has_workers (workers_of draft) event ≡ true → DraftFits draft → AllByRecursion (λ row. IsEvent (workers_of draft) row.1) (draft.events ++ (number, event) ∷ [])
event_added draft number event fits workers are = all_and (λ row. IsEvent (workers_of draft) row.1) draft.events (number, event) are.events (record { fields = fits; has_workers = workers })

-- ---- a line

pub line_added : (number : ℕ) (behind : List (List ℕ)) (line : ScriptLine) (draft : Draft) → code_of draft behind line ≡ None → LineFits line → DraftFits draft → DraftFits (with_line number behind line draft)
unfolding with_line
line_added number behind (Tenant tenant key) draft e fits are =
    let good = good_line draft behind (Tenant tenant key) e in
    let room = leb-false 1024 (length draft.rights) good.many in
    record {
      tenants = same_inserted draft.tenants draft.rights tenant key [] are.tenants;
      rising = inserted_rises draft.rights 0 tenant [] (omega arith) good.repeated are.rising;
      few = omega (arith, inserted_length draft.rights tenant []);
      policy = are.policy;
      limit = are.limit;
      workers = are.workers;
      events = are.events;
    }
line_added number behind (Table table tenant level) draft e fits are = record {
  tenants = are.tenants ∙ sym (granted_names draft.rights tenant table level);
  rising = granted_rises draft.rights 0 tenant table level are.rising;
  few = omega (arith, granted_length draft.rights tenant table level, are.few);
  policy = are.policy;
  limit = are.limit;
  workers = are.workers;
  events = are.events;
}
line_added number behind (Policy policy) draft e fits are = record {
  tenants = are.tenants;
  rising = are.rising;
  few = are.few;
  policy = fits;
  limit = are.limit;
  workers = are.workers;
  events = are.events;
}
line_added number behind (Limit limit) draft e fits are = record {
  tenants = are.tenants;
  rising = are.rising;
  few = are.few;
  policy = are.policy;
  limit = fits;
  workers = are.workers;
  events = are.events;
}
line_added number behind (Workers workers) draft e fits are =
    let good = good_line draft behind (Workers workers) e in
    let none = none_late draft.events good.late in
    record {
      tenants = are.tenants;
      rising = are.rising;
      few = are.few;
      policy = are.policy;
      limit = are.limit;
      workers = fits;
      events = rw none tt;
    }
line_added number behind (Ext tenant lines) draft e fits are = record {
  tenants = are.tenants;
  rising = are.rising;
  few = are.few;
  policy = are.policy;
  limit = are.limit;
  workers = are.workers;
  events = event_added draft number _ tt refl are;
}
line_added number behind (Body event) draft e fits are =
    let good = good_line draft behind (Body event) e in
    record {
      tenants = are.tenants;
      rising = are.rising;
      few = are.few;
      policy = are.policy;
      limit = are.limit;
      workers = are.workers;
      events = event_added draft number event fits (not_not (has_workers (workers_of draft) event) good.worker) are;
    }

pub none_fit : DraftFits no_lines
unfolding no_lines
none_fit = record { tenants = refl; rising = tt; few = omega arith; policy = tt; limit = tt; workers = tt; events = tt }
