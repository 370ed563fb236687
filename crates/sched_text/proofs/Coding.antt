-- A line that has no code, and what it adds.
use Rattle.std.proofs.Common.{◌≡◌, ℕ, ◌<◌, ◌≤◌, Bool, true, false, cond, List, [], ◌∷◌, length, Some, None, refl, arith}
use Rattle.std.specs.Prelude.{not}
use Rattle.std.proofs.lemmas.Bool.{leb-false}
use Rattle.sp_base.specs.declared.numbers.TableId.{TableId}
use Rattle.sp_base.specs.declared.numbers.TenantId.{TenantId}
use Rattle.sp_base.specs.declared.rights.Level.{Level}
use Rattle.sched_text.specs.declared.code.LineCode.{LineCode}
use Rattle.sched_text.specs.declared.code.LineCode.TheVariants as code
use Rattle.sched_text.specs.declared.draft.Draft.{Draft}
use Rattle.sched_text.specs.declared.line.ScriptLine.{ScriptLine}
use Rattle.sched_text.specs.declared.line.ScriptLine.TheVariants.{Tenant, Table, Policy, Limit, Workers, Ext, Body}
use Rattle.sched_text.specs.Drafts.{is_late, is_repeated, lacks_tenant, lacks_worker, lacks_text, is_too_many, first_code, code_of, lines_taken}
use Rattle.sched_text.specs.Fits.{LineFits}
use Rattle.records.specs.GrantsList.{rights_of}
use Rattle.sched_text.specs.Tenants.{has_table}
use Rattle.sched_text.specs.Texts.{has_lines}

-- none of the tests is passed
pub record Good (draft : Draft) (behind : List (List ℕ)) (line : ScriptLine) : Type 0 where
  pub late : is_late draft line ≡ false
  pub repeated : is_repeated draft line ≡ false
  pub tenant : lacks_tenant draft line ≡ false
  pub worker : lacks_worker draft line ≡ false
  pub text : lacks_text behind line ≡ false
  pub many : is_too_many draft line ≡ false

record NoRow (row : Bool × LineCode) (rows : List (Bool × LineCode)) : Type 0 where
  failed : row.0 ≡ false
  others : first_code rows ≡ None

tested : (test : Bool) (told : LineCode) (rows : List (Bool × LineCode)) → cond test (Some told) (first_code rows) ≡ None → NoRow (test, told) rows
tested true told rows e = absurd cc
tested false told rows e = record { failed = refl; others = e }

pub good_line : (draft : Draft) (behind : List (List ℕ)) (line : ScriptLine) → code_of draft behind line ≡ None → Good draft behind line
unfolding code_of
good_line draft behind line e =
    let after_text : List (Bool × LineCode) = (is_too_many draft line, code.Many) ∷ [] in
    let after_worker : List (Bool × LineCode) = (lacks_text behind line, code.Text) ∷ after_text in
    let after_tenant : List (Bool × LineCode) = (lacks_worker draft line, code.NoWorker) ∷ after_worker in
    let after_repeated : List (Bool × LineCode) = (lacks_tenant draft line, code.NoTenant) ∷ after_tenant in
    let after_late : List (Bool × LineCode) = (is_repeated draft line, code.Twice) ∷ after_repeated in
    let late = tested (is_late draft line) code.Order after_late e in
    let repeated = tested (is_repeated draft line) code.Twice after_repeated late.others in
    let tenant = tested (lacks_tenant draft line) code.NoTenant after_tenant repeated.others in
    let worker = tested (lacks_worker draft line) code.NoWorker after_worker tenant.others in
    let text = tested (lacks_text behind line) code.Text after_text worker.others in
    let many = tested (is_too_many draft line) code.Many [] text.others in
    record { late = late.failed; repeated = repeated.failed; tenant = tenant.failed; worker = worker.failed; text = text.failed; many = many.failed }

pub table_absent : (draft : Draft) (behind : List (List ℕ)) (table : TableId) (tenant : TenantId) (level : Level) → code_of draft behind (Table table tenant level) ≡ None → has_table (rights_of draft.rights tenant) table ≡ false
table_absent draft behind table tenant level e = (good_line draft behind (Table table tenant level) e).repeated

pub table_room : (draft : Draft) (behind : List (List ℕ)) (table : TableId) (tenant : TenantId) (level : Level) → code_of draft behind (Table table tenant level) ≡ None → length (rights_of draft.rights tenant) < 64
table_room draft behind table tenant level e = leb-false 64 (length (rights_of draft.rights tenant)) (good_line draft behind (Table table tenant level) e).many

pub not_not : (b : Bool) → not b ≡ false → b ≡ true
not_not true e = refl
not_not false e = absurd cc

pub text_there : (draft : Draft) (behind : List (List ℕ)) (tenant : TenantId) (lines : ℕ) → code_of draft behind (Ext tenant lines) ≡ None → has_lines lines behind ≡ true
text_there draft behind tenant lines e = not_not (has_lines lines behind) (good_line draft behind (Ext tenant lines) e).text

pub taken_there : (draft : Draft) (behind : List (List ℕ)) (line : ScriptLine) → code_of draft behind line ≡ None → has_lines (lines_taken line) behind ≡ true
taken_there draft behind (Tenant tenant key) e = refl
taken_there draft behind (Table table tenant level) e = refl
taken_there draft behind (Policy policy) e = refl
taken_there draft behind (Limit limit) e = refl
taken_there draft behind (Workers workers) e = refl
taken_there draft behind (Ext tenant lines) e = text_there draft behind tenant lines e
taken_there draft behind (Body event) e = refl

pub taken_few : (line : ScriptLine) → LineFits line → lines_taken line ≤ 16384
taken_few (Tenant tenant key) fits = omega arith
taken_few (Table table tenant level) fits = omega arith
taken_few (Policy policy) fits = omega arith
taken_few (Limit limit) fits = omega arith
taken_few (Workers workers) fits = omega arith
taken_few (Ext tenant lines) fits = fits.high
taken_few (Body event) fits = omega arith
