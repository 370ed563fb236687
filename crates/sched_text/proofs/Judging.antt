-- Lines that are judged one after the other.
use Rattle.std.proofs.Common.{◌≡◌, ℕ, zero, suc, ◌+◌, ◌<◌, ◌≤◌, Bool, true, false, ltb, List, [], ◌∷◌, length, drop, Result, Ok, Err, refl, sym, ap, ◌∙◌, inl, inr, arith}
use Rattle.std.specs.Prelude.{◌&&◌, Option, Some, None, IfSome, unwrap_or}
use Rattle.std.proofs.Math.Nat.{add-zero}
use Rattle.std.proofs.lemmas.Bool.{cases_lt, lt-ltb, le-ltb}
use Rattle.sp_base.specs.declared.calls.Policy.{Policy}
use Rattle.sched_text.specs.declared.code.LineCode.{LineCode}
use Rattle.sched_text.specs.declared.code.LineCode.TheVariants.{Many}
use Rattle.sched_text.specs.declared.draft.Draft.{Draft}
use Rattle.sched_text.specs.Drafts.{script_of}
use Rattle.sched_text.specs.Fits.{IsWithin, DraftFits, IsScript}
use Rattle.sched_text.specs.Firsts.{BeginsWith}
use Rattle.sched_text.specs.Judged.{BadLine, LineJudge, told, unless_many, judged_from}
use Rattle.sched_text.specs.Texts.{lines_of, is_ended, has_lines}

and_right : (a b : Bool) → (a && b) ≡ true → b ≡ true
and_right true b e = e
and_right false b e = absurd cc

pub long : (count : ℕ) (lines : List (List ℕ)) → has_lines count lines ≡ true → count ≤ length lines
long zero lines e = omega arith
long (suc count) [] e = absurd cc
long (suc count) (line ∷ lines) e = let ih = long count lines (and_right (is_ended line) (has_lines count lines) e) in omega arith

module _ (D : Type 0) (judge : LineJudge D) where
  -- ---- line 65,537

  few : (number : ℕ) (others : Result D BadLine) → number ≤ 65536 → unless_many number others ≡ others
  few number others h = let t : ltb 65536 number ≡ false = le-ltb 65536 number h in rw t refl

  many : (number : ℕ) (others : Result D BadLine) → 65536 < number → unless_many number others ≡ Err (number, Many)
  many number others h = let t : ltb 65536 number ≡ true = lt-ltb 65536 number h in rw t refl

  -- ---- the lines of a text are passed over

  passed_over : (texts number : ℕ) (draft : D) (lines : List (List ℕ)) → texts ≤ length lines → number + texts ≤ 65537 → judged_from judge number texts draft lines ≡ judged_from judge (number + texts) 0 draft (drop texts lines)
  passed_over zero number draft lines h fits = rw add-zero refl
  passed_over (suc texts) number draft [] h fits = absurd (omega arith)
  passed_over (suc texts) number draft (line ∷ lines) h fits =
      let sum : number + 1 + texts ≡ number + suc texts = omega arith in
      few number (judged_from judge (number + 1) texts draft lines) (omega arith)
      ∙ passed_over texts (number + 1) draft lines (omega arith) (omega arith)
      ∙ ap (λ (n : ℕ). judged_from judge n 0 draft (drop texts lines)) sum

  too_far : (texts number : ℕ) (draft : D) (lines : List (List ℕ)) → texts ≤ length lines → number ≤ 65537 → 65537 < number + texts → judged_from judge number texts draft lines ≡ Err (65537, Many)
  too_far zero number draft lines h low far = absurd (omega arith)
  too_far (suc texts) number draft [] h low far = absurd (omega arith)
  too_far (suc texts) number draft (line ∷ lines) h low far =
      elim (cases_lt 65536 number) [
        | inl lt ↦ let same : number ≡ 65537 = omega (arith, lt) in many number (judged_from judge (number + 1) texts draft lines) lt ∙ ap (λ (n : ℕ). Err (n, Many)) same
        | inr le ↦ few number (judged_from judge (number + 1) texts draft lines) le
            ∙ too_far texts (number + 1) draft lines (omega arith) (omega (arith, le)) (omega arith)
      ]

  abbrev next_line : ℕ → List (List ℕ) → D × ℕ → Result D BadLine
  next_line number behind after = judged_from judge (number + 1) after.1 after.0 behind

-- ---- one line

module _ (D : Type 0) (judge : LineJudge D) (number : ℕ) (draft : D) (text line behind : List ℕ) (begins : BeginsWith text line behind) where
  abbrev first_told : Result D BadLine
  first_told = told number (judge number line (lines_of behind) draft) (next_line D judge number (lines_of behind))

  first_judged : judged_from judge number 0 draft (lines_of text) ≡ unless_many number first_told
  first_judged = rw (begins.lines, begins.bared) refl

  pub line_many : 65536 < number → judged_from judge number 0 draft (lines_of text) ≡ Err (number, Many)
  line_many h = first_judged ∙ many D judge number first_told h

  first_few : number ≤ 65536 → judged_from judge number 0 draft (lines_of text) ≡ first_told
  first_few h = first_judged ∙ few D judge number first_told h

  pub line_bad : (code : LineCode) → number ≤ 65536 → judge number line (lines_of behind) draft ≡ Err code → judged_from judge number 0 draft (lines_of text) ≡ Err (number, code)
  line_bad code h e = first_few h ∙ rw e refl

  first_next : (after : D) (taken : ℕ) → number ≤ 65536 → judge number line (lines_of behind) draft ≡ Ok (after, taken) → judged_from judge number 0 draft (lines_of text) ≡ judged_from judge (number + 1) taken after (lines_of behind)
  first_next after taken h e = first_few h ∙ rw e refl

  pub line_far : (after : D) (taken : ℕ) → number ≤ 65536 → judge number line (lines_of behind) draft ≡ Ok (after, taken) → has_lines taken (lines_of behind) ≡ true → 65537 < number + (1 + taken) → judged_from judge number 0 draft (lines_of text) ≡ Err (65537, Many)
  line_far after taken h e there far =
      first_next after taken h e ∙ too_far D judge taken (number + 1) after (lines_of behind) (long taken (lines_of behind) there) (omega arith) (omega arith)

  pub line_good : (after : D) (taken : ℕ) (rest : List ℕ) → number ≤ 65536 → judge number line (lines_of behind) draft ≡ Ok (after, taken) → has_lines taken (lines_of behind) ≡ true → number + (1 + taken) ≤ 65537 → lines_of rest ≡ drop taken (lines_of behind) → judged_from judge number 0 draft (lines_of text) ≡ judged_from judge (number + (1 + taken)) 0 after (lines_of rest)
  line_good after taken rest h e there low is =
      let sum : number + 1 + taken ≡ number + (1 + taken) = omega arith in
      first_next after taken h e
      ∙ passed_over D judge taken (number + 1) after (lines_of behind) (long taken (lines_of behind) there) (omega arith)
      ∙ ap (λ (n : ℕ). judged_from judge n 0 after (drop taken (lines_of behind))) sum
      ∙ ap (λ (l : List (List ℕ)). judged_from judge (number + (1 + taken)) 0 after l) (sym is)

-- ---- the script

least_told : (policy : Option Policy) → IfSome policy (λ p. p.least ≤ 100000) → (unwrap_or policy (record { high = 64; least = 1000 })).least ≤ 100000
least_told None h = omega arith
least_told (Some policy) h = h

limit_told : (limit : Option ℕ) → IfSome limit (IsWithin 1 1048576) → IsWithin 1 1048576 (unwrap_or limit 1048576)
limit_told None h = record { low = omega arith; high = omega arith }
limit_told (Some limit) h = h

workers_told : (workers : Option ℕ) → IfSome workers (IsWithin 1 64) → IsWithin 1 64 (unwrap_or workers 1)
workers_told None h = record { low = omega arith; high = omega arith }
workers_told (Some workers) h = h

pub script_fits : (draft : Draft) → DraftFits draft → IsScript (script_of draft)
unfolding script_of
script_fits draft are = record {
  tenants = are.tenants;
  rising = are.rising;
  few = are.few;
  policy = least_told draft.policy are.policy;
  limit = limit_told draft.limit are.limit;
  workers = workers_told draft.workers are.workers;
  events = are.events;
}
