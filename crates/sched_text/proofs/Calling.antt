-- A line of a script of calls that has no code, and what it adds.
use Rattle.std.proofs.Common.{◌≡◌, ℕ, zero, suc, ◌+◌, ◌-◌, ◌≤◌, Bool, true, false, cond, leb, ltb, List, [], ◌∷◌, ◌++◌, length, take, Option, Some, None, refl, inl, inr, arith}
use Rattle.std.specs.Prelude.{not, ◌&&◌, ◌||◌}
use Rattle.std.specs.List.{concat}
use Rattle.std.proofs.lemmas.Bool.{cases_lt, lt-leb, le-leb, ltb-false}
use Rattle.std.proofs.lemmas.List.{length-append}
use Rattle.sp_base.specs.declared.calls.Asked.{Asked}
use Rattle.sp_base.specs.Limits.{IsArguments}
use Rattle.sched_text.specs.declared.code.LineCode.{LineCode}
use Rattle.sched_text.specs.declared.code.LineCode.TheVariants as code
use Rattle.sched_text.specs.declared.call_draft.CallDraft.{CallDraft}
use Rattle.sched_text.specs.declared.call_line.CallLine.{CallLine}
use Rattle.sched_text.specs.declared.call_line.CallLine.TheVariants.{Install, Put, Batch, Invoke}
use Rattle.sched_text.specs.Texts.{bare, is_ended, is_skipped, has_lines}
use Rattle.sched_text.specs.CallDrafts.{has_calls, lacks_lines, call_code_of, with_call, with_call_line, no_calls, call_script_of, AreCalls, ItemFits, CallLineFits, CallDraftFits, IsCallScript}
use Rattle.sched_text.proofs.Fitting.{all_and}

pub none_left : (lines : List (List ℕ)) → has_calls 0 lines ≡ true
none_left [] = refl
none_left (line ∷ lines) =
    elim (is_skipped (bare line)) as (λ b. cond b (has_calls 0 lines) (has_calls (0 - 1) lines) ≡ true) [ true ↦ none_left lines | false ↦ none_left lines ]

tested : (test : Bool) (code : Option LineCode) → cond test code None ≡ None → (code ≡ None → ⊥) → test ≡ false
tested true code e some = absurd (some e)
tested false code e some = refl

pub no_code : (behind : List (List ℕ)) (line : CallLine) → call_code_of behind line ≡ None → lacks_lines behind line ≡ false
unfolding call_code_of
no_code behind line e = tested (lacks_lines behind line) (Some code.Text) e (λ h. absurd cc)

pub record IsThere (lines : ℕ) (behind : List (List ℕ)) : Type 0 where
  pub are : has_lines lines behind ≡ true
  pub few : length (concat (take lines behind)) ≤ 16384

either : (a b : Bool) → (not a || b) ≡ false → (a ≡ true) × (b ≡ false)
either true b e = (refl, e)
either false b e = absurd cc

pub text_there : (behind : List (List ℕ)) (lines : ℕ) → call_code_of behind (Install lines) ≡ None → IsThere lines behind
text_there behind lines e =
    let text = concat (take lines behind) in
    let good = either (has_lines lines behind) (ltb 16384 (length text)) (no_code behind (Install lines) e) in
    record { are = good.0; few = ltb-false 16384 (length text) good.1 }

and_left : (a b : Bool) → (a && b) ≡ true → a ≡ true
and_left true b e = refl
and_left false b e = absurd cc

some_bytes : (line : List ℕ) → is_ended line ≡ true → 1 ≤ length line
some_bytes [] e = absurd cc
some_bytes (byte ∷ line) e = omega arith

some_text : (lines : ℕ) (behind : List (List ℕ)) → 1 ≤ lines → has_lines lines behind ≡ true → 1 ≤ length (concat (take lines behind))
some_text zero behind h e = absurd (omega arith)
some_text (suc lines) [] h e = absurd cc
some_text (suc lines) (line ∷ behind) h e =
    let one = some_bytes line (and_left (is_ended line) (has_lines lines behind) e) in
    omega (arith, length-append line (concat (take lines behind)))

few_calls : (draft : CallDraft) → draft.left ≤ 1 → CallDraftFits draft → length draft.calls + 1 ≤ 64
few_calls draft le are =
    elim (cases_lt 0 draft.left) [
      | inl lt ↦ omega (arith, are.room, lt)
      | inr none ↦ let closed = are.closed (omega (arith, none)) in rw closed (omega arith)
    ]

one_call : (number : ℕ) (asked : Asked) (draft : CallDraft) → IsArguments asked.args → CallDraftFits draft → CallDraftFits (with_call number asked draft)
one_call number asked draft fits are =
    let calls : AreCalls (draft.calls ++ (number, asked) ∷ []) = all_and (λ row. IsArguments row.1.args) draft.calls (number, asked) are.calls fits in
    let size = length-append draft.calls ((number, asked) ∷ []) in
    elim (cases_lt 1 draft.left) [
      | inl lt ↦ let t : leb draft.left 1 ≡ false = lt-leb draft.left 1 lt in
          rw t (record { items = are.items; room = omega (arith, are.room, size, lt); closed = λ h. absurd (omega (arith, lt)); calls = calls })
      | inr le ↦ let t : leb draft.left 1 ≡ true = le-leb draft.left 1 le in
          let room : length draft.calls + 1 ≤ 64 = few_calls draft le are in
          rw t (record {
            items = all_and (λ row. ItemFits row.1) draft.items _ are.items (record { count = record { low = omega (arith, size); high = omega (arith, size, room) }; args = calls });
            room = omega arith;
            closed = λ _. refl;
            calls = tt;
          })
    ]

pub call_added : (number : ℕ) (behind : List (List ℕ)) (line : CallLine) (draft : CallDraft) → call_code_of behind line ≡ None → CallLineFits line → CallDraftFits draft → CallDraftFits (with_call_line number behind line draft)
unfolding with_call_line
call_added number behind (Install lines) draft e fits are =
    let there = text_there behind lines e in
    record {
      items = all_and (λ row. ItemFits row.1) draft.items _ are.items (record { some = some_text lines behind fits.low there.are; short = there.few });
      room = are.room;
      closed = are.closed;
      calls = are.calls;
    }
call_added number behind (Put table key value) draft e fits are = record {
  items = all_and (λ row. ItemFits row.1) draft.items _ are.items fits;
  room = are.room;
  closed = are.closed;
  calls = are.calls;
}
call_added number behind (Batch count) draft e fits are = record {
  items = are.items;
  room = omega (arith, fits.high);
  closed = λ h. absurd (omega (arith, fits.low));
  calls = tt;
}
call_added number behind (Invoke asked) draft e fits are = one_call number asked draft fits are

pub none_fit : CallDraftFits no_calls
unfolding no_calls
none_fit = record { items = tt; room = omega arith; closed = λ _. refl; calls = tt }

pub calls_fit : (draft : CallDraft) → CallDraftFits draft → IsCallScript (call_script_of draft)
unfolding call_script_of
calls_fit draft are = are.items
