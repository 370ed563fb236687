-- What is wrong with a line of a script of calls after those before it, and what it adds to them.
use Rattle.std.specs.Prelude.{◌≡◌, ℕ, zero, ◌+◌, ◌-◌, ◌≤◌, nat_le, nat_lt, Bool, false, not, ◌||◌, List, [], ◌∷◌, ◌++◌, length, take, Option, Some, None, Result, Ok, if◌then◌else◌}
use Rattle.std.specs.List.{concat, AllByRecursion}
use Rattle.sp_base.specs.declared.calls.Asked.{Asked}
use Rattle.sp_base.specs.Limits.{IsArguments, IsText}
use Rattle.sched_text.specs.declared.code.LineCode.{LineCode}
use Rattle.sched_text.specs.declared.code.LineCode.TheVariants as code
use Rattle.sched_text.specs.declared.call_draft.CallDraft.{CallDraft}
use Rattle.sched_text.specs.declared.call_line.CallLine.{CallLine}
use Rattle.sched_text.specs.declared.call_line.CallLine.TheVariants.{Install, Put, Batch, Invoke}
use Rattle.sched_text.specs.declared.calls.CallItem.{CallItem}
use Rattle.sched_text.specs.declared.calls.CallItem.TheVariants as item
use Rattle.sched_text.specs.declared.calls.CallScript.{CallScript}
use Rattle.sched_text.specs.Results.{◌>>=◌}
use Rattle.sched_text.specs.Texts.{bare, is_skipped, has_lines}
use Rattle.sched_text.specs.CallLines.{call_line_of}
use Rattle.sched_text.specs.Fits.{IsPut, IsWithin}
use Rattle.sched_text.specs.Judged.{BadLine, unless, judged_whole}

-- whether so many lines that are not passed over are there
abbrev pub has_calls : ℕ → List (List ℕ) → Bool
has_calls count [] = nat_le count 0
has_calls count (line ∷ lines) =
    if is_skipped (bare line) then has_calls count lines else has_calls (count - 1) lines

-- Text: the lines of a text or of a batch are not all there, or a text has more than 16,384 bytes
abbrev pub lacks_lines : List (List ℕ) → CallLine → Bool
lacks_lines behind (Install lines) =
    not (has_lines lines behind) || nat_lt 16384 (length (concat (take lines behind)))
lacks_lines behind (Put table key value) = false
lacks_lines behind (Batch count) = not (has_calls count behind)
lacks_lines behind (Invoke asked) = false

unfoldable pub call_code_of : List (List ℕ) → CallLine → Option LineCode
call_code_of behind line = if lacks_lines behind line then Some code.Text else None

-- how many of the lines behind it are the text of a line
abbrev pub text_lines : CallLine → ℕ
text_lines (Install lines) = lines
text_lines _ = zero

-- whether the next line is one of a batch
abbrev pub in_batch : CallDraft → Bool
in_batch draft = not (nat_le draft.left 0)

-- one more item, of the line of this number
abbrev pub with_item : ℕ → CallItem → CallDraft → CallDraft
with_item number item draft = record draft { items = draft.items ++ (number, item) ∷ [] }

-- one more call of a batch; with its last one the batch is an item
abbrev pub with_call : ℕ → Asked → CallDraft → CallDraft
with_call number asked draft =
    if nat_le draft.left 1
    then record {
      items = draft.items ++ (draft.batch, item.Batch (draft.calls ++ (number, asked) ∷ [])) ∷ [];
      batch = draft.batch;
      left = 0;
      calls = [];
    }
    else record draft { left = draft.left - 1; calls = draft.calls ++ (number, asked) ∷ [] }

-- the draft with what the line of this number says, with these lines behind it
unfoldable pub with_call_line : ℕ → List (List ℕ) → CallLine → CallDraft → CallDraft
with_call_line number behind (Install lines) draft =
    with_item number (item.Install (concat (take lines behind))) draft
with_call_line number behind (Put table key value) draft =
    with_item number (item.Put table key value) draft
with_call_line number behind (Batch count) draft =
    record draft { batch = number; left = count; calls = [] }
with_call_line number behind (Invoke asked) draft = with_call number asked draft

-- what is behind a line: the draft with what it says, and how many lines belong to its text
unfoldable pub after_call : ℕ → List (List ℕ) → CallDraft → CallLine → Result (CallDraft × ℕ) LineCode
after_call number behind draft says =
    unless (call_code_of behind says) (with_call_line number behind says draft, text_lines says)

unfoldable pub after_call_line : ℕ → List ℕ → List (List ℕ) → CallDraft → Result (CallDraft × ℕ) LineCode
after_call_line number line behind draft =
    if is_skipped line then Ok (draft, 0)
    else call_line_of (in_batch draft) line >>= after_call number behind draft

-- the draft before the first line
unfoldable pub no_calls : CallDraft
no_calls = record { items = []; batch = 0; left = 0; calls = [] }

-- the script of a draft
unfoldable pub call_script_of : CallDraft → CallScript
call_script_of draft = record { items = draft.items }

-- ---- what is in its ranges

abbrev pub AreCalls : List (ℕ × Asked) → Type 0
AreCalls calls = AllByRecursion (λ row. IsArguments row.1.args) calls

-- a batch: from 1 to 64 calls
pub record IsBatch (calls : List (ℕ × Asked)) : Type 0 where
  pub count : IsWithin 1 64 (length calls)
  pub args : AreCalls calls

abbrev pub ItemFits : CallItem → Type 0
ItemFits (item.Install text) = IsText text
ItemFits (item.Put table key value) = IsPut key value
ItemFits (item.Batch calls) = IsBatch calls

abbrev pub CallLineFits : CallLine → Type 0
CallLineFits (Install lines) = IsWithin 1 16384 lines
CallLineFits (Put table key value) = IsPut key value
CallLineFits (Batch count) = IsWithin 1 64 count
CallLineFits (Invoke asked) = IsArguments asked.args

-- what was read so far
pub record CallDraftFits (draft : CallDraft) : Type 0 where
  pub items : AllByRecursion (λ row. ItemFits row.1) draft.items
  pub room : draft.left + length draft.calls ≤ 64
  pub closed : draft.left ≡ 0 → draft.calls ≡ []
  pub calls : AreCalls draft.calls

-- texts, keys, values, arguments and batches are within their limits
abbrev pub IsCallScript : CallScript → Type 0
IsCallScript script = AllByRecursion (λ row. ItemFits row.1) script.items

-- the script of calls that a text spells, or its first bad line
unfoldable pub calls_judged : List ℕ → Result CallScript BadLine
calls_judged text = judged_whole after_call_line no_calls call_script_of text
