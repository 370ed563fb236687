-- what the rest gives behind the draft is what all lines give
use Rattle.std.proofs.Common.{◌≡◌, ◌≤◌, length}
use Rattle.sched_text.specs.CallDrafts.{after_call_line, no_calls, CallDraftFits}
use Rattle.sched_text.specs.Judged.{judged_from}
use Rattle.sched_text.specs.Texts.{lines_of}
use Rattle.sched_text.proofs.read.read_call_lines.Given as goal

abbrev pub invariant-loop-line : goal.invariant-loop-line
invariant-loop-line l = record {
  same : judged_from after_call_line l.number 0 l.draft (lines_of l.rest) ≡ judged_from after_call_line 1 0 no_calls (lines_of l.text);
  within : l.number ≤ 65537;
  fits : CallDraftFits l.draft;
}

abbrev pub decreases-loop-line : goal.decreases-loop-line
decreases-loop-line l = length l.rest
