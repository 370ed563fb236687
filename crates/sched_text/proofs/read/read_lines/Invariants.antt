-- what the rest gives behind the draft is what all lines give
use Rattle.std.proofs.Common.{◌≡◌, ◌≤◌, length}
use Rattle.sched_text.specs.Drafts.{no_lines}
use Rattle.sched_text.specs.Fits.{DraftFits}
use Rattle.sched_text.specs.Judged.{after_line, judged_from}
use Rattle.sched_text.specs.Texts.{lines_of}
use Rattle.sched_text.proofs.read.read_lines.Given as goal

abbrev pub invariant-loop-line : goal.invariant-loop-line
invariant-loop-line l = record {
  same : judged_from (after_line l.kind) l.number 0 l.draft (lines_of l.rest) ≡ judged_from (after_line l.kind) 1 0 no_lines (lines_of l.text);
  within : l.number ≤ 65537;
  fits : DraftFits l.draft;
}

abbrev pub decreases-loop-line : goal.decreases-loop-line
decreases-loop-line l = length l.rest
