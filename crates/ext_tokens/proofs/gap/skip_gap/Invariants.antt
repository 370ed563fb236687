-- What was passed is a gap, or a gap with an open comment, and its newlines were counted.
use Rattle.std.proofs.Common.{◌≡◌, ◌≤◌, take}
use Rattle.ext_mean.specs.Tokens.{newlines}
use Rattle.ext_tokens.specs.Gaps.{IsPassed}
use Rattle.ext_tokens.proofs.gap.skip_gap.Given as goal

abbrev pub invariant-loop-size : goal.invariant-loop-size
invariant-loop-size l = record {
  passed : IsPassed l.in_comment (take l.size l.bytes);
  counted : l.lines ≡ newlines (take l.size l.bytes);
  few : l.lines ≤ l.size;
}
