-- One byte more is passed.
use Rattle.std.proofs.Common.{refl, arith}
use Rattle.ext_mean.specs.Tokens.{empty}
use Rattle.ext_tokens.proofs.Gaps.{passed-next, newlines-next}
use Rattle.ext_tokens.proofs.gap.skip_gap.Goals as goal

pub loop-size-init : goal.loop-size-init
loop-size-init c = record { passed = empty; counted = refl; few = omega arith }

pub loop-size-preserved : goal.loop-size-preserved
loop-size-preserved c = record {
  passed = passed-next c.loop-size.in_comment c.comment_with-in_comment.result c.stops_at.result c.args.bytes.now c.loop-size.size
      c.loop-size-test.true c.loop-size.invariant.passed c.stops_at.ensures c.if-stops_at.false c.comment_with-in_comment.ensures;
  counted = newlines-next c.loop-size.lines c.line_ends-lines.result c.args.bytes.now c.loop-size.size
      c.loop-size-test.true c.loop-size.invariant.counted c.line_ends-lines.ensures.value;
  few = omega (arith, c.loop-size.invariant.few, c.line_ends-lines.ensures.few);
}
