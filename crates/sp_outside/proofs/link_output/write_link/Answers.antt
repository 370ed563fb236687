use Rattle.std.proofs.Common.{◌∙◌, arith, length-drop, length-take, ℕ}
use Rattle.std.proofs.lemmas.List.{take_rest}
use Rattle.sp_outside.proofs.HearingSteps.{said_more}
use Rattle.sp_outside.proofs.link_output.write_link.Goals as goal

pub loop-done-preserved : goal.loop-done-preserved
loop-done-preserved g c = record {
  within = omega (arith, c.in-Bytes.ensures.within, length-drop {A = ℕ}, length-take {A = ℕ});
  never_falls = omega (arith, c.loop-done.invariant.never_falls, c.in-Bytes.ensures.never_falls);
  said = said_more _ _ _ _ _ _ _ (take_rest c.args.piece.now c.loop-done.done) c.loop-done.invariant.said c.in-Bytes.ensures.said;
  same_left = c.in-Bytes.ensures.same_left ∙ c.loop-done.invariant.same_left;
  same_heard = c.in-Bytes.ensures.same_heard ∙ c.loop-done.invariant.same_heard;
}
