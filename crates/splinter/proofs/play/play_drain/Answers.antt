-- An event more, and the end of the drain.
use Rattle.splinter.proofs.Parts.{step-stands, steps-end, steps-more}
use Rattle.splinter.proofs.play.play_drain.Goals as goal

pub steps-preserved : goal.steps-preserved
steps-preserved g c =
    let added = rw c.if-branch.true at c.in_ok-play_step.ensures.told in record {
      stands = step-stands g.L.Listener.heard c.steps.sim c.play_step.new.sim c.steps.listener c.play_step.new.listener c.steps.invariant.stands added;
      added = λ state at. steps-more g.L.Listener.heard state c.steps.sim c.play_step.new.sim c.args.listener.now c.steps.listener c.play_step.new.listener
          (c.steps.invariant.added state at) added;
    }

pub returns : goal.returns
returns g c =
    let added = rw c.if-branch.false at c.in_ok-play_step.ensures.told in
    λ state at. steps-end g.L.Listener.heard state c.steps.sim c.play_step.new.sim c.args.listener.now c.steps.listener c.play_step.new.listener
    (c.steps.invariant.added state at) added
