-- The answers of the events so far have been heard, and each event leaves fewer units to the live calls.
use Rattle.sim.specs.State.{SimState}
use Rattle.sim.specs.Standing.{Stands, StandsAt, units_left}
use Rattle.splinter.specs.Playing.{TellsSteps}
use Rattle.splinter.proofs.play.play_drain.Given as goal

abbrev pub invariant-steps : goal.invariant-steps
invariant-steps g l = record {
  stands : Stands l.sim;
  added : (state : SimState) → StandsAt l.fn.sim state → TellsSteps g.L.Listener.heard state l.sim l.fn.listener l.listener;
}

abbrev pub decreases-steps : goal.decreases-steps
decreases-steps g l = units_left l.sim
