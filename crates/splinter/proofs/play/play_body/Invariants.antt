-- The answers to the events so far have been heard, and the events that are left fit.
use Rattle.std.specs.Prelude.{◌≡◌, ◌++◌}
use Rattle.std.specs.List.{AllByRecursion}
use Rattle.std.specs.Vec.Iter.{into_iter_items}
use Rattle.sim.specs.State.{SimState}
use Rattle.sim.specs.Standing.{FitsEvent, Stands, StandsAt, workers_of}
use Rattle.splinter.specs.Playing.{TellsBody}
use Rattle.splinter.proofs.play.play_body.Given as goal

abbrev pub invariant-loop-line : goal.invariant-loop-line
invariant-loop-line g l = record {
  whole : l.yielded ++ into_iter_items l.line-iterator ≡ l.fn.events;
  fit : AllByRecursion (λ row. FitsEvent (workers_of l.sim) row.1) (into_iter_items l.line-iterator);
  stands : Stands l.sim;
  added : (state : SimState) → StandsAt l.fn.sim state → TellsBody g.L.Listener.heard state l.sim l.yielded l.fn.listener l.listener;
}
